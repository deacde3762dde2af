-- One read behind the bytes that were kept leaves those as they are.
use mathlib.Core.Path.{subst}
use Rattle.std.proofs.Common.{arith, rules, ◌++◌, ◌-◌, length, take, drop, ℕ}
use Rattle.input.specs.Fed.{Refilled}
use Rattle.input.proofs.Bytes.{refilled}
use Rattle.input.proofs.refill.Goals as goal

pub returns : goal.returns
returns g c =
    let k = c.shift-left in
    let left = k.result in
    let shifted = k.new.buffer in
    let back = c.receive.new.room ++ drop (length shifted - left) (drop left shifted) in
    subst (λ (n : ℕ). Refilled c.args.buffer.now (take left shifted ++ back) c.args.start n c.receive.result) k.ensures.1
    (refilled c.args.buffer.now shifted back c.args.start left _ c.receive.result (search rules) (search rules) (omega (arith, k.ensures.0.size)) k.ensures.0.front c.receive.ensures)
