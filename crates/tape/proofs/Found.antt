-- Two words that are right are read as the instruction that their head is.
use mathlib.Core.Path.{◌≡◌, sym, ap, ◌∙◌}
use mathlib.Core.Bool.{Bool, true, cond}
use mathlib.Core.List.{List, [], ◌∷◌}
use Prim.Native.Nat.{ℕ, ◌-◌, ◌/◌, ◌%◌}
use lib.ListN.{length, take, drop}
use native.Mathlib.Omega.{arith}
use Rattle.std.specs.Prelude.{Option, Some, Ok}
use Rattle.rules.specs.declared.Instruction.{Instruction}
use Rattle.rules.specs.declared.Instruction.TheVariants as instruction
use Rattle.rules.specs.declared.Word.{Word}
use Rattle.rules.specs.declared.Word.TheVariants.{Head}
use Rattle.rules.specs.Records.{issue_bits, from_bits, to_bits, lots_bits, of_field}
use Rattle.rules.specs.Tape.{kind_of, word_as, is_after, read_as, read_from, read_of}
use Rattle.tape.specs.declared.Delivery.{Delivery}
use Rattle.tape.specs.declared.Trade.{Trade}
use Rattle.tape.proofs.Rest.{rest_part}
use Rattle.tape.specs.Found.{TwoWords, FoundTrade, FoundDelivery}

div_one : (x : ℕ) → x / 1 ≡ x
div_one x = omega arith

mod_one : (x : ℕ) → x % 1 ≡ 0
mod_one x = omega arith

lots_word_lem : (y : ℕ) → kind_of y ≡ 8 → is_after 8 (word_as y 0) ≡ true
lots_word_lem y h = simp (h, mod_one)

-- two words are read as the instruction that their head is
read_two : (ws : List ℕ) (kind unused head lots : ℕ) (x : Instruction) → TwoWords ws kind unused head lots →
    word_as head (of_field lots_bits lots) ≡ Some (Head x 8 2) → read_of ws ≡ Ok (x, 2)
unfolding read_of
read_two [] kind unused head lots x t e = absurd (omega (arith, t.two))
read_two (w ∷ []) kind unused head lots x t e = absurd (omega (arith, t.two))
read_two (w ∷ y ∷ ws) kind unused head lots x t e =
    let k : kind_of y ≡ 8 = sym (ap kind_of t.lots) ∙ t.after in
    ap (λ (z : ℕ). read_from (word_as z (of_field lots_bits y)) (y ∷ ws)) (sym t.head)
    ∙ ap (λ (z : ℕ). read_from (word_as head (of_field lots_bits z)) (y ∷ ws)) (sym t.lots)
    ∙ ap (λ (f : Option Word). read_from f (y ∷ ws)) e ∙ ap (λ (b : Bool). read_as (cond b 0 14) x 2) (lots_word_lem y k)

-- those of a trade, and of a delivery
trade_head : (w x : ℕ) → kind_of w ≡ 1 → w % 4096 ≡ 0 →
    word_as w x ≡ Some (Head (instruction.Trade (of_field issue_bits w) (of_field from_bits w) (of_field to_bits w) x) 8 2)
trade_head w x k u = simp (k, u, div_one)

deliver_head : (w x : ℕ) → kind_of w ≡ 2 → w % 262144 ≡ 0 →
    word_as w x ≡ Some (Head (instruction.Deliver (of_field issue_bits w) (of_field from_bits w) x) 8 2)
deliver_head w x k u = simp (k, u, div_one)

pub read_trade : (ws : List ℕ) (head lots : ℕ) → TwoWords ws 1 4096 head lots →
    read_of ws ≡ Ok (instruction.Trade (of_field issue_bits head) (of_field from_bits head) (of_field to_bits head) (of_field lots_bits lots), 2)
read_trade ws head lots t = read_two ws 1 4096 head lots _ t (trade_head head (of_field lots_bits lots) t.kind t.clear)

pub read_deliver : (ws : List ℕ) (head lots : ℕ) → TwoWords ws 2 262144 head lots →
    read_of ws ≡ Ok (instruction.Deliver (of_field issue_bits head) (of_field from_bits head) (of_field lots_bits lots), 2)
read_deliver ws head lots t = read_two ws 2 262144 head lots _ t (deliver_head head (of_field lots_bits lots) t.kind t.clear)

-- what is found of the words from a place on is read there

pub found_trade : (ws : List ℕ) (at : ℕ) (r : Option Trade) (t : Trade) → r ≡ Some t → FoundTrade (take (length ws - at) (drop at ws)) r →
    read_of (drop at ws) ≡ Ok (instruction.Trade t.issue t.from t.to t.lots, 2)
found_trade ws at r t e h = ap read_of (sym (rest_part ws at)) ∙ (rw e at h)

pub found_delivery : (ws : List ℕ) (at : ℕ) (r : Option Delivery) (d : Delivery) → r ≡ Some d → FoundDelivery (take (length ws - at) (drop at ws)) r →
    read_of (drop at ws) ≡ Ok (instruction.Deliver d.issue d.account d.lots, 2)
found_delivery ws at r d e h = ap read_of (sym (rest_part ws at)) ∙ (rw e at h)
