-- Question after question.
use Rattle.std.proofs.Common.{◌≡◌, ◌∙◌, ◌-◌, ap, sym, drop, length, arith}
use lib.ListN.{length-drop}
use lib.Seq.{take_all}
use Rattle.checksums.specs.Sums.{weighted}
use Rattle.opening.proofs.Sealing.{not_long, not_version, not_sealed, is_sealed}
use Rattle.opening.proofs.sealed.Goals as goal

pub returns-then-words-ne-WORDS : goal.returns-then-words-ne-WORDS
returns-then-words-ne-WORDS c = not_long c.args.words.now c.if-words-ne-WORDS.true

pub returns-then-words-ne-VERSION : goal.returns-then-words-ne-VERSION
returns-then-words-ne-VERSION c =
    not_version c.args.words.now c.if-words-ne-WORDS.false (λ k. omega (arith, c.type_inv.words k)) c.if-words-ne-VERSION.true

pub returns-then-words-t : goal.returns-then-words-t
returns-then-words-t c =
    let t : c.checksum-t.result ≡ weighted (drop 3 c.args.words.now) =
    c.checksum-t.ensures ∙ ap weighted (take_all (length c.args.words.now - 3) (drop 3 c.args.words.now) (omega (arith, length-drop 3 c.args.words.now))) in
    not_sealed c.args.words.now c.if-words-ne-WORDS.false (λ k. omega (arith, c.type_inv.words k)) c.if-words-ne-VERSION.false
    (λ e. c.if-words-t.true (e ∙ sym t))

pub returns : goal.returns
returns c =
    let t : c.checksum-t.result ≡ weighted (drop 3 c.args.words.now) =
    c.checksum-t.ensures ∙ ap weighted (take_all (length c.args.words.now - 3) (drop 3 c.args.words.now) (omega (arith, length-drop 3 c.args.words.now))) in
    is_sealed c.args.words.now c.if-words-ne-WORDS.false (λ k. omega (arith, c.type_inv.words k)) c.if-words-ne-VERSION.false
    (c.if-words-t.false ∙ t)
