-- Question after question.
use Rattle.std.proofs.Common.{◌∙◌, sym, refl}
use Rattle.std.proofs.lemmas.Result.{err_from_is_err_and}
use Rattle.opening.proofs.Sealing.{some_fault}
use Rattle.opening.proofs.Reading.{not_sealed_no, sealed_long, unfit, unsound, judged_yes}
use Rattle.opening.proofs.judge.Goals as goal

pub returns-in_err-sealed : goal.returns-in_err-sealed
returns-in_err-sealed c =
    let p = err_from_is_err_and c.from_residual.result c.from_residual.ensures.1 in
    rw (p.1, p.2) (not_sealed_no c.args.words.now _ _ c.in_err-sealed.ensures (some_fault _) refl)

pub take_state-requires : goal.take_state-requires
take_state-requires c = sealed_long c.args.words.now c.in_ok-sealed.ensures

pub returns-in_default : goal.returns-in_default
returns-in_default c = unfit c.args.words.now c.in_ok-sealed.ensures c.in_default.ensures

pub sound_words-requires : goal.sound_words-requires
sound_words-requires c = sealed_long c.args.words.now c.in_ok-sealed.ensures

pub returns-then-not-sound_words : goal.returns-then-not-sound_words
returns-then-not-sound_words c =
    unsound c.args.words.now c.in_ok-sealed.ensures c.in-Some.state c.in-Some.ensures (sym c.sound_words.ensures ∙ c.if-not-sound_words.true)

pub returns : goal.returns
returns c =
    judged_yes c.args.words.now c.in_ok-sealed.ensures c.in-Some.state c.in-Some.ensures (sym c.sound_words.ensures ∙ c.if-not-sound_words.false)
