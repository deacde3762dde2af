-- Only kind 7 is read as a roll, and the words of its 32 quotes were asked: a roll that is read is whole.
use mathlib.Core.Path.{◌≡◌, refl, sym}
use mathlib.Core.List.{List, [], ◌∷◌}
use Prim.Native.Nat.{ℕ, ◌≤◌}
use native.Mathlib.Omega.{arith}
use lib.ListN.{length}
use lib.Seq.{sets}
use Rattle.rules.specs.declared.Instruction.TheVariants.{Roll}
use Rattle.std.specs.Prelude.{Ok}
use Rattle.rules.specs.Measures.{quote_count, tape_words}
use Rattle.rules.specs.Tape.{kind_of, Kind, head, after, none, kind_at, read_of, quotes_of}
use Rattle.rereading.proofs.Table.{by_kind}
use Rattle.rereading.proofs.Sized.{read_is, read_sized}
use Rattle.tape.proofs.QuoteWords.{quotes_filled}

abbrev QuotesAfter : Kind → Type 0
QuotesAfter (head u n k f) = (w x days rate : ℕ) → f w x ≡ Roll days rate → n ≡ quote_count
QuotesAfter (after u) = Unit {0}
QuotesAfter none = Unit {0}

-- no other instruction is a roll
quotes_after : (k : ℕ) → QuotesAfter (kind_at k)
quotes_after k =
    by_kind (λ k K. QuotesAfter K) (λ k. tt) (λ k u. tt) (λ w x d r e. cc) (λ w x d r e. cc) (λ w x d r e. cc) (λ w x d r e. cc) (λ w x d r e. cc) (λ w x d r e. cc) (λ w x d r e. refl) (λ w x d r e. cc) (λ w x d r e. cc) k

pub roll_whole : (ws : List ℕ) (days rate n : ℕ) → read_of ws ≡ Ok (Roll days rate, n) → tape_words ≤ length ws
unfolding read_of
roll_whole [] days rate n e = let z : ◌≡◌ {A = ℕ} 0 1 = cc in absurd (omega arith)
roll_whole (w ∷ rest) days rate n e =
    let f = (read_is w rest (Roll days rate) n e).first in
    let s = rw f.line at (quotes_after (kind_of w)) in
    omega (arith, s w _ days rate (sym f.is), f.count, (read_sized (w ∷ rest) (Roll days rate) n e).1)

-- its quotes fill 32 lent numbers
pub roll_quotes : (ws lent : List ℕ) (days rate n : ℕ) → read_of ws ≡ Ok (Roll days rate, n) → length lent ≡ quote_count →
    sets lent 0 (quotes_of ws) ≡ quotes_of ws
roll_quotes ws lent days rate n e h = quotes_filled ws lent (roll_whole ws days rate n e) h
