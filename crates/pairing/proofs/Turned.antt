-- What a pair-off does to the book whose ledger it is lent.
use mathlib.Core.Path.{◌≡◌, refl}
use mathlib.Core.List.{List}
use Prim.Native.Nat.{ℕ}
use Rattle.rules.specs.declared.Book.{Book}
use Rattle.rules.specs.declared.State.{State}
use Rattle.rules.specs.Ledger.{pairing}
use Rattle.rules.specs.Book.{entries, with_entries}
use Rattle.rules.specs.Calls.{PairOff, effect}
use Rattle.answers.specs.Turns.{within_ledger}
use Rattle.answers.proofs.Turning.{Does}
use Rattle.pairing.specs.declared.Steps.{Steps}
use Rattle.pairing.specs.Pairs.{WasPaired}

pub paired_off_lem : (s s' : State) (is fs ts xs ds : List ℕ) (i a : ℕ) (r : Steps) (is' fs' ts' xs' ds' : List ℕ) (b : Book) (out : List ℕ) →
    s' ≡ with_entries s r.entries → WasPaired (pairing s.day i a (entries s.entries is fs ts xs ds)) r is' fs' ts' xs' ds' →
    Does (effect (within_ledger s is fs ts xs ds b) (PairOff i a)) out r.steps r.cancelled (within_ledger s' is' fs' ts' xs' ds' b) out
paired_off_lem s s' is fs ts xs ds i a r is' fs' ts' xs' ds' b out e w =
    let c = w.ledger.columns in
    record {
      count = w.steps;
      cancelled = w.cancelled;
      book = rw (e, w.ledger.count, c.issues, c.froms, c.tos, c.lotss, c.dayss);
      written = refl;
    }
