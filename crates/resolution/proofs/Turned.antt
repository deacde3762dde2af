-- What a resolve does to the book whose ledger it is lent.
use mathlib.Core.Path.{◌≡◌, refl}
use mathlib.Core.List.{List}
use Prim.Native.Nat.{ℕ}
use Rattle.rules.specs.declared.Book.{Book}
use Rattle.rules.specs.declared.State.{State}
use Rattle.rules.specs.Book.{entries, with_entries}
use Rattle.rules.specs.Calls.{Resolve, effect}
use Rattle.answers.specs.Turns.{within_ledger}
use Rattle.answers.proofs.Turning.{Does}
use Rattle.resolution.specs.declared.Counts.{Counts}
use Rattle.resolution.specs.Resolving.{Resolved}

pub resolved : (s s' : State) (is fs ts xs ds out : List ℕ) (i a x : ℕ) (r : Counts) (is' fs' ts' xs' ds' out' : List ℕ) (b : Book) →
    s' ≡ with_entries s r.entries → Resolved (entries s.entries is fs ts xs ds) i a x r is' fs' ts' xs' ds' out out' →
    Does (effect (within_ledger s is fs ts xs ds b) (Resolve i a x)) out r.records 0 (within_ledger s' is' fs' ts' xs' ds' b) out'
resolved s s' is fs ts xs ds out i a x r is' fs' ts' xs' ds' out' b e w =
    let c = w.columns in
    record {
      count = w.records;
      cancelled = refl;
      book = rw (e, w.entries, c.issues, c.froms, c.tos, c.lotss, c.dayss);
      written = w.written;
    }
