-- What a cutoff asks and does, of the book whose columns it is lent.
use mathlib.Core.Path.{◌≡◌, refl, subst}
use mathlib.Core.Bool.{Bool}
use mathlib.Core.List.{List}
use Prim.Native.Nat.{ℕ}
use lib.IntN.{ℤ}
use Rattle.rules.specs.declared.Book.{Book}
use Rattle.rules.specs.declared.Phase.TheVariants.{Cut}
use Rattle.rules.specs.declared.State.{State}
use Rattle.rules.specs.Book.{in_force, with_phase, with_entries}
use Rattle.rules.specs.Questions.{first_no}
use Rattle.rules.specs.Calls.{Cutoff, own_asks, effect}
use Rattle.answers.specs.Turns.{within_cells, but_charges}
use Rattle.answers.proofs.Turning.{Does}
use Rattle.cutting.specs.declared.Counts.{Counts}
use Rattle.cutting.specs.Write.{lent}
use Rattle.cutoff.specs.All.{Asked, WasCutAll}

-- a cutoff's questions, by the order of the day
pub cut_asked : (s : State) (new : Bool) (nets : List ℤ) (delivered lifts : List ℕ) (r : ℕ) (b : Book) → new ≡ in_force s.turn s.day →
    Asked new s.phase s.entries nets delivered lifts r → r ≡ first_no (own_asks (within_cells s nets delivered lifts b) Cutoff)
cut_asked s new nets delivered lifts r b e k = subst (λ (o : Bool). Asked o s.phase s.entries nets delivered lifts r) e k s.day

pub was_cut : (s s' : State) (new : Bool) (nets : List ℤ) (delivered lifts is fs ts xs ds out : List ℕ) (r : Counts) (is' fs' ts' xs' ds' out' : List ℕ) (b : Book) →
    s' ≡ with_entries (with_phase s Cut) r.entries → new ≡ in_force s.turn s.day →
    WasCutAll new nets delivered lifts s.day s.entries (lent is fs ts xs ds out) r (lent is' fs' ts' xs' ds' out') →
    Does (effect (but_charges s nets delivered lifts is fs ts xs ds b) Cutoff) out r.records 0 (but_charges s' nets delivered lifts is' fs' ts' xs' ds' b) out'
was_cut s s' new nets delivered lifts is fs ts xs ds out r is' fs' ts' xs' ds' out' b e o v =
    let w = subst (λ (n : Bool). WasCutAll n nets delivered lifts s.day s.entries (lent is fs ts xs ds out) r (lent is' fs' ts' xs' ds' out')) o v in
    let c = w.columns in
    record {
      count = w.records;
      cancelled = refl;
      book = rw (e, w.entries, c.issues, c.froms, c.tos, c.lotss, c.dayss);
      written = w.out;
    }
