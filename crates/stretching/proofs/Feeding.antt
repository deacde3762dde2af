-- Runs one after the other: what each has of some rounds, behind the stretches of the units before it.
use mathlib.Core.Path.{◌≡◌, refl, sym, ap, subst, ◌∙◌}
use mathlib.Core.List.{List, [], ◌++◌, map, append-nil, append_assoc}
use Prim.Native.Nat.{ℕ, suc, ◌+◌, ◌≤◌, ◌<◌}
use native.Mathlib.Omega.{arith}
use native.Mathlib.Numerals.{add-one}
use lib.Dec.{leb}
use lib.ListN.{length, drop, get_or}
use Rattle.rules.specs.Measures.{unit_lots}
use Rattle.rules.specs.Units.{AccountLots}
use Rattle.rules.specs.Fails.{stretches}
use Rattle.laws.proofs.Basics.{either, each_drop}
use Rattle.runs.specs.Runs.{part_of, runs_in, units_of_run, units_of_runs, Plain}
use Rattle.runs.proofs.Loops.{runs_at_lem, runs_end}
use Rattle.stretching.specs.Adding.{StretchesOf, Indexed, share_of, shares_in, CanAdd, Added, CanFeed, Fed}
use Rattle.stretching.proofs.Adding.{fits_front}

-- A run's share

pub share_plain : (r n : ℕ) (u : AccountLots) → Plain u → Plain (share_of r n u)
share_plain r n u p =
    either Plain (leb unit_lots u.lots) (λ h. omega arith) p

-- One after the other

-- behind some units, what was added of all, and what is left
pub record Feeding (runs : List ℕ) (y r n : ℕ) (all : List AccountLots) (before out : List ℕ) (c : ℕ) (at : List ℕ) (j k : ℕ) : Type 0 where
  pub whole : length out ≡ 144
  pub index : Indexed out k at
  pub done : List AccountLots
  pub list : (us : List AccountLots) → StretchesOf before c us → StretchesOf out k (us ++ done)
  pub left : done ++ units_of_runs (map (share_of r n) (drop j (runs_in runs y))) ≡ all

module _ (runs : List ℕ) (x y r n : ℕ) (before : List ℕ) (c : ℕ) (at₀ : List ℕ) (can : CanFeed runs x y r n before c at₀) where
  abbrev all : List AccountLots
  all = shares_in runs x y r n

  pub feed_starts : Feeding runs y r n all before before c at₀ x c
  unfolding shares_in
  feed_starts = record {
    whole = can.room.whole;
    index = can.room.index;
    done = [];
    list = λ us s. s ∙ ap (stretches unit_lots) (sym (append-nil us));
    left = refl;
  }

  pub feed_ends : (out at : List ℕ) (j k : ℕ) → y ≤ j → Feeding runs y r n all before out c at j k → Fed runs x y r n before out c at k
  feed_ends out at j k h f =
      let z : units_of_runs (map (share_of r n) (drop j (runs_in runs y))) ≡ [] =
      ap (λ l. units_of_runs (map (share_of r n) l)) (runs_end runs y j can.there h) in
      let e : f.done ≡ all = sym (append-nil f.done) ∙ ap (λ l. f.done ++ l) (sym z) ∙ f.left in
      record {
        list = λ us s. f.list us s ∙ ap (λ l. stretches unit_lots (us ++ l)) e;
        index = f.index;
      }

  -- one run more
  module _ (out at : List ℕ) (j k : ℕ) (h : j < y) (f : Feeding runs y r n all before out c at j k) (w : ℕ)
      (e : part_of w ≡ share_of r n (part_of (get_or runs j 0))) where
    abbrev u : List AccountLots
    u = units_of_run (part_of w)

    abbrev rest : List AccountLots
    rest = units_of_runs (map (share_of r n) (drop (suc j) (runs_in runs y)))

    here : units_of_runs (map (share_of r n) (drop j (runs_in runs y))) ≡ u ++ rest
    here =
        ap (λ l. units_of_runs (map (share_of r n) l)) (runs_at_lem runs y j can.there h) ∙ ap (λ v. units_of_run v ++ rest) (sym e)

    plain : Plain (part_of (get_or runs j 0))
    plain = (rw (runs_at_lem runs y j can.there h) at (each_drop Plain j (runs_in runs y) can.plain)).0

    all_of : (us : List AccountLots) → us ++ all ≡ ((us ++ f.done) ++ u) ++ rest
    all_of us =
        sym (append_assoc (us ++ f.done) u rest ∙ append_assoc us f.done (u ++ rest)
        ∙ ap (λ l. us ++ l) (ap (λ l. f.done ++ l) (sym here) ∙ f.left))

    pub can_add : CanAdd out k at w
    can_add =
        let us = can.room.units in
        record {
          room = record {
            whole = f.whole;
            index = f.index;
            units = us ++ f.done;
            list = f.list us can.room.list;
            fits = fits_front ((us ++ f.done) ++ u) rest (rw (all_of us) at can.room.fits);
          };
          plain = subst Plain (sym e) (share_plain r n (part_of (get_or runs j 0)) plain);
        }

    pub feed_next : (out' at' : List ℕ) (k' : ℕ) → length out' ≡ length out → Added out out' k at' w k' →
        Feeding runs y r n all before out' c at' (j + 1) k'
    feed_next out' at' k' l a = record {
      whole = l ∙ f.whole;
      index = a.index;
      done = f.done ++ u;
      list = λ us s. a.list (us ++ f.done) (f.list us s) ∙ ap (stretches unit_lots) (append_assoc us f.done u);
      left = rw add-one (append_assoc f.done u rest ∙ ap (λ l. f.done ++ l) (sym here) ∙ f.left);
    }
