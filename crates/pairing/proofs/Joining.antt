-- The steps made: entries at 0 go, and those of the second ledger follow.
use mathlib.Core.Path.{◌≡◌, refl}
use mathlib.Core.Bool.{true}
use mathlib.Core.List.{List, ◌++◌}
use Prim.Native.Nat.{ℕ, ◌+◌, ◌≤◌}
use native.Mathlib.Omega.{arith}
use lib.ListN.{length, replicate, length-replicate}
use Rattle.rules.specs.Ledger.{is_from, is_to, count_of, Pairing, pairing, most_steps}
use Rattle.rules.specs.Book.{entries, entry_sound}
use Rattle.laws.proofs.Basics.{each_map}
use Rattle.laws.proofs.Sound.{SoundEntry, all_each, entry_parts}
use Rattle.laws.proofs.Pairing.{pairing_steps}
use Rattle.ledger.specs.Columns.{Whole, Held, Kept, without_zeros}
use Rattle.ledger.proofs.Entries.{kept_held, kept_entries}
use Rattle.seeking.proofs.Passing.{none_start}
use Rattle.removing.specs.Moves.{zero_at, Removable}
use Rattle.stepping.specs.declared.Made.{Made}
use Rattle.stepping.specs.Steps.{Pairable, WasMade}
use Rattle.pairing.specs.Pairs.{WasPaired}

-- columns of zeros hold no entry
pub zeros_held : Held 0 (replicate 2048 0) (replicate 2048 0) (replicate 2048 0) (replicate 2048 0) (replicate 2048 0)
zeros_held =
    let l : length (replicate {A = ℕ} 2048 0) ≡ 2048 = length-replicate {A = ℕ} 2048 0 in
    record {
      most = omega arith;
      whole = record { issues = l; froms = l; tos = l; lotss = l; dayss = l };
      columns = record { issues = refl; froms = refl; tos = refl; lotss = refl; dayss = refl };
    }

module _ {p : Pairing} {n : ℕ} {r : Made} {is fs ts xs ds mi mf mt mx md : List ℕ} (m : WasMade p n r is fs ts xs ds mi mf mt mx md)
    {w : ℕ} {is' fs' ts' xs' ds' : List ℕ} (q : Kept (without_zeros (entries n is fs ts xs ds)) w is' fs' ts' xs' ds') where
  pub join_few : w + r.more ≤ 2048
  join_few = omega (arith, q.count, m.few, m.held.most)

  pub join_held : Held w is' fs' ts' xs' ds'
  join_held = kept_held (without_zeros (entries n is fs ts xs ds)) w is' fs' ts' xs' ds' q (omega (arith, q.count, join_few))

  module _ {i₃ f₃ t₃ x₃ d₃ : List ℕ} (k : Kept (entries w is' fs' ts' xs' ds' ++ entries r.more mi mf mt mx md) (w + r.more) i₃ f₃ t₃ x₃ d₃) where
    pub joined : WasPaired p (record { steps = r.steps; cancelled = r.cancelled; entries = w + r.more }) i₃ f₃ t₃ x₃ d₃
    joined =
        let e = kept_entries (without_zeros (entries n is fs ts xs ds)) w is' fs' ts' xs' ds' q in
        record {
          steps = m.steps;
          cancelled = m.cancelled;
          ledger = rw m.ledger (rw e at k);
        }

    pub joined_whole : Whole i₃ f₃ t₃ x₃ d₃
    joined_whole =
        (kept_held (entries w is' fs' ts' xs' ds' ++ entries r.more mi mf mt mx md) (w + r.more) i₃ f₃ t₃ x₃ d₃ k
        (omega (arith, k.count, join_few))).whole

-- entries at 0 stand anywhere
pub made_removable : {p : Pairing} {n : ℕ} {r : Made} {is fs ts xs ds mi mf mt mx md : List ℕ} → WasMade p n r is fs ts xs ds mi mf mt mx md →
    Removable n 0 n is fs ts xs ds
made_removable {n = n} {xs = xs} m =
    record {
      held = m.held;
      part = omega arith;
      inside = omega arith;
      none_before = none_start (zero_at xs) 0;
      none_behind = none_start (zero_at xs) n;
    }

-- the steps are few
pub few_steps_lem : (today i a n s : ℕ) (is fs ts xs ds : List ℕ) → Pairable n i is fs ts xs ds →
    s ≡ (pairing today i a (entries n is fs ts xs ds)).steps →
    s ≤ most_steps (count_of (is_to i a) (entries n is fs ts xs ds)) (count_of (is_from i a) (entries n is fs ts xs ds))
few_steps_lem today i a n s is fs ts xs ds p e =
    let es = entries n is fs ts xs ds in
    rw e (pairing_steps today i a es (each_map (λ e. entry_sound e ≡ true) SoundEntry entry_parts es (all_each entry_sound es p.sound)))
