-- The scan of lifts, where nets and delivered lots are sound.
use Rattle.std.specs.Prelude.{◌≡◌, Bool, true, false, List, ℕ, ◌≤◌, ◌<◌, length, ℤ}
use Rattle.rules.specs.declared.Phase.{Phase}
use Rattle.rules.specs.Measures.{issue_count, most_lots}
use Rattle.rules.specs.Book.{tabulate, all, within_size, lift_number, lifts_sound, order_in}
use Rattle.balancing.specs.Scan.{nets_sound}

-- each issue's lifts are sound
unfoldable pub all_lifts : Phase → List ℤ → List ℕ → List ℕ → Bool
all_lifts phase ns ds ls = all (lifts_sound phase (order_in false ns ls) ds ls) (tabulate (λ i. i) 0 issue_count)

pub record CanScan (ns : List ℤ) (ds ls : List ℕ) : Type 0 where
  pub nets : length ns ≡ 1024
  pub delivered : length ds ≡ 1024
  pub lifts : length ls ≡ 288
  pub sound : nets_sound ns ds ≡ true

pub record CanPlace (ns : List ℤ) (ls : List ℕ) (i : ℕ) : Type 0 where
  pub nets : length ns ≡ 1024
  pub lifts : length ls ≡ 288
  pub issue : i < 16
  pub size : all (within_size most_lots) ns ≡ true
  pub few : lift_number ls i ≤ 8
