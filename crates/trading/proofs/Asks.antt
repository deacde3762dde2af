-- What it means that none of trade's questions is answered 'no'.
use mathlib.Core.Path.{◌≡◌}
use mathlib.Core.Bool.{true}
use mathlib.Core.List.{List}
use Prim.Native.Nat.{ℕ}
use native.Mathlib.Omega.{arith}
use lib.Dec.{leb, eqb}
use lib.IntN.{ℤ}
use lib.ListN.{length}
use borrow.Author.Tests.{leb-true, eqb-false, not-true}
use Rattle.rules.specs.declared.Book.{Book}
use Rattle.rules.specs.declared.Phase.{Phase}
use Rattle.rules.specs.Measures.{most_lots}
use Rattle.rules.specs.Book.{sound}
use Rattle.rules.specs.Questions.{first_no}
use Rattle.rules.specs.Calls.{trade_asks}
use Rattle.laws.proofs.Basics.{and_left, and_right}
use Rattle.laws.proofs.Sound.{sound_parts, net_bounded}
use Rattle.laws.proofs.Answers.{all_yes}
use Rattle.trading.specs.Trading.{SmallNets, Tradable}

-- all of them answered 'yes'
pub tradable : (p : Phase) (marks : List ℕ) (nets : List ℤ) (i f t x : ℕ) → SmallNets nets →
    first_no (trade_asks p marks nets i f t x) ≡ 0 → Tradable nets i f t x
tradable p marks nets i f t x s h =
    let y = (all_yes (trade_asks p marks nets i f t x) (omega arith) h).1 in
    record {
      column = s;
      issue = omega (arith, leb-true i 15 y.0);
      from = omega (arith, leb-true f 63 (and_left (leb f 63) (leb t 63) y.1.0));
      to = omega (arith, leb-true t 63 (and_right (leb f 63) (leb t 63) y.1.0));
      differ = eqb-false f t (not-true (eqb f t) y.1.1.0);
      lots = leb-true x most_lots (and_right (leb 1 x) (leb x most_lots) y.1.1.1.0);
    }

-- the nets of a sound book
pub small_nets : (b : Book) → sound b ≡ true → length b.nets ≡ 1024 → SmallNets b.nets
small_nets b s l = record { cells = l; small = net_bounded b (sound_parts b s) }
