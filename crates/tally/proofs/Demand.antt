-- Demand 3, of every list of calls: the invariant is there at the start, each call keeps it, and it
-- says what demand 3 asks.
use mathlib.Core.List.{List, [], ◌∷◌}
use Prim.Native.Nat.{ℕ}
use Rattle.rules.specs.Calls.{Call, Trade, Close, Deliver, Ask, Commit, Cutoff, Resolve, PairOff, Roll, Mark, Turn}
use Rattle.rules.specs.Tally.{Tallied, CallList, after, after_all, start, Demand3OfAll}
use Rattle.tally.proofs.Invariant.{Inv}
use Rattle.tally.proofs.Shown.{shown}
use Rattle.tally.proofs.Taking.{starts, keeps_trade, keeps_close}
use Rattle.tally.proofs.Delivering.{keeps_deliver}
use Rattle.tally.proofs.Lifting.{keeps_ask, keeps_commit}
use Rattle.tally.proofs.Cutting.{keeps_cutoff}
use Rattle.tally.proofs.Resolving.{keeps_resolve}
use Rattle.tally.proofs.PairingOff.{keeps_pair_off}
use Rattle.tally.proofs.Rolling.{keeps_roll}
use Rattle.tally.proofs.Marking.{keeps_mark, keeps_turn}

pub keeps : (s : Tallied) (c : Call) (out : List ℕ) → Inv s → Inv (after s c out)
keeps s (Trade i f t x) out v = keeps_trade s v i f t x out
keeps s Close out v = keeps_close s v out
keeps s (Deliver i a x) out v = keeps_deliver s v i a x out
keeps s (Ask i k) out v = keeps_ask s v i k out
keeps s (Commit t) out v = keeps_commit s v t out
keeps s Cutoff out v = keeps_cutoff s v out
keeps s (Resolve i a x) out v = keeps_resolve s v i a x out
keeps s (PairOff i a) out v = keeps_pair_off s v i a out
keeps s (Roll days rate quotes) out v = keeps_roll s v days rate quotes out
keeps s (Mark i m) out v = keeps_mark s v i m out
keeps s (Turn d) out v = keeps_turn s v d out

keeps_all : (s : Tallied) (cs : CallList) → Inv s → Inv (after_all s cs)
keeps_all s [] v = v
keeps_all s (c ∷ cs) v = keeps_all (after s c.0 c.1) cs (keeps s c.0 c.1 v)

pub reached : (cs : CallList) → Inv (after_all start cs)
reached cs = keeps_all start cs starts

pub demand3 : Demand3OfAll
demand3 cs = shown (after_all start cs) (reached cs)
