-- A round that left the inventories as they were is made again: as often as what it delivered is still owed, and as every
-- issue's units allow.
use mathlib.Core.Path.{◌≡◌, sym, ap, subst, ◌∙◌}
use mathlib.Core.List.{List}
use Prim.Native.Nat.{ℕ, zero, suc, ◌+◌, ◌*◌, ◌/◌, ◌%◌, ◌≤◌, ◌<◌}
use native.Mathlib.Omega.{arith}
use native.Mathlib.Nat.{one-mul}
use lib.Dec.{eqb}
use lib.ListN.{length, get_or}
use lib.Seq.{ext_get_or}
use lib.IntN.{ℤ}
use borrow.Author.Tests.{eqb-true, eqb-false}
use Rattle.rules.specs.Units.{units}
use Rattle.rules.specs.Fails.{undelivered}
use Rattle.rules.specs.Book.{delivered_total, dues_of}
use Rattle.laws.proofs.Basics.{by_test}
use Rattle.laws.proofs.Fails.{get_or_shorts}
use Rattle.desks.specs.Desk.{Plan, plan, Desk, desk, still_owed, turns_from, round}
use Rattle.simulation.specs.Repeated.{plus_times, Again, AgainFor, OwedFor}
use Rattle.rounds.specs.Turns.{Rounded}
use Rattle.simulation.proofs.Stops.{Whole, goes_turn, goes_round}
use Rattle.simulation.proofs.Leaps.{shift, Repeats, desk_same, place, turn_at, turn_own, turn_other, length_plus, get_or_plus, total_plus}
use Rattle.leaps.proofs.Columns.{length_less}

-- delivered lots never fall
turn_grows : (p : Plan) (t k : ℕ) (s : Desk) → Whole s → t < 1024 → k < 1024 → get_or s.delivered (place k) 0 ≤ get_or (turn_at p t s).delivered (place k) 0
turn_grows p t k s w ht hk =
    by_test (eqb k t)
    (λ e.
    let q = eqb-true k t e in
    let o = turn_own p t s w ht in
    omega (arith, o, ap (λ n. get_or s.delivered (place n) 0) q, ap (λ n. get_or (turn_at p t s).delivered (place n) 0) q))
    (λ e. omega (arith, turn_other p t k s ht hk (eqb-false k t e)))

turns_grow : (p : Plan) (k t n : ℕ) (s : Desk) → Whole s → t + n ≤ 1024 → k < 1024 → get_or s.delivered (place k) 0 ≤ get_or (turns_from p t n s).delivered (place k) 0
turns_grow p k t zero s w h hk = omega arith
turns_grow p k t (suc n) s w h hk =
    let g = goes_turn p (t / 16) (t % 16) s w (omega arith) (omega arith) in
    omega (arith, turn_grows p t k s w (omega arith) hk, turns_grow p k (suc t) n (turn_at p t s) g.whole (omega arith) hk)

pub round_grows : (p : Plan) (s : Desk) → Whole s → (c : ℕ) → c < 1024 → get_or s.delivered c 0 ≤ get_or (round p s).delivered c 0
unfolding round
round_grows p s w c h =
    let k = c % 64 * 16 + c / 64 in
    let e : place k ≡ c = omega arith in
    let g = turns_grow p k 0 1024 s w (omega arith) (omega arith) in
    omega (arith, g, ap (λ n. get_or s.delivered n 0) e, ap (λ n. get_or (turns_from p 0 1024 s).delivered n 0) e)

-- what rose, put back
pub plus_rise : (ds es : List ℕ) → length es ≡ length ds → ((c : ℕ) → c < length ds → get_or ds c 0 ≤ get_or es c 0) → plus_times 1 (undelivered es ds) ds ≡ es
plus_rise ds es l h =
    ext_get_or 0 (plus_times 1 (undelivered es ds) ds) es (length_plus 1 (undelivered es ds) ds ∙ sym l)
    (λ c q.
    let k : c < length ds = omega (arith, length_plus 1 (undelivered es ds) ds) in
    omega (
      arith,
      get_or_plus 1 (undelivered es ds) ds c k,
      one-mul (get_or (undelivered es ds) c 0),
      get_or_shorts es ds c l,
      h c k,
    ))

unfoldable pub repeats : (nets : List ℤ) (settles : List ℕ) (size : ℕ) (d d' v v' xs : List ℕ) (m r k : ℕ) → length d ≡ 1024 →
    Rounded nets settles size d d' v v' r → v ≡ v' → xs ≡ undelivered d' d → 0 < r → OwedFor nets d' xs k →
    ((i : ℕ) → i < 16 → AgainFor (units size (dues_of nets i)) (delivered_total d i) (delivered_total xs i) k) →
    Repeats (plan nets settles size) k (desk d v m)
repeats nets settles size d d' v v' xs m r k w g e x some o u =
    let p = plan nets settles size in
    let s = desk d v m in
    let q = g.desk m in
    let w' : length d' ≡ 1024 = ap (λ f. length f.delivered) q ∙ (goes_round p s w).whole in
    let lx : length xs ≡ 1024 = ap length x ∙ length_less d' d (w' ∙ sym w) ∙ w in
    let rise : plus_times 1 xs d ≡ d' =
    ap (λ l. plus_times 1 l d) x
    ∙ plus_rise d d' (w' ∙ sym w)
    (λ c h. let b = round_grows p s w c (omega arith) in omega (arith, b, ap (λ f. get_or f.delivered c 0) q)) in
    let after : round p s ≡ shift 1 xs r s = sym q ∙ desk_same (sym rise) (sym e) (ap (λ n. m + n) (sym (one-mul r))) in
    record {
      made = r;
      xs = xs;
      sized = lx;
      after = after;
      some = some;
      room = λ t h.
          subst (λ f. k * get_or xs (place t) 0 ≤ still_owed p f (t / 16) (t % 16)) q (o (place t) (omega arith));
      units = λ i j hi hj.
          subst (λ n. Again (units size (dues_of nets i)) (delivered_total d i) n (delivered_total xs i) j)
          (sym (ap (λ f. delivered_total f.delivered i) after ∙ total_plus 1 i xs d lx w hi ∙ ap (λ n. delivered_total d i + n) (one-mul (delivered_total xs i))))
          (u i hi j hj);
    }
