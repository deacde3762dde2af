-- A round and its leap, from their parts.
use mathlib.Core.Path.{◌≡◌, refl, sym, ap, subst, ◌∙◌}
use mathlib.Core.Bool.{Bool, true, false, not, false≢true}
use lib.Pointwise.{pointwise}
use Rattle.std.proofs.lemmas.Slice.Eq.{slice_eq-Decides}
use Rattle.std.proofs.lemmas.Bool.Decides.{Decides-eqb}
use mathlib.Core.List.{List}
use Prim.Native.Nat.{ℕ, suc, ◌+◌, ◌*◌, ◌≤◌, ◌<◌}
use native.Mathlib.Omega.{arith}
use native.Mathlib.Nat.{mul-le-mul_left, mul-one, suc-add, zero-add, zero-mul}
use lib.ListN.{length, get_or}
use lib.IntN.{ℤ}
use Rattle.rules.specs.Fails.{undelivered}
use Rattle.rules.specs.Book.{delivered_total}
use Rattle.desks.specs.Desk.{Plan, plan, desk, ended, one_round_more, round}
use Rattle.simulation.specs.Repeated.{left, ending, later}
use Rattle.rounds.specs.Turns.{CanRound, Rounded}
use Rattle.leaps.specs.Rooms.{LeapIs, CanLeapAll}
use Rattle.sizes.specs.Steps.{Stepped, EndIs}
use Rattle.simulation.specs.Repeated.{plus_times}
use Rattle.leaps.proofs.Columns.{length_less}
use Rattle.rounds.proofs.Rounding.{total_most, total_bounded}
use Rattle.laws.proofs.Fails.{get_or_shorts}
use Rattle.runs.proofs.Cells.{cell_owed}
use lib.Dec.{eqb}
use Rattle.simulation.proofs.Stops.{goes_round}
use Rattle.simulation.proofs.Leaps.{shift, Repeats}
use Rattle.simulation.proofs.Ending.{Fine, fine_round, leapt, ending_last, ending_more, ending_leap}
use Rattle.sizes.proofs.Repeating.{repeats}

-- columns that `!=` finds no different
pub equal_columns : (xs ys : List ℕ) → false ≡ not (pointwise eqb xs ys) → xs ≡ ys
equal_columns xs ys h = (slice_eq-Decides Decides-eqb xs ys (pointwise eqb xs ys) refl).0 (is_true (pointwise eqb xs ys) h)
  where
    is_true : (b : Bool) → false ≡ not b → b ≡ true
    is_true true e = refl
    is_true false e = absurd (false≢true e)

module _ (nets : List ℤ) (settles runs counts : List ℕ) (size : ℕ) where
  abbrev p : Plan
  p = plan nets settles size

  fine : (d v : List ℕ) (m : ℕ) → (c : CanRound nets settles runs counts size d v) → Fine p c.settled (desk d v m)
  fine d v m c =
      record { whole = c.cells.both; nets = c.cells.cells; stocks = c.stocks; owed = c.cells.owed; lots = c.lots }

  can : (d v d' v' : List ℕ) (m : ℕ) → (c : CanRound nets settles runs counts size d v) → Fine p c.settled (desk d' v' m) →
      CanRound nets settles runs counts size d' v'
  can d v d' v' m c f =
      record {
        cells = record { cells = c.cells.cells; both = f.whole; size = c.cells.size; owed = f.owed };
        accounts = c.accounts;
        settled = c.settled;
        stocks = f.stocks;
        some = c.some;
        ranked = c.ranked;
        lots = f.lots;
      }

  -- a round alone
  pub stepped_round : (d v d' v' : List ℕ) (r : ℕ) → CanRound nets settles runs counts size d v → Rounded nets settles size d d' v v' r →
      Stepped nets settles runs counts size d d' v v' r 0
  unfolding left
  stepped_round d v d' v' r c g =
      let q : (m : ℕ) → desk d' v' (m + r) ≡ round p (desk d v m) = g.desk in
      let f = subst (Fine p c.settled) (sym (q 0)) (fine_round p c.settled (desk d v 0) (fine d v 0 c)) in
      record {
        can = can d v d' v' (0 + r) c f;
        few = g.few;
        most = omega arith;
        last = λ e m.
            let n : m + r ≡ m = omega arith in
            let k : desk d' v' m ≡ round p (desk d v m) = ap (desk d' v') (sym n) ∙ q m in
            ending_last p (desk d v m) (sym (ap (λ s. s.made) k)) ∙ ap (λ s. ended s 1) (sym k);
        more = λ h m.
            let n : m + r ≡ m + r + 0 * r = omega (arith, zero-mul r) in
            let k : round p (desk d v m) ≡ desk d' v' (m + r + 0 * r) = sym (q m) ∙ ap (desk d' v') n in
            ending_more p (desk d v m) c.cells.both (λ e. absurd (let z = ap (λ s. s.made) (q m) in omega (arith, z, e, h)))
            ∙ ap (λ s. one_round_more (ending p s)) k
            ∙ (let o = ending p (desk d' v' (m + r + 0 * r)) in let one : suc o.rounds ≡ 1 + o.rounds = omega arith in ap (λ n. ended o.desk n) one);
        falls =
            let t = (goes_round p (desk d v 0) c.cells.both).falls in
            let z = ap (λ s. left p s + s.made) (q 0) in
            omega (arith, t, z, zero-mul r);
      }

  -- and a leap behind it
  pub stepped_leap : (d v d' v' xs : List ℕ) (r k : ℕ) → CanRound nets settles runs counts size d v → Rounded nets settles size d d' v v' r →
      v ≡ v' → xs ≡ undelivered d' d → 0 < r → LeapIs nets size d d' xs k → Stepped nets settles runs counts size d (plus_times k xs d') v v' r k
  unfolding left repeats
  stepped_leap d v d' v' xs r k c g e x h l =
      let again : (m : ℕ) → Repeats p k (desk d v m) =
      λ m. repeats nets settles size d d' v v' xs m r k c.cells.both g e x h l.owed l.units in
      let at : (m : ℕ) → shift k xs r (round p (desk d v m)) ≡ desk (plus_times k xs d') v' (m + r + k * r) =
      λ m. ap (shift k xs r) (sym (g.desk m)) in
      let t = leapt p c.settled k (desk d v 0) (fine d v 0 c) (again 0) in
      record {
        can = can d v (plus_times k xs d') v' (0 + r + k * r) c (subst (Fine p c.settled) (at 0) t.fine);
        few = g.few;
        most = l.most;
        last = λ z m. absurd (omega (arith, z, h));
        more = λ z m.
            ending_more p (desk d v m) c.cells.both (λ q. absurd (let n = ap (λ s. s.made) (g.desk m) in omega (arith, n, q, h)))
            ∙ ap one_round_more (ending_leap p c.settled k (desk d v m) (fine d v m c) (again m))
            ∙ ap (λ s. one_round_more (later k (ending p s))) (at m)
            ∙ ap (λ n. ended (ending p (desk (plus_times k xs d') v' (m + r + k * r))).desk n) (sym (suc-add k (ending p (desk (plus_times k xs d') v' (m + r + k * r))).rounds));
        falls =
            let a = (goes_round p (desk d v 0) c.cells.both).falls in
            let b = ap (λ s. left p s + s.made) (at 0) in
            let f = t.falls in
            omega (arith, a, b, f);
      }

  -- what the leap asks
  pub can_leap : (d v d' v' w xs : List ℕ) → CanRound nets settles runs counts size d v → CanRound nets settles runs counts size d' v' →
      w ≡ d → xs ≡ undelivered d' w → CanLeapAll nets runs counts size w d' xs
  can_leap d v d' v' w xs c g e x =
      let lw : length w ≡ 1024 = ap length e ∙ c.cells.both in
      let lx : length xs ≡ 1024 = ap length x ∙ length_less d' w (g.cells.both ∙ sym lw) ∙ lw in
      record {
        owes = record { cells = c.cells.cells; both = g.cells.both; each = lx };
        whole = lw;
        some = c.some;
        ranked = c.ranked;
        small_before = λ i h. omega (arith, ap (λ l. delivered_total l i) e, total_most nets d i c.cells h);
        small_each = λ i h.
            let t = total_bounded xs i lx h (λ k. omega (arith, ap (λ l. get_or l k 0) x, get_or_shorts d' w k (g.cells.both ∙ sym lw), cell_owed nets d' g.cells k)) in
            omega (arith, t);
      }

  -- from copies of the columns
  pub stepped_copied : {d d' d'' v v' w h xs : List ℕ} {r k : ℕ} → CanRound nets settles runs counts size d v → Rounded nets settles size d d' v v' r →
      w ≡ d → h ≡ v → h ≡ v' → xs ≡ undelivered d' w → 0 < r → LeapIs nets size w d' xs k → d'' ≡ plus_times k xs d' →
      Stepped nets settles runs counts size d d'' v v' r k
  stepped_copied {d = d} {d' = d'} {v = v} {v' = v'} {xs = xs} {r = r} {k = k} c g e a b x s l y =
      subst (λ q. Stepped nets settles runs counts size d q v v' r k) (sym y)
      (stepped_leap d v d' v' xs r k c g (sym a ∙ b) (x ∙ ap (undelivered d') e) s (subst (λ q. LeapIs nets size q d' xs k) e l))

  -- Round after round

  pub loop_begin : (d v : List ℕ) → ending p (desk d v 0) ≡ later 0 (ending p (desk d v 0))
  loop_begin d v = ap (λ n. ended (ending p (desk d v 0)).desk n) (sym (zero-add (ending p (desk d v 0)).rounds))

  pub loop_more : (d₀ v₀ : List ℕ) {d v d' v' : List ℕ} {made leapt : ℕ} (deliveries rounds deliveries' rounds' : ℕ) →
      ending p (desk d₀ v₀ 0) ≡ later rounds (ending p (desk d v deliveries)) → Stepped nets settles runs counts size d d' v v' made leapt → 0 < made →
      deliveries' ≡ deliveries + made + leapt * made → rounds' ≡ rounds + suc leapt →
      ending p (desk d₀ v₀ 0) ≡ later rounds' (ending p (desk d' v' deliveries'))
  loop_more d₀ v₀ {d' = d'} {v' = v'} {made = made} {leapt = leapt} deliveries rounds deliveries' rounds' e g h a b =
      let o = ending p (desk d' v' (deliveries + made + leapt * made)) in
      let n : rounds + (suc leapt + o.rounds) ≡ rounds + suc leapt + o.rounds = omega arith in
      e ∙ ap (later rounds) (g.more h deliveries) ∙ ap (λ m. ended o.desk m) n
      ∙ ap (λ m. later (rounds + suc leapt) (ending p (desk d' v' m))) (sym a)
      ∙ ap (λ m. later m (ending p (desk d' v' deliveries'))) (sym b)

  pub loop_last : (d₀ v₀ : List ℕ) {d v d' v' : List ℕ} {made leapt : ℕ} (deliveries rounds : ℕ) →
      ending p (desk d₀ v₀ 0) ≡ later rounds (ending p (desk d v deliveries)) → Stepped nets settles runs counts size d d' v v' made leapt → made ≡ 0 →
      EndIs nets settles size d₀ d' v₀ v' deliveries (rounds + 1)
  loop_last d₀ v₀ deliveries rounds e g h = record { desk = e ∙ ap (later rounds) (g.last h deliveries); cells = g.can.cells }

pub times_more : (k r : ℕ) → 0 < r → k ≤ k * r
times_more k r h = let q : k * 1 ≤ k * r = mul-le-mul_left k h in omega (arith, mul-one k)
