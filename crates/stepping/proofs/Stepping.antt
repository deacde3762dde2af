-- The steps of pair-off. The ledger is what stands in the columns, without entries at 0, and the entries P to Q
-- behind it; what the definition makes of the first ledger is the steps made and what it makes of the ledger now.
use mathlib.Core.Path.{◌≡◌, refl, sym, ap, ◌∙◌}
use mathlib.Core.Bool.{Bool, true, false, cond, false≢true}
use mathlib.Core.List.{List, [], ◌∷◌, ◌++◌, append_assoc, append-nil}
use Prim.Native.Nat.{ℕ, suc, ◌+◌, ◌-◌, ◌*◌, ◌≤◌, ◌<◌, min}
use native.Mathlib.Nat.{le_trans}
use native.Mathlib.Omega.{arith}
use lib.Dec.{eqb}
use lib.ListN.{length, get_or, length-append}
use borrow.Author.Tests.{ne_eqb}
use Rattle.rules.specs.declared.Entry.{Entry}
use Rattle.rules.specs.Ledger.{is_from, is_to, count_of, lower, smaller_lots, appended, stepped, has_both, Pairing, pairing}
use Rattle.laws.proofs.Basics.{either, Every, each_map, each_at, total_append}
use Rattle.laws.proofs.Sound.{SoundEntry}
use Rattle.laws.proofs.Ledger.{no_entry}
use Rattle.laws.proofs.Meeting.{Steady}
use Rattle.laws.proofs.Lowering.{Apart, and_no, account_from, account_to, from_not_to}
use Rattle.laws.proofs.Pairing.{in_and_out, both_some, both_none, appended_none, stepped_fewer}
use Rattle.laws.proofs.Stepping.{step_lots, stepped_each, stepped_few}
use Rattle.laws.proofs.Turns.{pairing_stop, pairing_turn}
use Rattle.ledger.specs.Columns.{without_zeros}
use Rattle.ledger.proofs.Lots.{lots_at, length_lots}
use Rattle.falling.specs.Places.{is_left, place_of}
use Rattle.falling.proofs.Places.{place_passes, get_or_other, each_lots, left_passes, first_left, count_left, count_none, lower_left, place_other, place_falls}

pub count_most : (p : Entry → Bool) (es : List Entry) → count_of p es ≤ length es
count_most p [] = omega arith
count_most p (e ∷ es) = either (λ n. n + count_of p es ≤ suc (length es)) (p e) (omega (arith, count_most p es)) (omega (arith, count_most p es))

-- es stands in the columns, ys behind it
pub record SoFar (today i a : ℕ) (es₀ es ys : List Entry) (n t f steps cancelled : ℕ) : Type 0 where
  pub apart : Every Apart es
  pub sound : Every SoundEntry (without_zeros es ++ ys)
  pub none_to : count_of (is_to i a) ys ≡ 0
  pub none_from : count_of (is_from i a) ys ≡ 0
  pub few : length (without_zeros es) + length ys ≤ n
  pub to : t ≤ place_of (is_left (is_to i a)) es
  pub from : f ≤ place_of (is_left (is_from i a)) es
  pub spent : steps + in_and_out i a (without_zeros es ++ ys) ≤ 4096
  pub most : cancelled ≤ steps * 20000000
  pub made : (pairing today i a es₀).steps ≡ steps + (pairing today i a (without_zeros es ++ ys)).steps
  pub gone : (pairing today i a es₀).cancelled ≡ cancelled + (pairing today i a (without_zeros es ++ ys)).cancelled
  pub left : (pairing today i a es₀).ledger ≡ (pairing today i a (without_zeros es ++ ys)).ledger

-- all of it is made
pub record Done (p : Pairing) (es : List Entry) (steps cancelled : ℕ) : Type 0 where
  pub made : steps ≡ p.steps
  pub gone : cancelled ≡ p.cancelled
  pub left : p.ledger ≡ es

-- where no step is left
module _ {today i a : ℕ} {es₀ es ys : List Entry} {n t f steps cancelled : ℕ} (s : SoFar today i a es₀ es ys n t f steps cancelled) where
  abbrev ledger : List Entry
  ledger = without_zeros es ++ ys

  done : has_both i a ledger ≡ false → Done (pairing today i a es₀) ledger steps cancelled
  done h =
      let e = pairing_stop today i a ledger h in
      record {
        made = omega (arith, s.made, ap (λ r. r.steps) e);
        gone = omega (arith, s.gone, ap (λ r. r.cancelled) e);
        left = s.left ∙ ap (λ r. r.ledger) e;
      }

  pub none_in : length es ≤ place_of (is_left (is_to i a)) es → Done (pairing today i a es₀) ledger steps cancelled
  none_in h = done (both_none (count_of (is_to i a) ledger) (count_of (is_from i a) ledger) (λ x y. omega (arith, count_none (is_to i a) ys es h, s.none_to)))

  pub none_out : length es ≤ place_of (is_left (is_from i a)) es → Done (pairing today i a es₀) ledger steps cancelled
  none_out h = done (both_none (count_of (is_to i a) ledger) (count_of (is_from i a) ledger) (λ x y. omega (arith, count_none (is_from i a) ys es h, s.none_from)))

  -- where one is: at places T and F
  module _ (hi : i < 16) (ht : place_of (is_left (is_to i a)) es < length es) (hf : place_of (is_left (is_from i a)) es < length es) where
    abbrev T : ℕ
    T = place_of (is_left (is_to i a)) es

    abbrev F : ℕ
    F = place_of (is_left (is_from i a)) es

    abbrev e_t : Entry
    e_t = get_or es T no_entry

    abbrev e_f : Entry
    e_f = get_or es F no_entry

    abbrev m : ℕ
    m = min e_t.lots e_f.lots

    abbrev es₁ : List Entry
    es₁ = lots_at F (e_f.lots - m) es

    abbrev pub es₂ : List Entry
    es₂ = lots_at T (e_t.lots - m) es₁

    abbrev pub new : List Entry
    new = appended today i e_t.from e_f.to m

    steady_t : Steady (is_to i a)
    steady_t e x = refl

    steady_f : Steady (is_from i a)
    steady_f e x = refl

    is_t : is_to i a e_t ≡ true
    is_t = left_passes (is_to i a) e_t (place_passes (is_left (is_to i a)) es ht)

    is_f : is_from i a e_f ≡ true
    is_f = left_passes (is_from i a) e_f (place_passes (is_left (is_from i a)) es hf)

    not_t : is_to i a e_f ≡ false
    not_t = from_not_to i a e_f (each_at Apart es no_entry F s.apart hf) is_f

    differ : F ≡ T → ⊥
    differ e = false≢true (sym not_t ∙ ap (λ k. is_to i a (get_or es k no_entry)) e ∙ is_t)

    pub both : has_both i a ledger ≡ true
    both = both_some _ _ (count_left (is_to i a) ys es ht) (count_left (is_from i a) ys es hf)

    pub smallest : smaller_lots i a ledger ≡ m
    smallest = rw (first_left (is_to i a) ys (λ e. e.lots) es ht, first_left (is_from i a) ys (λ e. e.lots) es hf)

    -- the other end of each is another account
    from_t : e_t.from ≡ a → ⊥
    from_t q = each_at Apart es no_entry T s.apart ht (q ∙ sym (account_to i a e_t is_t))

    to_f : e_f.to ≡ a → ⊥
    to_f q = each_at Apart es no_entry F s.apart hf (account_from i a e_f is_f ∙ sym q)

    lowered : lower (is_to i a) m (lower (is_from i a) m ledger) ≡ without_zeros es₂ ++ ys
    lowered =
        let k : place_of (is_left (is_to i a)) es₁ ≡ T = place_other (is_to i a) steady_t F (e_f.lots - m) es not_t in
        let h : place_of (is_left (is_to i a)) es₁ < length es₁ = omega (arith, length_lots F (e_f.lots - m) es) in
        let e : get_or es₁ T no_entry ≡ e_t = get_or_other F T (e_f.lots - m) es differ in
        ap (lower (is_to i a) m) (lower_left (is_from i a) ys m es hf)
        ∙ lower_left (is_to i a) ys m es₁ h
        ∙ ap (λ j. without_zeros (lots_at j ((get_or es₁ j no_entry).lots - m) es₁) ++ ys) k
        ∙ ap (λ d. without_zeros (lots_at T (d.lots - m) es₁) ++ ys) e

    pub step : stepped today i a ledger ≡ without_zeros es₂ ++ (ys ++ new)
    step =
        rw (
          smallest,
          lowered,
          first_left (is_to i a) ys (λ e. e.from) es ht,
          first_left (is_from i a) ys (λ e. e.to) es hf,
        )
        (append_assoc (without_zeros es₂) ys new)

    -- a step takes one of the entries in and out away
    pub step_less : in_and_out i a (without_zeros es₂ ++ (ys ++ new)) + 1 ≤ in_and_out i a ledger
    step_less = rw step at (stepped_fewer today i a ledger (each_map SoundEntry Apart (λ e d. d.apart) ledger s.sound) both)

    pub step_small : m ≤ 20000000
    step_small = omega (arith, (step_lots today i a hi ledger s.sound both).1, smallest)

    -- there is room for one more entry
    pub step_room : length ys < n
    step_room =
        let c = count_left (is_to i a) [] es ht in
        omega (arith, s.few, count_most (is_to i a) (without_zeros es ++ []), ap length (append-nil (without_zeros es)))

    pub so_far_more : SoFar today i a es₀ es₂ (ys ++ new) n T F (steps + 1) (cancelled + m)
    so_far_more =
        let p = pairing_turn today i a ledger s.sound both in
        let l₁ = length-append (without_zeros es) ys in
        let l₂ = length-append (without_zeros es₂) (ys ++ new) in
        let l₃ = stepped_few today i a hi ledger s.sound both in
        record {
          apart = each_lots Apart (λ e x h. h) T (e_t.lots - m) es₁ (each_lots Apart (λ e x h. h) F (e_f.lots - m) es s.apart);
          sound = rw step at (stepped_each today i a hi ledger s.sound both);
          none_to =
              total_append (λ e. cond (is_to i a e) 1 0) ys new
              ∙ rw (s.none_to, appended_none (is_to i a) today i e_t.from e_f.to m (and_no (eqb i i) (eqb e_f.to a) (ne_eqb e_f.to a to_f)));
          none_from =
              total_append (λ e. cond (is_from i a e) 1 0) ys new
              ∙ rw (s.none_from, appended_none (is_from i a) today i e_t.from e_f.to m (and_no (eqb i i) (eqb e_t.from a) (ne_eqb e_t.from a from_t)));
          few = omega (arith, s.few, l₁, l₂, rw step at l₃);
          to =
              le_trans (place_falls (is_to i a) steady_t F (e_f.lots - m) es (omega arith))
              (place_falls (is_to i a) steady_t T (e_t.lots - m) es₁ (rw (get_or_other F T (e_f.lots - m) es differ) (omega arith)));
          from =
              le_trans (place_falls (is_from i a) steady_f F (e_f.lots - m) es (omega arith))
              (place_falls (is_from i a) steady_f T (e_t.lots - m) es₁ (rw (get_or_other F T (e_f.lots - m) es differ) (omega arith)));
          spent = omega (arith, s.spent, step_less);
          most = omega (arith, s.most, step_small);
          made = omega (arith, s.made, rw step at (ap (λ r. r.steps) p));
          gone = omega (arith, s.gone, smallest, rw step at (ap (λ r. r.cancelled) p));
          left = s.left ∙ rw step at (ap (λ r. r.ledger) p);
        }
