-- Where units stood before lifts: place by place, and what stands there.
use mathlib.Core.Path.{◌≡◌, refl, sym, ap, ◌∙◌}
use mathlib.Core.List.{List, [], ◌∷◌, ◌++◌, map, map-append}
use Prim.Native.Nat.{ℕ, zero, suc, ◌+◌, ◌-◌, ◌*◌, ◌≤◌, ◌<◌}
use native.Mathlib.Omega.{arith}
use native.Mathlib.Nat.{add-zero}
use lib.Dec.{leb, ltb, eqb}
use lib.ListN.{length, take, drop, get_or, length-drop, get_or-append}
use lib.Seq.{get_or-take, get_or-drop, take-add, take_all, drop-cons, drop-drop, length-take-le}
use borrow.Author.Tests.{lt-ltb, le-ltb, le-leb, lt-leb, eq-eqb, ne_eqb, ltb-true, ltb-false, eqb-true, eqb-false, leb-true, leb-false}
use Rattle.rules.specs.Units.{AccountLots}
use Rattle.rules.specs.Lifts.{Lift, lift_of, to_front, lift, lifted, Among}
use Rattle.rules.specs.Book.{places_in}
use Rattle.laws.proofs.Basics.{by_test, Every}
use Rattle.laws.proofs.Lifts.{length_lift, length_lifted}
use Rattle.runs.specs.Runs.{part_of}
use Rattle.unlifting.specs.Unlifting.{back, place_of}
use Rattle.runs.proofs.Loops.{behind}

pub back_front : (o n k : ℕ) → k < n → back (lift_of o n) k ≡ k
back_front o n k h = rw (lt-ltb k n h)

pub back_new : (o n k : ℕ) → k ≡ n → back (lift_of o n) k ≡ o
back_new o n k e = rw (le-ltb k n (omega arith), eq-eqb k n e)

pub back_between : (o n k : ℕ) → n < k → k ≤ o → back (lift_of o n) k ≡ k - 1
back_between o n k h g = rw (le-ltb k n (omega arith), ne_eqb k n (λ e. omega arith), le-leb k o g)

pub back_behind : (o n k : ℕ) → n < k → o < k → back (lift_of o n) k ≡ k
back_behind o n k h g = rw (le-ltb k n (omega arith), ne_eqb k n (λ e. omega arith), lt-leb k o g)

-- the lifts in an issue's words, from the i-th on
pub places_at : (n i : ℕ) (ws : List ℕ) → i < n → drop i (places_in n ws) ≡ lift_of (get_or ws (2 * i) 0) (get_or ws (2 * i + 1) 0) ∷ drop (suc i) (places_in n ws)
places_at zero i ws h = absurd (omega arith)
places_at (suc n) zero ws h = refl
places_at (suc n) (suc i) ws h =
    let p : get_or (drop 2 ws) (2 * i) 0 ≡ get_or ws (2 * suc i) 0 = get_or-drop 2 ws (2 * i) 0 ∙ ap (λ j. get_or ws j 0) (omega arith) in
    let q : get_or (drop 2 ws) (2 * i + 1) 0 ≡ get_or ws (2 * suc i + 1) 0 = get_or-drop 2 ws (2 * i + 1) 0 ∙ ap (λ j. get_or ws j 0) (omega arith) in
    places_at n i (drop 2 ws) (omega arith) ∙ rw (p, q)

pub places_none : (n : ℕ) (ws : List ℕ) → drop n (places_in n ws) ≡ []
places_none zero ws = refl
places_none (suc n) ws = places_none n (drop 2 ws)

-- one lift further back
pub back_one : (words : List ℕ) (j i k b x c y : ℕ) → i < get_or words 0 0 → j ≡ suc i →
    ((t : ℕ) → t < x → place_of (drop j (places_in (get_or words 0 0) (drop 2 words))) (k + t) ≡ b + t) →
    ((t : ℕ) → t < y → back (lift_of (get_or words (2 * i + 2) 0) (get_or words (2 * i + 3) 0)) (b + t) ≡ c + t) →
    y ≤ x → (t : ℕ) → t < y → place_of (drop i (places_in (get_or words 0 0) (drop 2 words))) (k + t) ≡ c + t
back_one words j i k b x c y h e ps qs l t g =
    let ls = places_in (get_or words 0 0) (drop 2 words) in
    let p : get_or (drop 2 words) (2 * i) 0 ≡ get_or words (2 * i + 2) 0 = get_or-drop 2 words (2 * i) 0 ∙ ap (λ j. get_or words j 0) (omega arith) in
    let q : get_or (drop 2 words) (2 * i + 1) 0 ≡ get_or words (2 * i + 3) 0 = get_or-drop 2 words (2 * i + 1) 0 ∙ ap (λ j. get_or words j 0) (omega arith) in
    ap (λ vs. place_of vs (k + t)) (places_at (get_or words 0 0) i (drop 2 words) h)
    ∙ rw (p, q) (ap (back (lift_of (get_or words (2 * i + 2) 0) (get_or words (2 * i + 3) 0))) (rw e at (ps t (omega arith))) ∙ qs t g)

-- What stands at a place after a lift

module _ (p : AccountLots) where
  at_behind : (xs ys : List AccountLots) (j : ℕ) → length xs ≤ j → get_or (xs ++ ys) j p ≡ get_or ys (j - length xs) p
  at_behind [] ys j h = ap (λ i. get_or ys i p) (omega arith)
  at_behind (x ∷ xs) ys zero h = absurd (omega arith)
  at_behind (x ∷ xs) ys (suc j) h = at_behind xs ys j (omega arith) ∙ ap (λ i. get_or ys i p) (omega arith)

  front_cons : (k : ℕ) (us : List AccountLots) → k < length us → to_front k us ≡ get_or us k p ∷ (take k us ++ drop (suc k) us)
  front_cons k us h = ap (λ l. take 1 l ++ (take k us ++ drop (suc k) us)) (drop-cons us k p h)

  front_before : (k j : ℕ) (us : List AccountLots) → k < length us → j < k → get_or (to_front k us) (suc j) p ≡ get_or us j p
  front_before k j us h g =
      ap (λ l. get_or l (suc j) p) (front_cons k us h)
      ∙ get_or-append (take k us) (drop (suc k) us) p j (omega (arith, length-take-le k us (omega arith))) ∙ get_or-take k us j p g

  front_after : (k j : ℕ) (us : List AccountLots) → k < length us → k ≤ j → get_or (to_front k us) (suc j) p ≡ get_or us (suc j) p
  front_after k j us h g =
      ap (λ l. get_or l (suc j) p) (front_cons k us h)
      ∙ at_behind (take k us) (drop (suc k) us) j (omega (arith, length-take-le k us (omega arith)))
      ∙ get_or-drop (suc k) us (j - length (take k us)) p
      ∙ ap (λ i. get_or us i p) (omega (arith, length-take-le k us (omega arith)))

  pub lift_at : (l : Lift) (us : List AccountLots) (j : ℕ) → Among (length us) l → get_or (lift l us) j p ≡ get_or us (back l j) p
  unfolding lift
  lift_at l us j m =
      let o = l.old in
      let n = l.new in
      let ws = drop n us in
      let k = o - n in
      let b = m.back in
      let t = m.there in
      let lw : length ws ≡ length us - n = length-drop n us in
      let lt : length (take n us) ≡ n = length-take-le n us (omega arith) in
      by_test (ltb j n)
      (λ e.
      let h = ltb-true j n e in
      get_or-append (take n us) (to_front k ws) p j (omega arith) ∙ get_or-take n us j p h
      ∙ ap (λ i. get_or us i p) (sym (back_front o n j h)))
      (λ e.
      let h = ltb-false j n e in
      at_behind (take n us) (to_front k ws) j (omega arith) ∙ ap (λ i. get_or (to_front k ws) i p) {y = j - n} (omega arith)
      ∙ by_test (eqb j n)
      (λ f.
      let g = eqb-true j n f in
      let z : j - n ≡ 0 = omega arith in
      ap (λ i. get_or (to_front k ws) i p) z ∙ ap (λ q. get_or q 0 p) (front_cons k ws (omega arith)) ∙ get_or-drop n us k p
      ∙ ap (λ i. get_or us i p) ((let q : n + k ≡ o = omega arith in q) ∙ sym (back_new o n j g)))
      (λ f.
      let g = eqb-false j n f in
      let z : j - n ≡ suc (j - n - 1) = omega (arith, g) in
      let nj : n < j = omega (arith, g) in
      ap (λ i. get_or (to_front k ws) i p) z
      ∙ by_test (leb j o)
      (λ x.
      let y = leb-true j o x in
      front_before k (j - n - 1) ws (omega arith) (omega arith) ∙ get_or-drop n us (j - n - 1) p
      ∙ ap (λ i. get_or us i p) ((let q : n + (j - n - 1) ≡ j - 1 = omega arith in q) ∙ sym (back_between o n j nj y)))
      (λ x.
      let y = leb-false j o x in
      front_after k (j - n - 1) ws (omega arith) (omega arith) ∙ get_or-drop n us (suc (j - n - 1)) p
      ∙ ap (λ i. get_or us i p) ((let q : n + suc (j - n - 1) ≡ j = omega arith in q) ∙ sym (back_behind o n j nj y)))))

  pub lifted_at : (ls : List Lift) (us : List AccountLots) (j : ℕ) → Every (Among (length us)) ls → get_or (lifted ls us) j p ≡ get_or us (place_of ls j) p
  lifted_at [] us j ms = refl
  lifted_at (l ∷ ls) us j ms =
      lifted_at ls (lift l us) j (rw (length_lift l us) ms.1) ∙ lift_at l us (place_of ls j) ms.0

back_below : (number : ℕ) (l : Lift) (k : ℕ) → Among number l → k < number → back l k < number
back_below number l k m h =
    let b = m.back in
    let t = m.there in
    by_test (ltb k l.new) (λ e. simp e h)
    (λ e. by_test (eqb k l.new) (λ f. simp (e, f) t)
    (λ f. by_test (leb k l.old) (λ g. simp (e, f, g) (omega arith)) (λ g. simp (e, f, g) h)))

pub place_below : (number : ℕ) (ls : List Lift) (k : ℕ) → Every (Among number) ls → k < number → place_of ls k < number
place_below number [] k ms h = h
place_below number (l ∷ ls) k ms h = back_below number l (place_of ls k) ms.0 (place_below number ls k ms.1 h)

-- units side by side before and after the lifts
same_part : (p : AccountLots) (x k b : ℕ) (us vs : List AccountLots) → k + x ≤ length us → b + x ≤ length vs →
    ((t : ℕ) → t < x → get_or us (k + t) p ≡ get_or vs (b + t) p) → take x (drop k us) ≡ take x (drop b vs)
same_part p zero k b us vs h g e = refl
same_part p (suc x) k b us vs h g e =
    let z : get_or us k p ≡ get_or vs b p =
    ap (λ i. get_or us i p) (sym (add-zero k)) ∙ e 0 (omega arith) ∙ ap (λ i. get_or vs i p) (add-zero b) in
    rw (drop-cons us k p (omega arith), drop-cons vs b p (omega arith), z)
    (ap (λ l. get_or vs b p ∷ l)
    (same_part p x (suc k) (suc b) us vs (omega arith) (omega arith)
    (λ t l. ap (λ i. get_or us i p) {x = suc k + t} {y = k + suc t} (omega arith) ∙ e (suc t) (omega arith) ∙ ap (λ i. get_or vs i p) (omega arith))))

pub span_part : (ls : List Lift) (us : List AccountLots) (k b len x : ℕ) → Every (Among (length us)) ls → x ≤ len → 0 < x → k + x ≤ length us →
    ((t : ℕ) → t < len → place_of ls (k + t) ≡ b + t) → (b + x ≤ length us) × (take x (drop k (lifted ls us)) ≡ take x (drop b us))
span_part ls us k b len x ms h o g e =
    let p : AccountLots = record { account = 0; lots = 0 } in
    let q = e (x - 1) (omega arith) in
    let i = place_below (length us) ls (k + (x - 1)) ms (omega arith) in
    let c : b + x ≤ length us = omega (arith, q, i) in (
      c,
      same_part p x k b (lifted ls us) us (omega (arith, length_lifted ls us)) c
          (λ t l. lifted_at p ls us (k + t) ms ∙ ap (λ i. get_or us i p) (e t (omega arith))),
    )

-- a part of the units more
pub window_next : (ls : List Lift) (us : List AccountLots) (out ys : List ℕ) (from done x b k : ℕ) → done ≤ length out → length ys ≡ x →
    map part_of (take done out) ≡ take done (drop from (lifted ls us)) → map part_of ys ≡ take x (drop b us) →
    take x (drop (from + done) (lifted ls us)) ≡ take x (drop b us) →
    map part_of (take (done + x) (take done out ++ (ys ++ drop k (drop done out)))) ≡ take (done + x) (drop from (lifted ls us))
window_next ls us out ys from done x b k h n p q e =
    let vs = lifted ls us in
    ap (map part_of) (behind out ys done x k h (omega arith))
    ∙ map-append part_of (take done out) (take x ys)
    ∙ rw (take_all x ys (omega arith), p, q, ← e)
    (ap (λ l. take done (drop from vs) ++ take x l) (sym (drop-drop done from vs)) ∙ sym (take-add done x (drop from vs)))
