-- Numbers and columns as words: each is read back from its words, and the words are those of what is read.
use mathlib.Core.Path.{◌≡◌, refl, sym, ap, ◌∙◌}
use mathlib.Core.Bool.{Bool, true, ◌&&◌}
use mathlib.Core.List.{List, [], ◌∷◌, ◌++◌, map, tail}
use Prim.Native.Nat.{ℕ, zero, suc, ◌+◌, ◌-◌, ◌*◌, ◌≤◌, ◌<◌, ◌/◌, ◌%◌}
use native.Mathlib.Omega.{arith}
use borrow.Author.Tests.{ltb-true, lt-ltb, le-ltb}
use lib.Dec.{ltb}
use lib.ListN.{length, get_or, take, drop, length-drop, length-append, length-map, take-append-drop, get_or-map}
use lib.Seq.{take-append_seam, drop-append_seam, length-take-le, ext_get_or}
use lib.IntN.{ℤ, pos, negsuc}
use Rattle.rules.specs.declared.Phase.{Phase}
use Rattle.rules.specs.declared.Phase.TheVariants.{Taking, Settling, Cut}
use Rattle.rules.specs.Measures.{sum}
use Rattle.rules.specs.Book.{all}
use Rattle.laws.proofs.Basics.{by_test, and_left, and_right, and_both, cond_true, cond_false, all_of, all_append}
use Rattle.laws.proofs.Ledger.{get_or_first, get_d_tail}
use Rattle.checksums.specs.Sums.{word_size, below}
use Rattle.checksums.proofs.Bounds.{all_drop}
use Rattle.snapshots.specs.Words.{last_word, sign_word, phase_word, phase_in, signed_word, signed_in, low_word, high_word, long_in, long_words, longs_in, fits32, fits64, entry_word, issue_in, from_in, to_in, day_in, entry_words, Fields, InRange, joined, parted}

pub phase_back : (p : Phase) → phase_in (phase_word p) ≡ p
phase_back Taking = refl
phase_back Settling = refl
phase_back Cut = refl

pub phase_word_lem : (n : ℕ) → n < 3 → phase_word (phase_in n) ≡ n
phase_word_lem zero h = refl
phase_word_lem (suc zero) h = refl
phase_word_lem (suc (suc zero)) h = refl
phase_word_lem (suc (suc (suc n))) h = absurd (omega arith)

-- 32 bits

pub signed_back : (z : ℤ) → fits32 z ≡ true → signed_in (signed_word z) ≡ z
signed_back (pos n) h = cond_true (ltb n sign_word) (pos n) (negsuc (last_word - n)) h
signed_back (negsuc n) h =
    let l : n < sign_word = ltb-true n sign_word h in
    cond_false (ltb (last_word - n) sign_word) (pos (last_word - n)) (negsuc (last_word - (last_word - n)))
    (le-ltb (last_word - n) sign_word (omega arith))
    ∙ ap negsuc (omega arith)

pub signed_word_lem : (w : ℕ) → w < word_size → signed_word (signed_in w) ≡ w
signed_word_lem w h =
    by_test (ltb w sign_word)
    (λ t. ap signed_word (cond_true (ltb w sign_word) (pos w) (negsuc (last_word - w)) t))
    (λ f. ap signed_word (cond_false (ltb w sign_word) (pos w) (negsuc (last_word - w)) f) ∙ omega arith)

pub signed_below : (z : ℤ) → fits32 z ≡ true → signed_word z < word_size
signed_below (pos n) h = omega (arith, ltb-true n sign_word h)
signed_below (negsuc n) h = omega arith

-- 64 bits

pub long_back : (z : ℤ) → fits64 z ≡ true → long_in (low_word z) (high_word z) ≡ z
long_back (pos n) h =
    let l : n < word_size * sign_word = ltb-true n (word_size * sign_word) h in
    cond_true (ltb (n / word_size) sign_word) _ _ (lt-ltb (n / word_size) sign_word (omega arith)) ∙ ap pos (omega arith)
long_back (negsuc n) h =
    let l : n < word_size * sign_word = ltb-true n (word_size * sign_word) h in
    cond_false (ltb (last_word - n / word_size) sign_word) _ _ (le-ltb (last_word - n / word_size) sign_word (omega arith))
    ∙ ap negsuc (omega arith)

module _ (l h : ℕ) (s : l < word_size) (t : h < word_size) where
  pub low_word_lem : low_word (long_in l h) ≡ l
  low_word_lem =
      by_test (ltb h sign_word)
      (λ y. ap low_word (cond_true (ltb h sign_word) _ _ y) ∙ omega arith)
      (λ n. ap low_word (cond_false (ltb h sign_word) _ _ n) ∙ omega arith)

  pub high_word_lem : high_word (long_in l h) ≡ h
  high_word_lem =
      by_test (ltb h sign_word)
      (λ y. ap high_word (cond_true (ltb h sign_word) _ _ y) ∙ omega arith)
      (λ n. ap high_word (cond_false (ltb h sign_word) _ _ n) ∙ omega arith)

-- Lists

pub map_back : {A B : Type 0} (f : A → B) (g : B → A) (p : A → Bool) → ((x : A) → p x ≡ true → g (f x) ≡ x) → (xs : List A) →
    all p xs ≡ true → map g (map f xs) ≡ xs
map_back f g p e [] h = refl
map_back f g p e (x ∷ xs) h = rw (e x (and_left (p x) (all p xs) h), map_back f g p e xs (and_right (p x) (all p xs) h))

pub all_map : {A B : Type 0} (f : A → B) (p : A → Bool) (q : B → Bool) → ((x : A) → p x ≡ true → q (f x) ≡ true) → (xs : List A) →
    all p xs ≡ true → all q (map f xs) ≡ true
all_map f p q e [] h = refl
all_map f p q e (x ∷ xs) h =
    and_both (q (f x)) (all q (map f xs)) (e x (and_left (p x) (all p xs) h)) (all_map f p q e xs (and_right (p x) (all p xs) h))

pub longs_back : (cs : List ℤ) → all fits64 cs ≡ true → longs_in (long_words cs) ≡ cs
longs_back [] h = refl
longs_back (c ∷ cs) h =
    rw (long_back c (and_left (fits64 c) (all fits64 cs) h), longs_back cs (and_right (fits64 c) (all fits64 cs) h))

pub longs_length : (cs : List ℤ) → length (long_words cs) ≡ 2 * length cs
longs_length [] = refl
longs_length (c ∷ cs) = omega (arith, longs_length cs)

low_below : (z : ℤ) → fits64 z ≡ true → below word_size (low_word z) ≡ true
low_below (pos n) h = lt-ltb (n % word_size) word_size (omega arith)
low_below (negsuc n) h = lt-ltb (last_word - n % word_size) word_size (omega arith)

high_below : (z : ℤ) → fits64 z ≡ true → below word_size (high_word z) ≡ true
high_below (pos n) h = lt-ltb (n / word_size) word_size (omega (arith, ltb-true n (word_size * sign_word) h))
high_below (negsuc n) h = lt-ltb (last_word - n / word_size) word_size (omega arith)

pub longs_below : (cs : List ℤ) → all fits64 cs ≡ true → all (below word_size) (long_words cs) ≡ true
longs_below [] h = refl
longs_below (c ∷ cs) h =
    let f : fits64 c ≡ true = and_left (fits64 c) (all fits64 cs) h in
    rw (low_below c f, high_below c f, longs_below cs (and_right (fits64 c) (all fits64 cs) h))

pub longs_words : (n : ℕ) (ws : List ℕ) → length ws ≡ 2 * n → all (below word_size) ws ≡ true → long_words (longs_in ws) ≡ ws
longs_words n [] e a = refl
longs_words n (l ∷ []) e a = absurd (omega arith)
longs_words zero (l ∷ h ∷ ws) e a = absurd (omega arith)
longs_words (suc n) (l ∷ h ∷ ws) e a =
    let p = below word_size in
    let r = and_right (p l) (p h && all p ws) a in
    let s : l < word_size = ltb-true l word_size (and_left (p l) (p h && all p ws) a) in
    let t : h < word_size = ltb-true h word_size (and_left (p h) (all p ws) r) in
    rw (low_word_lem l h s t, high_word_lem l h s t, longs_words n ws (omega arith) (and_right (p h) (all p ws) r))

pub joined_parted : (ns ws : List ℕ) → length ws ≡ sum ns → joined (parted ns ws) ≡ ws
joined_parted [] [] e = refl
joined_parted [] (w ∷ ws) e = absurd (omega arith)
joined_parted (n ∷ ns) ws e =
    ap (λ l. take n ws ++ l) (joined_parted ns (drop n ws) (omega (arith, e, length-drop n ws))) ∙ take-append-drop n ws

pub parted_joined : (cs : List (List ℕ)) → parted (map length cs) (joined cs) ≡ cs
parted_joined [] = refl
parted_joined (c ∷ cs) = rw (take-append_seam c (joined cs), drop-append_seam c (joined cs), parted_joined cs)

pub length_joined : (cs : List (List ℕ)) → length (joined cs) ≡ sum (map length cs)
length_joined [] = refl
length_joined (c ∷ cs) = omega (arith, length-append c (joined cs), length_joined cs)

pub all_joined : (p : ℕ → Bool) (cs : List (List ℕ)) → all (all p) cs ≡ true → all p (joined cs) ≡ true
all_joined p [] h = refl
all_joined p (c ∷ cs) h =
    all_append p c (joined cs) (and_left (all p c) (all (all p) cs) h) (all_joined p cs (and_right (all p c) (all (all p) cs) h))

pub parted_lengths : (ns ws : List ℕ) → length ws ≡ sum ns → map length (parted ns ws) ≡ ns
parted_lengths [] ws e = refl
parted_lengths (n ∷ ns) ws e =
    let h : n ≤ length ws = omega arith in
    rw (length-take-le n ws h, parted_lengths ns (drop n ws) (omega (arith, e, length-drop n ws)))

pub all_take : (p : ℕ → Bool) (n : ℕ) (ws : List ℕ) → all p ws ≡ true → all p (take n ws) ≡ true
all_take p zero ws h = refl
all_take p (suc n) [] h = refl
all_take p (suc n) (w ∷ ws) h =
    and_both (p w) (all p (take n ws)) (and_left (p w) (all p ws) h) (all_take p n ws (and_right (p w) (all p ws) h))

pub all_parted : (p : ℕ → Bool) (ns ws : List ℕ) → all p ws ≡ true → all (all p) (parted ns ws) ≡ true
all_parted p [] ws h = refl
all_parted p (n ∷ ns) ws h =
    and_both (all p (take n ws)) (all (all p) (parted ns (drop n ws))) (all_take p n ws h)
    (all_parted p ns (drop n ws) (all_drop p n ws h))

-- Entries

pub record FieldsBack (i f t d : ℕ) : Type 0 where
  pub issue : issue_in (entry_word i f t d) ≡ i
  pub from : from_in (entry_word i f t d) ≡ f
  pub to : to_in (entry_word i f t d) ≡ t
  pub day : day_in (entry_word i f t d) ≡ d

pub fields_back : (i f t d : ℕ) → Fields i f t d → FieldsBack i f t d
fields_back i f t d h =
    let a = h.issue in
    let b = h.from in
    let c = h.to in
    let e = h.day in
    record { issue = omega arith; from = omega arith; to = omega arith; day = omega arith }

pub fields_below : (i f t d : ℕ) → Fields i f t d → entry_word i f t d < word_size
fields_below i f t d h =
    let a = h.issue in
    let b = h.from in
    let c = h.to in
    let e = h.day in
    omega arith

-- a word is put together of its fields, each what is left of the number above it
together : (z f y t x d w : ℕ) → 64 * z + f ≡ y → 64 * y + t ≡ x → 65536 * x + d ≡ w → 268435456 * z + 4194304 * f + 65536 * t + d ≡ w
together z f y t x d w a b c = omega arith

pub fields_word : (w : ℕ) → w < word_size → entry_word (issue_in w) (from_in w) (to_in w) (day_in w) ≡ w
fields_word w h =
    let a : w / 4194304 ≡ w / 65536 / 64 = omega arith in
    let b : w / 268435456 ≡ w / 65536 / 64 / 64 = omega arith in
    let e : w / 65536 / 64 / 64 < 16 = omega (arith, h) in
    let g : w / 65536 / 64 / 64 % 16 ≡ w / 65536 / 64 / 64 = below_sixteen (w / 65536 / 64 / 64) e in
    rw (a, b, g)
    (together (w / 65536 / 64 / 64) (w / 65536 / 64 % 64) (w / 65536 / 64) (w / 65536 % 64) (w / 65536) (w % 65536) w
    (div_64 (w / 65536 / 64)) (div_64 (w / 65536)) (omega arith))
  where
    below_sixteen : (z : ℕ) → z < 16 → z % 16 ≡ z
    below_sixteen z k = omega arith

    div_64 : (x : ℕ) → 64 * (x / 64) + x % 64 ≡ x
    div_64 x = omega arith

-- the words of a ledger's columns, at one entry
pub entries_length : (is fs ts ds : List ℕ) → length (entry_words is fs ts ds) ≡ length is
entries_length [] fs ts ds = refl
entries_length (i ∷ is) fs ts ds = ap suc (entries_length is (tail fs) (tail ts) (tail ds))

pub entries_at : (is fs ts ds : List ℕ) (k : ℕ) → k < length is →
    get_or (entry_words is fs ts ds) k 0 ≡ entry_word (get_or is k 0) (get_or fs k 0) (get_or ts k 0) (get_or ds k 0)
entries_at [] fs ts ds k h = absurd (omega arith)
entries_at (i ∷ is) fs ts ds zero h = rw (get_or_first fs, get_or_first ts, get_or_first ds)
entries_at (i ∷ is) fs ts ds (suc k) h =
    entries_at is (tail fs) (tail ts) (tail ds) k (omega arith) ∙ rw (get_d_tail fs k, get_d_tail ts k, get_d_tail ds k)

module _ (is fs ts ds : List ℕ) where
  -- a column is read back by its field
  pub column_back : (f : ℕ → ℕ) (xs : List ℕ) → f 0 ≡ 0 → length xs ≡ length is →
      ((k : ℕ) → f (entry_word (get_or is k 0) (get_or fs k 0) (get_or ts k 0) (get_or ds k 0)) ≡ get_or xs k 0) →
      map f (entry_words is fs ts ds) ≡ xs
  column_back f xs z n e =
      let ws = entry_words is fs ts ds in
      let m : length (map f ws) ≡ length is = length-map ws f ∙ entries_length is fs ts ds in
      ext_get_or 0 (map f ws) xs (m ∙ sym n)
      (λ k h.
      ap (get_or (map f ws) k) (sym z) ∙ get_or-map f ws k 0
      ∙ ap f (entries_at is fs ts ds k (omega (arith, m, h))) ∙ e k)

  pub entries_below : InRange is fs ts ds → all (below word_size) (entry_words is fs ts ds) ≡ true
  entries_below r =
      let ws = entry_words is fs ts ds in
      all_of (below word_size) ws 0
      (λ k h.
      lt-ltb (get_or ws k 0) word_size
      (let e = entries_at is fs ts ds k (omega (arith, h, entries_length is fs ts ds)) in
      rw e (fields_below (get_or is k 0) (get_or fs k 0) (get_or ts k 0) (get_or ds k 0) (r k))))

-- and words are those of the columns that are read from them
pub entries_words : (ws : List ℕ) → all (below word_size) ws ≡ true →
    entry_words (map issue_in ws) (map from_in ws) (map to_in ws) (map day_in ws) ≡ ws
entries_words [] a = refl
entries_words (w ∷ ws) a =
    let p = below word_size in
    rw (fields_word w (ltb-true w word_size (and_left (p w) (all p ws) a)), entries_words ws (and_right (p w) (all p ws) a))
