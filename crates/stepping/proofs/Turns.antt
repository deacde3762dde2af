-- The steps in columns: a turn of the loop is one step.
use mathlib.Core.Path.{◌≡◌, refl, sym, ap, ◌∙◌, subst}
use mathlib.Core.Bool.{true}
use mathlib.Core.List.{List, [], ◌∷◌, ◌++◌, append-nil}
use Prim.Native.Nat.{ℕ, ◌+◌, ◌-◌, ◌≤◌, ◌<◌, min}
use native.Mathlib.Nat.{zero-add}
use native.Mathlib.Omega.{arith}
use lib.ListN.{length, get_or, set, length-set}
use borrow.Author.Tests.{ne_eqb}
use Rattle.std.specs.Prelude.{Some, None}
use Rattle.rules.specs.declared.Entry.{Entry}
use Rattle.rules.specs.Ledger.{is_from, is_to, appended, pairing}
use Rattle.rules.specs.Book.{entries, entry_sound}
use Rattle.laws.proofs.Basics.{Every, each_map}
use Rattle.laws.proofs.Sound.{SoundEntry, all_each, entry_parts}
use Rattle.laws.proofs.Ledger.{no_entry, entry_at_lem}
use Rattle.laws.proofs.Lowering.{Apart}
use Rattle.laws.proofs.Pairing.{in_and_out}
use Rattle.ledger.specs.Columns.{entry_at, Held, Kept, without_zeros}
use Rattle.ledger.proofs.Entries.{entries_length, kept_held, kept_entries}
use Rattle.ledger.proofs.Lots.{lots_at, entries_lots, held_lots}
use Rattle.falling.specs.Places.{is_left, place_of, next_in, within, CanSeek, BothFell}
use Rattle.stepping.specs.Steps.{Pairable, WasMade}
use Rattle.falling.proofs.Places.{place_most}
use Rattle.falling.proofs.Seeking.{next_to, next_from, within_some, within_none}
use Rattle.stepping.proofs.Stepping.{SoFar, Done, count_most, none_in, none_out, es₂, new, step_less, step_small, step_room, so_far_more}

-- the ledger now
abbrev pub standing : ℕ → ℕ → List ℕ → List ℕ → List ℕ → List ℕ → List ℕ → List ℕ → List ℕ → List ℕ → List ℕ → List ℕ → List Entry
standing n k is fs ts xs ds mi mf mt mx md = without_zeros (entries n is fs ts xs ds) ++ entries k mi mf mt mx md

pub record Turns (today i a : ℕ) (es₀ : List Entry) (n t f k steps cancelled : ℕ) (is fs ts xs ds mi mf mt mx md : List ℕ) : Type 0 where
  pub held : Held n is fs ts xs ds
  pub more : Held k mi mf mt mx md
  pub issue : i < 16
  pub made : SoFar today i a es₀ (entries n is fs ts xs ds) (entries k mi mf mt mx md) n t f steps cancelled

-- the places of the first entry to the account and of the first from it, where there are both
pub record Both (n i a t f : ℕ) (is fs ts xs : List ℕ) : Type 0 where
  pub to : t ≡ next_in n is ts xs i a
  pub from : f ≡ next_in n is fs xs i a
  pub some_to : t < n
  pub some_from : f < n

pub both_there : (n i a : ℕ) (is fs ts xs : List ℕ) {t f : ℕ} → Some t ≡ within n (next_in n is ts xs i a) →
    Some f ≡ within n (next_in n is fs xs i a) → Both n i a t f is fs ts xs
both_there n i a is fs ts xs h k =
    let p = within_some n (next_in n is ts xs i a) h in
    let q = within_some n (next_in n is fs xs i a) k in
    record { to = p.0; from = q.0; some_to = p.1; some_from = q.1 }

-- sound entries are not at 0
pub zeros_none : (es : List Entry) → Every SoundEntry es → without_zeros es ≡ es
zeros_none [] ss = refl
zeros_none (e ∷ es) ss = rw (ne_eqb e.lots 0 (λ z. omega (arith, ss.0.some))) (ap (λ l. e ∷ l) (zeros_none es ss.1))

pub turns_start : (today i a n : ℕ) (is fs ts xs ds mi mf mt mx md : List ℕ) → Pairable n i is fs ts xs ds → Held 0 mi mf mt mx md →
    Turns today i a (entries n is fs ts xs ds) n 0 0 0 0 0 is fs ts xs ds mi mf mt mx md
turns_start today i a n is fs ts xs ds mi mf mt mx md p h =
    let es = entries n is fs ts xs ds in
    let ss = each_map (λ e. entry_sound e ≡ true) SoundEntry entry_parts es (all_each entry_sound es p.sound) in
    let z : without_zeros es ++ [] ≡ es = append-nil (without_zeros es) ∙ zeros_none es ss in
    let l = entries_length n is fs ts xs ds in
    record {
      held = p.held;
      more = h;
      issue = p.issue;
      made =
          record {
            apart = each_map SoundEntry Apart (λ e s. s.apart) es ss;
            sound = rw z ss;
            none_to = refl;
            none_from = refl;
            few = omega (arith, ap length (zeros_none es ss));
            to = omega arith;
            from = omega arith;
            spent = rw z (omega (arith, count_most (is_to i a) es, count_most (is_from i a) es, p.held.most));
            most = omega arith;
            made = rw z (sym (zero-add _));
            gone = rw z (sym (zero-add _));
            left = rw z;
          };
    }

module _ {today i a : ℕ} {es₀ : List Entry} {n t f k steps cancelled : ℕ} {is fs ts xs ds mi mf mt mx md : List ℕ}
    (s : Turns today i a es₀ n t f k steps cancelled is fs ts xs ds mi mf mt mx md) where
  abbrev es : List Entry
  es = entries n is fs ts xs ds

  abbrev ys : List Entry
  ys = entries k mi mf mt mx md

  pub seek_to : CanSeek n t i a is ts xs
  seek_to =
      record {
        most = s.held.most;
        issues = s.held.whole.issues;
        accounts = s.held.whole.tos;
        lotss = s.held.whole.lotss;
        start = rw (next_to n is fs ts xs ds i a) s.made.to;
        inside = omega (arith, s.made.to, place_most (is_left (is_to i a)) es, entries_length n is fs ts xs ds);
      }

  pub seek_from : CanSeek n f i a is fs xs
  seek_from =
      record {
        most = s.held.most;
        issues = s.held.whole.issues;
        accounts = s.held.whole.froms;
        lotss = s.held.whole.lotss;
        start = rw (next_from n is fs ts xs ds i a) s.made.from;
        inside = omega (arith, s.made.from, place_most (is_left (is_from i a)) es, entries_length n is fs ts xs ds);
      }

  was_made_lem : Done (pairing today i a es₀) (without_zeros es ++ ys) steps cancelled →
      WasMade (pairing today i a es₀) n (record { steps = steps; cancelled = cancelled; more = k }) is fs ts xs ds mi mf mt mx md
  was_made_lem d =
      record {
        steps = d.made;
        cancelled = d.gone;
        ledger = d.left;
        few = omega (arith, s.made.few, entries_length k mi mf mt mx md);
        held = s.held;
        more = s.more;
      }

  pub ends_in : None ≡ within n (next_in n is ts xs i a) →
      WasMade (pairing today i a es₀) n (record { steps = steps; cancelled = cancelled; more = k }) is fs ts xs ds mi mf mt mx md
  ends_in h =
      was_made_lem (none_in s.made
      (omega (arith, within_none n (next_in n is ts xs i a) h, next_to n is fs ts xs ds i a, entries_length n is fs ts xs ds)))

  pub ends_out : None ≡ within n (next_in n is fs xs i a) →
      WasMade (pairing today i a es₀) n (record { steps = steps; cancelled = cancelled; more = k }) is fs ts xs ds mi mf mt mx md
  ends_out h =
      was_made_lem (none_out s.made
      (omega (arith, within_none n (next_in n is fs xs i a) h, next_from n is fs ts xs ds i a, entries_length n is fs ts xs ds)))

  -- both are there, at places t₁ and f₁
  module _ {t₁ f₁ : ℕ} (b : Both n i a t₁ f₁ is fs ts xs) where
    abbrev T : ℕ
    T = place_of (is_left (is_to i a)) es

    abbrev F : ℕ
    F = place_of (is_left (is_from i a)) es

    is_t : t₁ ≡ T
    is_t = b.to ∙ next_to n is fs ts xs ds i a

    is_f : f₁ ≡ F
    is_f = b.from ∙ next_from n is fs ts xs ds i a

    in_t : T < n
    in_t = omega (arith, is_t, b.some_to)

    ht : T < length es
    ht = omega (arith, in_t, entries_length n is fs ts xs ds)

    in_f : F < n
    in_f = omega (arith, is_f, b.some_from)

    hf : F < length es
    hf = omega (arith, in_f, entries_length n is fs ts xs ds)

    at_t : get_or es T no_entry ≡ entry_at T is fs ts xs ds
    at_t = entry_at_lem n is fs ts xs ds T in_t

    at_f : get_or es F no_entry ≡ entry_at F is fs ts xs ds
    at_f = entry_at_lem n is fs ts xs ds F in_f

    pub turn_room : k < 2048
    turn_room =
        omega (arith, step_room s.made s.issue ht hf, entries_length k mi mf mt mx md, s.held.most)

    module _ {m : ℕ} {xs' : List ℕ} (b₀ : BothFell t₁ f₁ m xs xs') where
      fallen : BothFell T F m xs xs'
      fallen = subst (λ j. BothFell T j m xs xs') is_f (subst (λ j. BothFell j f₁ m xs xs') is_t b₀)

      smaller : m ≡ min (get_or es T no_entry).lots (get_or es F no_entry).lots
      smaller = fallen.smaller ∙ rw (at_t, at_f)

      pub turn_small : (m ≤ 20000000) × (steps < 4096) × (cancelled ≤ 81920000000)
      turn_small =
          let h = step_less s.made s.issue ht hf in (
            omega (arith, smaller, step_small s.made s.issue ht hf),
            omega (arith, h, s.made.spent),
            omega (arith, s.made.most, s.made.spent),
          )

      module _ {k' : ℕ} {mi' mf' mt' mx' md' : List ℕ}
          (q : Kept (ys ++ appended today i (get_or fs t₁ 0) (get_or ts f₁ 0) m) k' mi' mf' mt' mx' md') where
        abbrev after : List Entry
        after = es₂ s.made s.issue ht hf

        abbrev added : List Entry
        added = ys ++ new s.made s.issue ht hf

        lots_now : xs' ≡ set (set xs F ((get_or es F no_entry).lots - min (get_or es T no_entry).lots (get_or es F no_entry).lots)) T ((get_or es T no_entry).lots - min (get_or es T no_entry).lots (get_or es F no_entry).lots)
        lots_now = fallen.lots ∙ rw (← smaller, at_t, at_f)

        entries_now : entries n is fs ts xs' ds ≡ after
        entries_now =
            let w = s.held.whole.lotss in
            let u = (get_or es F no_entry).lots - min (get_or es T no_entry).lots (get_or es F no_entry).lots in
            let v = (get_or es T no_entry).lots - min (get_or es T no_entry).lots (get_or es F no_entry).lots in
            ap (λ l. entries n is fs ts l ds) lots_now
            ∙ entries_lots n T v is fs ts (set xs F u) ds (omega (arith, length-set xs F u, w, in_t, s.held.most))
            ∙ ap (lots_at T v) (entries_lots n F u is fs ts xs ds (omega (arith, w, in_f, s.held.most)))

        added_now : ys ++ appended today i (get_or fs t₁ 0) (get_or ts f₁ 0) m ≡ added
        added_now = rw (is_t, is_f, ← smaller, at_t, at_f)

        more_now : entries k' mi' mf' mt' mx' md' ≡ added
        more_now = kept_entries (ys ++ appended today i (get_or fs t₁ 0) (get_or ts f₁ 0) m) k' mi' mf' mt' mx' md' q ∙ added_now

        -- one step less is left
        pub turn_less : in_and_out i a (standing n k' is fs ts xs' ds mi' mf' mt' mx' md') < in_and_out i a (standing n k is fs ts xs ds mi mf mt mx md)
        turn_less = rw (entries_now, more_now) (omega (arith, step_less s.made s.issue ht hf))

        pub turns_more : Turns today i a es₀ n t₁ f₁ k' (steps + 1) (cancelled + m) is fs ts xs' ds mi' mf' mt' mx' md'
        turns_more =
            let r = so_far_more s.made s.issue ht hf in
            record {
              held =
                  rw lots_now
                  (held_lots n T _ is fs ts (set xs F _) ds in_t (held_lots n F _ is fs ts xs ds in_f s.held));
              more =
                  kept_held (ys ++ appended today i (get_or fs t₁ 0) (get_or ts f₁ 0) m) k' mi' mf' mt' mx' md' q
                  (omega (arith, ap length added_now, r.few, s.held.most));
              issue = s.issue;
              made = rw (entries_now, more_now, is_t, is_f, smaller) r;
            }
