-- Writing entries and records in turns. What a loop keeps is said of what is left: writing all from the start is
-- writing the rest from here. A turn that wrote the first of the rest leaves the others.
use mathlib.Core.Path.{◌≡◌, refl, ap, sym, ◌∙◌}
use mathlib.Core.List.{List, [], ◌∷◌, ◌++◌, append_assoc, append-nil}
use Prim.Native.Nat.{ℕ, suc, ◌+◌, ◌-◌, ◌*◌, ◌≤◌}
use native.Mathlib.Nat.{add-zero}
use native.Mathlib.Omega.{arith}
use lib.ListN.{length, take, drop, set, length-append}
use lib.Seq.{sets, length-sets}
use Rattle.rules.specs.declared.Entry.{Entry}
use Rattle.rules.specs.Records.{Rec, words, over}
use Rattle.laws.proofs.Ledger.{length_entries}
use Rattle.laws.proofs.Records.{length_words}
use Rattle.words.proofs.Stores.{part_length, part_over, sets_front}
use Rattle.words.proofs.Output.{words_append, over_more, records_length}
use Rattle.cutting.specs.Write.{Lent, lent, ledger_in, HeldIn, CanWrite, Wrote}

sets_append : (l vs ws : List ℕ) (i : ℕ) → sets (sets l i vs) (i + length vs) ws ≡ sets l i (vs ++ ws)
sets_append l [] ws i = rw add-zero
sets_append l (v ∷ vs) ws i =
    let e : i + suc (length vs) ≡ suc i + length vs = omega arith in
    rw e (sets_append (set l i v) vs ws (suc i))

pub ledger_length : (n : ℕ) (a : Lent) → length (ledger_in n a) ≡ n
ledger_length n a = length_entries n a.issues a.froms a.tos a.lots a.days

-- the columns with another output: the part behind v records, and the whole when that part comes back
abbrev pub with_out : Lent → List ℕ → Lent
with_out a o = lent a.issues a.froms a.tos a.lots a.days o

abbrev pub behind : ℕ → Lent → Lent
behind v a = with_out a (take (length a.out - 2 * v) (drop (2 * v) a.out))

abbrev pub back : ℕ → Lent → Lent → Lent
back v a b = with_out b (take (2 * v) a.out ++ (b.out ++ drop (length a.out - 2 * v) (drop (2 * v) a.out)))

-- how many entries were written
pub wrote_count : (es : List Entry) (rs : List Rec) (n m : ℕ) (a b : Lent) → Wrote es rs n a m b → m ≡ n + length es
wrote_count es rs n m a b p =
    omega (arith, ledger_length m b, ap length p.ledger, length-append (ledger_in n a) es, ledger_length n a)

-- one after the other, the second behind the records of the first
pub wrote_both : (es fs : List Entry) (rs ss : List Rec) (n m k v : ℕ) (a b c : Lent) → 2 * (length rs + length ss) ≤ length a.out →
    v ≡ length rs → Wrote es rs n a m b → Wrote fs ss m (behind v b) k c → Wrote (es ++ fs) (rs ++ ss) n a k (back v b c)
wrote_both es fs rs ss n m k v a b c room e p q =
    let l : length b.out ≡ length a.out = ap length p.out ∙ records_length rs a.out (omega arith) in
    let w : 2 * v ≡ length (words rs) = omega (arith, length_words rs) in
    record {
      held = q.held;
      ledger = q.ledger ∙ ap (λ x. x ++ fs) p.ledger ∙ append_assoc (ledger_in n a) es fs;
      out = part_over b.out c.out (words ss) (2 * v) (omega (arith, length_words ss)) q.out
          ∙ rw (w, p.out, words_append rs ss) (over_more (words rs) (words ss) a.out (omega (arith, length_words rs, length_words ss)));
    }

-- writing all from the start is writing the rest from here, behind v records
pub record Laying (all rest : List Entry) (recs left : List Rec) (n : ℕ) (a : Lent) (m v : ℕ) (b : Lent) : Type 0 where
  pub held : HeldIn m b
  pub ledger : ledger_in n a ++ all ≡ ledger_in m b ++ rest
  pub records : length recs ≡ v + length left
  pub same : length b.out ≡ length a.out
  pub out : over (words recs) a.out ≡ sets b.out (2 * v) (words left)

pub laying_starts : (all : List Entry) (recs : List Rec) (n : ℕ) (a : Lent) → CanWrite all recs n a → Laying all all recs recs n a n 0 a
laying_starts all recs n a c =
    record {
      held = c.held;
      ledger = refl;
      records = omega arith;
      same = refl;
      out = sym (sets_front (words recs) a.out (omega (arith, length_words recs, c.room)));
    }

module _ (all es rest : List Entry) (recs rs left : List Rec) (n m v : ℕ) (a b : Lent)
    (l : Laying all (es ++ rest) recs (rs ++ left) n a m v b) where
  -- how many entries are left to write
  pub laying_count : n + length all ≡ m + length es + length rest
  laying_count =
      omega (
        arith,
        ap length l.ledger,
        length-append (ledger_in n a) all,
        length-append (ledger_in m b) (es ++ rest),
        length-append es rest,
        ledger_length n a,
        ledger_length m b,
      )

  pub laying_can : CanWrite all recs n a → CanWrite es rs m (behind v b)
  laying_can c =
      record {
        held = l.held;
        most = omega (arith, laying_count, c.most);
        room = omega (arith, part_length b.out (2 * v), l.records, l.same, c.room, length-append rs left);
      }

  pub laying_more : (k : ℕ) (c : Lent) → CanWrite all recs n a → Wrote es rs m (behind v b) k c →
      Laying all rest recs left n a k (v + length rs) (back v b c)
  laying_more k c can p =
      let fits : 2 * v + length (words rs) ≤ length b.out = omega (arith, length_words rs, l.records, l.same, can.room, length-append rs left) in
      let e : (back v b c).out ≡ sets b.out (2 * v) (words rs) = part_over b.out c.out (words rs) (2 * v) fits p.out in
      let f : 2 * (v + length rs) ≡ 2 * v + length (words rs) = omega (arith, length_words rs) in
      record {
        held = p.held;
        ledger = l.ledger ∙ sym (append_assoc (ledger_in m b) es rest) ∙ ap (λ x. x ++ rest) (sym p.ledger);
        records = omega (arith, l.records, length-append rs left);
        same = ap length e ∙ length-sets b.out (2 * v) (words rs) ∙ l.same;
        out = l.out ∙ rw (e, f, words_append rs left) (sym (sets_append b.out (words rs) (words left) (2 * v)));
      }

pub laying_ends : (all rest : List Entry) (recs left : List Rec) (n m v : ℕ) (a b : Lent) → rest ≡ [] → left ≡ [] →
    Laying all rest recs left n a m v b → Wrote all recs n a m b
laying_ends all rest recs left n m v a b e f l =
    record {
      held = l.held;
      ledger = sym (l.ledger ∙ ap (λ x. ledger_in m b ++ x) e ∙ append-nil (ledger_in m b));
      out = sym (rw f at l.out);
    }
