-- What a sound book gives once none of roll's questions is answered 'no'.
use mathlib.Core.Path.{◌≡◌}
use mathlib.Core.Bool.{true, ◌&&◌}
use mathlib.Core.List.{List}
use Prim.Native.Nat.{ℕ, ◌<◌}
use native.Mathlib.Omega.{arith}
use lib.Dec.{eqb}
use lib.ListN.{length}
use borrow.Author.Tests.{ltb-true, eqb-true}
use Rattle.rules.specs.declared.Phase.{Phase}
use Rattle.rules.specs.declared.State.{State}
use Rattle.rules.specs.Measures.{last_day, quote_count}
use Rattle.rules.specs.Questions.{first_no, term_right, quotes_right}
use Rattle.rules.specs.Calls.{roll_asks}
use Rattle.laws.proofs.Basics.{and_left, and_right}
use Rattle.laws.proofs.Sound.{sound_parts, charge_bounded}
use Rattle.laws.proofs.Ledger.{sound_at_lem}
use Rattle.laws.proofs.Charges.{quotes_most}
use Rattle.measures.proofs.Limits.{termed}
use Rattle.laws.proofs.Answers.{AllYes, all_yes}
use Rattle.columns.specs.declared.LentColumns.{LentColumns}
use Rattle.columns.specs.Books.{lent_book, IsSound}
use Rattle.charging.specs.Charging.{Chargeable}

-- a roll's terms, found right
pub record Terms (days rate : ℕ) (quotes : List ℕ) : Type 0 where
  pub term : term_right days rate ≡ true
  pub count : length quotes ≡ 32
  pub quote : quotes_right quotes ≡ true

module _ (p : Phase) (today days rate : ℕ) (quotes : List ℕ) where
  abbrev pub asks : ℕ
  asks = first_no (roll_asks p today days rate quotes)

  answered : asks ≡ 0 → AllYes (roll_asks p today days rate quotes)
  answered h = all_yes (roll_asks p today days rate quotes) (omega arith) h

  pub terms : asks ≡ 0 → Terms days rate quotes
  terms h =
      let y11 = (answered h).1.0 in
      let y = and_left (term_right days rate && eqb (length quotes) quote_count) (quotes_right quotes) y11 in
      record {
        term = and_left (term_right days rate) (eqb (length quotes) quote_count) y;
        count = eqb-true (length quotes) quote_count (and_right (term_right days rate) (eqb (length quotes) quote_count) y);
        quote = and_right (term_right days rate && eqb (length quotes) quote_count) (quotes_right quotes) y11;
      }

  pub not_last : asks ≡ 0 → today < last_day
  not_last h = ltb-true today last_day (answered h).1.1.0

-- the columns of a sound book
pub chargeable : (s : State) (c : LentColumns) (days rate : ℕ) (quotes : List ℕ) → IsSound s c → first_no (roll_asks s.phase s.day days rate quotes) ≡ 0 →
    Chargeable days rate quotes s.entries c.issues.now c.froms.now c.tos.now c.lots.now c.charges.now
chargeable s c days rate quotes h q =
    let l = h.lengths in
    let b = sound_parts (lent_book s c) h.sound in
    let t = terms s.phase s.day days rate quotes q in
    let d = not_last s.phase s.day days rate quotes q in
    let e = sound_at_lem s.day s.entries c.issues.now c.froms.now c.tos.now c.lots.now c.days.now b.ledger in
    record {
      term = termed days rate t.term;
      counted = t.count;
      quoted = quotes_most quotes t.quote;
      count = b.ledger.count;
      issues = l.ledger.issues;
      froms = l.ledger.froms;
      tos = l.ledger.tos;
      lots = l.ledger.lots;
      issue = λ k h. (e k h).issue;
      from = λ k h. (e k h).from;
      to = λ k h. (e k h).to;
      most = λ k h. (e k h).most;
      accounts = l.charges;
      charge = λ a. omega (arith, charge_bounded (lent_book s c) b a, d);
    }
