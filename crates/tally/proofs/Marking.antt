-- Mark and turn keep the invariant: the book differs in its marks or in its day of the new order alone, and no order
-- changes today.
use mathlib.Core.Path.{refl, sym, subst}
use mathlib.Core.List.{List}
use Prim.Native.Nat.{ℕ}
use Rattle.rules.specs.Calls.{Mark, Turn, called}
use Rattle.rules.specs.Book.{order_in, delivered_total}
use Rattle.rules.specs.Tally.{Tallied}
use Rattle.laws.proofs.Answers.{by_answer}
use Rattle.laws.proofs.Kept.{turn_same}
use Rattle.tally.proofs.Invariant.{Inv, Keeps, RowIs}

pub keeps_mark : (s : Tallied) → Inv s → (i m : ℕ) (out : List ℕ) → Keeps (Mark i m) s (called s.book (Mark i m) out)
keeps_mark s v i m out =
    by_answer (Keeps (Mark i m) s) s.book (Mark i m) out
    (λ y. record {
      size_nets = v.size_nets;
      size_delivered = v.size_delivered;
      size_lifts = v.size_lifts;
      size_charges = v.size_charges;
      nets = v.nets;
      given = v.given;
      handed = v.handed;
      phase = v.phase;
      rows = v.rows;
      lifts = v.lifts;
      day = v.day;
      turn = v.turn;
      balance = v.balance;
      charges = v.charges;
    })
    (λ r. v)

pub keeps_turn : (s : Tallied) → Inv s → (d : ℕ) (out : List ℕ) → Keeps (Turn d) s (called s.book (Turn d) out)
keeps_turn s v d out =
    let b = s.book in
    by_answer (Keeps (Turn d) s) b (Turn d) out
    (λ y. record {
      size_nets = v.size_nets;
      size_delivered = v.size_delivered;
      size_lifts = v.size_lifts;
      size_charges = v.size_charges;
      nets = v.nets;
      given = v.given;
      handed = v.handed;
      phase = v.phase;
      rows = λ i h.
          subst (λ new. RowIs b.state.phase (order_in new b.nets b.lifts i) (delivered_total b.delivered i) (s.tally.rows i))
          (sym (turn_same b.state.turn b.state.day d y.1.0)) (v.rows i h);
      lifts = v.lifts;
      day = v.day;
      turn = refl;
      balance = v.balance;
      charges = v.charges;
    })
    (λ r. v)
