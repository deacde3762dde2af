-- A commit's questions, what their answers say, and what it then leaves.
use mathlib.Core.Path.{◌≡◌, refl, sym, ap, ◌∙◌}
use mathlib.Core.Bool.{Bool, true, false, ◌&&◌}
use mathlib.Core.List.{List, [], ◌∷◌, ◌++◌, map}
use Prim.Native.Nat.{ℕ, suc, ◌+◌, ◌-◌, ◌≤◌, ◌<◌}
use native.Mathlib.Omega.{arith}
use lib.Dec.{leb, ltb, eqb}
use lib.ListN.{length, take, drop, length-drop}
use lib.Seq.{length-take-le, drop_at, drop-drop}
use lib.IntN.{ℤ}
use borrow.Author.Tests.{le-leb, lt-leb, leb-true, ltb-true, eqb-true}
use Rattle.rules.specs.declared.Phase.{Phase}
use Rattle.rules.specs.declared.Ticket.{Ticket}
use Rattle.rules.specs.Measures.{unit_lots, most_lifts, output_words}
use Rattle.rules.specs.Units.{AccountLots, account_lots}
use Rattle.rules.specs.Handover.{covered, stock, waiting, first_unit, handed_from}
use Rattle.rules.specs.Lifts.{lift_of, to_front, lift}
use Rattle.rules.specs.Book.{is_settling, dues_of, delivered_total, lift_number, count_at, order_in}
use Rattle.rules.specs.Records.{handover, words, over}
use Rattle.rules.specs.Questions.{first_no, ask_issue, ask_unhanded, ask_ticket, ask_lifts, same_ticket}
use Rattle.rules.specs.Calls.{AskAnswer, ticket_of, commit_asks, commit_records, with_lift}
use Rattle.laws.proofs.Basics.{by_test, and_left, and_right, Every, each_drop}
use Rattle.laws.proofs.Units.{UnitSized, Order}
use Rattle.laws.proofs.Answers.{yes}
use Rattle.laws.proofs.Handover.{covered_le, waits_short}
use Rattle.laws.proofs.Lifts.{lift_covered, lift_one}
use Rattle.laws.proofs.Cells.{length_dues}
use Rattle.laws.proofs.SoundRows.{order_in_lem}
use Rattle.tickets.specs.declared.Stand.{Stand}
use Rattle.std.specs.Prelude.{Ok, Err}
use Rattle.rules.specs.declared.Refusal.{Refusal}
use Rattle.rules.specs.Refusals.{number_of}
use Rattle.tickets.specs.Tickets.{Stands, unhanded_ticket, commit_no}
use Rattle.committing.specs.Committing.{CanHandOn, if_covered, unit_of, HandedOn}
use Rattle.lifting.specs.Lifting.{Commits}

-- The unit lifted before all unhanded ones

take_one : (vs : List AccountLots) → 0 < length vs → take 1 vs ≡ first_unit vs ∷ []
take_one [] h = absurd (omega arith)
take_one (v ∷ vs) h = refl

first_only : (u : AccountLots) (vs : List AccountLots) (s n : ℕ) → n ≡ covered (u ∷ vs) s → n ≤ 1 → take n (u ∷ vs) ≡ if_covered u s
first_only u vs s n e h =
    by_test (leb u.lots s)
    (λ t. let q = simp t at e in let m : n ≡ 1 = omega arith in simp t (rw m))
    (λ t. let q = simp t at e in let m : n ≡ 0 = omega arith in simp t (rw m))

module _ (us : List AccountLots) (d k : ℕ) (unhanded : covered us d ≤ k) (there : k < length us) where
  abbrev place : ℕ
  place = covered us d

  abbrev chosen : AccountLots
  chosen = first_unit (drop k us)

  abbrev others : List AccountLots
  others = take (k - place) (waiting us d) ++ drop (suc (k - place)) (waiting us d)

  in_front : to_front (k - place) (waiting us d) ≡ chosen ∷ others
  in_front =
      let e : drop (k - place) (waiting us d) ≡ drop k us = drop-drop (k - place) place us ∙ (let q : place + (k - place) ≡ k = omega arith in rw q) in
      ap (λ vs. vs ++ others) (take_one (drop (k - place) (waiting us d)) (omega (arith, length-drop k us, ap length e)) ∙ ap (λ vs. first_unit vs ∷ []) e)

  behind : drop place (lift (lift_of k place) us) ≡ chosen ∷ others
  unfolding lift
  behind = drop_at (take place us) (to_front (k - place) (waiting us d)) place (length-take-le place us (covered_le us d)) ∙ in_front

  -- it alone is handed over, where the stock covers it
  pub one_handed : handed_from (lift (lift_of k place) us) place d ≡ if_covered chosen (stock us d)
  one_handed =
      let n = covered (lift (lift_of k place) us) d in
      let e : n ≡ place + covered (chosen ∷ others) (stock us d) = lift_covered us d k ∙ ap (λ vs. place + covered vs (stock us d)) in_front in
      ap (take (n - place)) behind
      ∙ first_only chosen others (stock us d) (n - place) (omega arith) (omega (arith, lift_one us d k (waits_short us d (omega arith)) unhanded there))

each_first : (P : AccountLots → Type 0) (us : List AccountLots) → Every P us → 0 < length us → P (first_unit us)
each_first P [] ps h = absurd (omega arith)
each_first P (u ∷ us) ps h = ps.0

-- the unit at a place of an order
pub record InRange (u : AccountLots) : Type 0 where
  pub account : u.account < 64
  pub lots : u.lots ≤ unit_lots

pub in_range : (dues : List ℕ) (us : List AccountLots) (k : ℕ) → Order dues us → length dues ≡ 64 → k < length us → InRange (first_unit (drop k us))
in_range dues us k o n h =
    let l : 0 < length (drop k us) = omega (arith, length-drop k us) in
    record {
      account = omega (arith, n, each_first (λ u. u.account < length dues) (drop k us) (each_drop (λ u. u.account < length dues) k us o.accounts) l);
      lots = (each_first UnitSized (drop k us) (each_drop UnitSized k us o.sized) l).1;
    }

-- A commit

-- a ticket that is not refused by 17 names the unit as it stands
same_unit_lem : (t u : Ticket) → same_ticket t u ≡ true → (t.account ≡ u.account) × (t.lots ≡ u.lots)
same_unit_lem t u e =
    let a = eqb t.account u.account in
    let x = eqb t.lots u.lots in
    let y = eqb t.day u.day in
    let ax = and_left (a && x) y (and_left (a && x && y) (eqb t.count u.count) e) in
    (eqb-true t.account u.account (and_left a x ax), eqb-true t.lots u.lots (and_right a x ax))

module _ (new : Bool) (phase : Phase) (today : ℕ) (nets : List ℤ) (delivered lifts : List ℕ) (t : Ticket) where
  abbrev us : List AccountLots
  us = order_in new nets lifts t.issue

  abbrev d : ℕ
  d = delivered_total delivered t.issue

  abbrev number : ℕ
  number = first_no (commit_asks phase today (order_in new nets lifts) delivered lifts t)

  pub not_settling : is_settling phase ≡ false → 3 ≡ number
  not_settling e = simp e

  pub no_issue : is_settling phase ≡ true → 15 < t.issue → 4 ≡ number
  no_issue e l = simp (e, lt-leb t.issue 15 l)

  -- 16, or 17 and 18, from what asking now gives
  pub by_ticket : (a : AskAnswer) (n m h : ℕ) → is_settling phase ≡ true → t.issue ≤ 15 → h ≡ covered us d →
      a ≡ unhanded_ticket us h today (count_at lifts t.issue) t.issue t.unit → m ≡ lift_number lifts t.issue → n ≡ commit_no t a m → n ≡ number
  unfolding unhanded_ticket
  by_ticket a n m h e l w q p r =
      r
      ∙ by_test (leb (covered us d) t.unit && ltb t.unit (length us))
      (λ b. rw (q, p, w) (simp (e, le-leb t.issue 15 l, b)))
      (λ b. rw (q, p, w) (simp (e, le-leb t.issue 15 l, b)))

  -- what is known where none is answered 'no'
  pub record Unhanded : Type 0 where
    pub handed : covered us d ≤ t.unit
    pub there : t.unit < length us
    pub few : lift_number lifts t.issue < most_lifts
    pub account : t.account ≡ (first_unit (drop t.unit us)).account
    pub lots : t.lots ≡ (first_unit (drop t.unit us)).lots

  pub all_yes : number ≡ 0 → Unhanded
  all_yes h =
      let now17 = ticket_of today (order_in new nets lifts) lifts t.issue t.unit in
      let q17 = ask_ticket t now17 ∷ ask_lifts (lift_number lifts t.issue) ∷ [] in
      let y3 = yes 2 (is_settling phase) (ask_issue t.issue ∷ ask_unhanded us d t.unit ∷ q17) h in
      let y4 = yes 3 (leb t.issue 15) (ask_unhanded us d t.unit ∷ q17) y3.others in
      let y16 = yes 15 (leb (covered us d) t.unit && ltb t.unit (length us)) q17 y4.others in
      let y17 = yes 16 (same_ticket t now17) (ask_lifts (lift_number lifts t.issue) ∷ []) y16.others in
      let y18 = yes 17 (ltb (lift_number lifts t.issue) most_lifts) [] y17.others in
      record {
        handed = leb-true _ _ (and_left (leb (covered us d) t.unit) (ltb t.unit (length us)) y16.first);
        there = ltb-true _ _ (and_right (leb (covered us d) t.unit) (ltb t.unit (length us)) y16.first);
        few = ltb-true _ _ y18.first;
        account = (same_unit_lem t now17 y17.first).0;
        lots = (same_unit_lem t now17 y17.first).1;
      }

  -- so the unit can be handed on
  pub can_hand_on : (out : List ℕ) → Unhanded → length nets ≡ 1024 → t.issue ≤ 15 → output_words ≤ length out → CanHandOn t out
  can_hand_on out u n l room =
      let i : t.issue < 16 = omega arith in
      let g = in_range (dues_of nets t.issue) us t.unit (order_in_lem new nets lifts t.issue) (length_dues nets t.issue n i) u.there in
      record { issue = i; account = omega (arith, u.account, g.account); lots = omega (arith, u.lots, g.lots); room = omega arith }

  -- and what is handed on is what the definition says
  handed_on_lem : Unhanded → (s : ℕ) → s ≡ stock us d → map (handover t.issue) (if_covered (unit_of t) s) ≡ commit_records (order_in new nets lifts) delivered t
  handed_on_lem u s e =
      ap (map (handover t.issue))
      (ap (λ a. if_covered (account_lots a t.lots) s) u.account
      ∙ ap (λ x. if_covered (account_lots (first_unit (drop t.unit us)).account x) s) u.lots
      ∙ ap (if_covered (first_unit (drop t.unit us))) e
      ∙ sym (one_handed us d t.unit u.handed u.there))

  module _ (out : List ℕ) where
    pub is_refused : (r : Refusal) → number_of r ≡ number → Commits new phase today nets delivered lifts lifts t out out (Err r)
    is_refused r q = record { refusal = q; change = record { column = refl; output = refl } }

    pub is_done : (k : ℕ) (runs lifts' out' : List ℕ) (p : Stand) → 0 ≡ number → Stands nets delivered lifts t.issue runs p →
        HandedOn t p.stock out out' k → lifts' ≡ with_lift lifts t.issue (lift_of t.unit p.handed) →
        Commits new phase today nets delivered lifts lifts' t out out' (Ok k)
    is_done k runs lifts' out' p z s h c =
        let e = handed_on_lem (all_yes (sym z)) p.stock (s.left new) in
        record {
          refusal = z;
          change = record {
            count = h.count ∙ ap length e;
            column = c ∙ rw (s.covers new);
            output = h.output ∙ ap (λ rs. over (words rs) out) e;
          };
        }
