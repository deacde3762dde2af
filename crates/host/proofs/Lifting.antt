-- Committing a ticket on a host's book: refused by 1 or 2, or committed as in place.
use mathlib.Core.Path.{◌≡◌, refl, sym, ap, subst, ◌∙◌}
use mathlib.Core.Bool.{Bool, true, false}
use mathlib.Core.List.{List, []}
use Prim.Native.Nat.{ℕ, suc, ◌≤◌, ◌<◌}
use lib.Dec.{leb}
use lib.ListN.{length}
use borrow.Author.Tests.{le-leb}
use Rattle.rules.specs.declared.Book.{Book}
use Rattle.rules.specs.declared.Ticket.{Ticket}
use Rattle.rules.specs.Measures.{output_words}
use Rattle.rules.specs.Book.{dealt_today, with_lifts}
use Rattle.rules.specs.Questions.{first_no}
use Rattle.rules.specs.Calls.{Call, Commit, HasRoom, asks}
use Rattle.laws.proofs.Answers.{said_yes, short_first, own_first, refused_as, accepted_as}
use Rattle.std.specs.Prelude.{Result, Ok, Err, pred}
use Rattle.rules.specs.declared.Refusal.{Refusal}
use Rattle.rules.specs.Refusals.{number_of, number_in}
use Rattle.laws.proofs.Refused.{some_number}
use Rattle.lifting.specs.Lifting.{Commits}
use Rattle.host.specs.States.{sound_at}
use Rattle.host.specs.Calls.{day_made}
use Rattle.host.specs.Lifts.{CommitIs, CommittedIn}
use Rattle.host.proofs.Holding.{sound_book}
use Rattle.host.proofs.Calling.{refusal, made_short, made_unsound, made_sound}

module _ (phase : ℕ) (b : Book) (t : Ticket) (out : List ℕ) where
  abbrev commit : Call
  commit = Commit t

  refused : (n : ℕ) → refusal (suc n) b commit out ≡ day_made phase b commit out → CommitIs b (day_made phase b commit out) (suc n) 0 b.lifts out
  refused n e = rw (← e) (record { refusal = refl; count = refl; cancelled = refl; book = refl; out = refl })

  pub commit_short : length out < output_words → CommitIs b (day_made phase b commit out) 1 0 b.lifts out
  commit_short h = refused 0 (made_short phase b commit out 0 (short_first b [] out h))

  module _ (room : output_words ≤ length out) where
    has_room : HasRoom commit out
    has_room = said_yes 1 (leb output_words (length out)) [] (le-leb output_words (length out) room)

    pub commit_unsound : sound_at phase b ≡ false → CommitIs b (day_made phase b commit out) 2 0 b.lifts out
    commit_unsound g = refused 1 (made_unsound phase b commit out has_room g)

    -- a sound book: the commit in place, in the order of the day
    module _ (new : Bool) (lifts out' : List ℕ) (g : sound_at phase b ≡ true) (e : new ≡ dealt_today b) where
      of_book : (r : Result ℕ Refusal) → Commits new b.state.phase b.state.day b.nets b.delivered b.lifts lifts t out out' r →
          Commits (dealt_today b) b.state.phase b.state.day b.nets b.delivered b.lifts lifts t out out' r
      of_book r k = subst (λ (o : Bool). Commits o b.state.phase b.state.day b.nets b.delivered b.lifts lifts t out out' r) e k

      own : (r : Result ℕ Refusal) → Commits new b.state.phase b.state.day b.nets b.delivered b.lifts lifts t out out' r → first_no (asks b commit out) ≡ number_in r
      own r k = own_first b commit out has_room (sound_book phase b g) ∙ sym (of_book r k).refusal

      pub committed : (r : Result ℕ Refusal) → Commits new b.state.phase b.state.day b.nets b.delivered b.lifts lifts t out out' r →
          CommittedIn phase b t out lifts out' r
      committed (Ok n) k =
          let a = (of_book (Ok n) k).change in
          rw (← made_sound phase b commit out g, accepted_as b commit out (own (Ok n) k))
          (record { refusal = refl; count = a.count; cancelled = refl; book = ap (with_lifts b) a.column; out = a.output })
      committed (Err r) k =
          let a = (of_book (Err r) k).change in
          rw (← made_sound phase b commit out g, refused_as b commit out (pred (number_of r)) (own (Err r) k ∙ some_number r))
          (record { refusal = some_number r; count = refl; cancelled = refl; book = ap (with_lifts b) a.column; out = a.output })
