-- What one turn of a run leaves, from what its call gave: the book behind it is sound, and in columns of a book's lengths.
use mathlib.Core.Path.{◌≡◌, refl, sym, ap, subst, ◌∙◌}
use mathlib.Core.Bool.{true}
use mathlib.Core.List.{List, [], ◌∷◌, ◌++◌}
use Prim.Native.Nat.{ℕ, ◌-◌, ◌*◌, ◌≤◌}
use native.Mathlib.Omega.{arith}
use lib.ListN.{length, take, drop}
use Rattle.std.specs.Prelude.{Ok}
use Rattle.rules.specs.declared.Book.{Book}
use Rattle.rules.specs.declared.Instruction.{Instruction}
use Rattle.rules.specs.declared.Instruction.TheVariants as instruction
use Rattle.rules.specs.declared.State.{State}
use Rattle.rules.specs.Records.{over}
use Rattle.rules.specs.Refusals.{number_in}
use Rattle.rules.specs.Calls.{Call, Trade, Deliver, called}
use Rattle.rules.specs.Tape.{read_of, quotes_of}
use Rattle.rules.specs.Run.{call_of}
use Rattle.tally.proofs.Reached.{Reached, called_reached}
use Rattle.columns.specs.declared.LentColumns.{LentColumns}
use Rattle.columns.specs.Books.{lent_book, IsSound}
use Rattle.answers.specs.Turns.{Given, count_in, cancelled_in, state_after, TurnIs, Makes, MakesAlone}
use Rattle.answers.proofs.Turning.{trade_state, deliver_state}
use Rattle.batch.specs.declared.Stand.{Stand}
use Rattle.batch.specs.Batch.{answer_at, written_by, has_room, place_behind, Stepped, Passed, PassedBeside}
use Rattle.tape.proofs.Rest.{rest_part}
use Rattle.batch.proofs.Batches.{written_fits, keeps_out, turned}

pub stepped : (ws : List ℕ) (x : Instruction) (b b' : Book) (r : Given) (answers numbers out out' : List ℕ) (w : ℕ) → Reached b →
    TurnIs (answer_at b x ws out) r b' out' → numbers ≡ over (number_in r ∷ count_in r ∷ cancelled_in r ∷ []) answers → w ≡ written_by x (count_in r) →
    Stepped ws x b answers numbers out out' w b'
stepped ws x b b' r answers numbers out out' w h g t p =
    let reached : Reached b' = subst Reached (sym g.book) (called_reached b (call_of x (quotes_of ws)) out h) in
    record {
      told = rw (g.refusal, g.count, g.cancelled) at t;
      left = g.out;
      put = rw g.count at p;
      book = g.book;
      lengths = reached.lengths;
      sound = reached.sound;
    }

-- A trade or a delivery leaves the state as it is: so the columns alone are those of the book behind it

pub trade_turn : (s : State) (c c' : LentColumns) (i f t x : ℕ) (r : Given) (out : List ℕ) → Makes s (Trade i f t x) r c c' out out →
    TurnIs (called (lent_book s c) (Trade i f t x) out) r (lent_book s c') out
trade_turn s c c' i f t x r out m =
    let e : state_after s r ≡ s = ap (λ (b : Book). b.state) m.book ∙ trade_state (lent_book s c) i f t x out in
    rw e at m

pub deliver_turn : (s : State) (c c' : LentColumns) (i a x : ℕ) (r : Given) (out out' : List ℕ) → Makes s (Deliver i a x) r c c' out out' →
    TurnIs (called (lent_book s c) (Deliver i a x) out) r (lent_book s c') out'
deliver_turn s c c' i a x r out out' m =
    let e : state_after s r ≡ s = ap (λ (b : Book). b.state) m.book ∙ deliver_state (lent_book s c) i a x out in
    rw e at m

-- the records of a delivery stand in the words that it may write to
pub delivery_fits : (b b' : Book) (i a x : ℕ) (r : Given) (out out' : List ℕ) → TurnIs (called b (Deliver i a x) out) r b' out' → 2 * count_in r ≤ length out'
delivery_fits b b' i a x r out out' g = rw (g.count, g.out) (written_fits b (instruction.Deliver i a x) [] out)

-- the book that a call leaves is sound, in columns of a book's lengths
pub still_sound : (s : State) (c c' : LentColumns) (k : Call) (r : Given) (out out' : List ℕ) → IsSound s c →
    TurnIs (called (lent_book s c) k out) r (lent_book s c') out' → IsSound s c'
still_sound s c c' k r out out' h g =
    let reached : Reached (lent_book s c') =
    subst Reached (sym g.book) (called_reached (lent_book s c) k out (record { lengths = h.lengths; sound = h.sound })) in
    record { lengths = reached.lengths; sound = reached.sound }

-- One more is passed

module _ (ws : List ℕ) (s : State) (c c' c'' : LentColumns) (answers answers' numbers : List ℕ) (from p : Stand) (sound : IsSound s c') where
  abbrev told : ℕ
  told = 3 * p.answered

  abbrev numbers_after : List ℕ
  numbers_after = take told answers' ++ (numbers ++ drop (length answers' - told) (drop told answers'))

  module _ (r : Given) (t : numbers ≡ over (number_in r ∷ count_in r ∷ cancelled_in r ∷ []) (take (length answers' - told) (drop told answers'))) where
    pub trade_passed : (i f t x room : ℕ) → p.written ≡ from.written →
        PassedBeside ws (lent_book s c) (lent_book s c') answers answers' room from p →
        read_of (drop p.used ws) ≡ Ok (instruction.Trade i f t x, 2) → has_room (length answers' - told) room ≡ true → MakesAlone s (Trade i f t x) r c' c'' →
        PassedBeside ws (lent_book s c) (lent_book s c'') answers numbers_after room from (place_behind p 2 0)
    trade_passed i f t' x room w q e h m out z =
        let lent = drop p.written out in
        record {
          on = omega (arith, (q out z).on);
          going = λ b₀ answers₀ out₀ g.
              keeps_out b₀ ws answers₀ out₀ p (lent_book s c') answers' out ((q out z).going b₀ answers₀ out₀ g) (instruction.Trade i f t' x) 2 e
              (rw (w, z) h) numbers lent 0 (lent_book s c'')
              (stepped (drop p.used ws) (instruction.Trade i f t' x) (lent_book s c') (lent_book s c'') r (drop told answers') numbers lent lent 0
              (record { lengths = sound.lengths; sound = sound.sound }) (trade_turn s c' c'' i f t' x r lent (m lent))
              (t ∙ ap (over (number_in r ∷ count_in r ∷ cancelled_in r ∷ [])) (rest_part answers' told)) refl)
              refl;
        }

    pub delivery_passed : (i a x w : ℕ) (out out' rest : List ℕ) →
        Passed ws (lent_book s c) (lent_book s c') answers answers' out out' from p →
        read_of (drop p.used ws) ≡ Ok (instruction.Deliver i a x, 2) → has_room (length answers' - told) (length out' - p.written) ≡ true →
        Makes s (Deliver i a x) r c' c'' (take (length out' - p.written) (drop p.written out')) rest → w ≡ 2 * count_in r →
        Passed ws (lent_book s c) (lent_book s c'') answers numbers_after out
        (take p.written out' ++ (rest ++ drop (length out' - p.written) (drop p.written out'))) from
        (place_behind p 2 w)
    delivery_passed i a x w out out' rest q e h m n =
        record {
          on = omega (arith, q.on);
          going = λ b₀ answers₀ out₀ g.
              turned b₀ ws answers₀ out₀ p (lent_book s c') answers' out' (q.going b₀ answers₀ out₀ g) (instruction.Deliver i a x) 2 e h numbers rest w (lent_book s c'')
              (stepped _ (instruction.Deliver i a x) (lent_book s c') (lent_book s c'') r _ numbers _ rest w (record { lengths = sound.lengths; sound = sound.sound })
              (deliver_turn s c' c'' i a x r _ rest m) t n);
        }
