-- What is answered to a record that is to be written.
use mathlib.Core.Path.{◌≡◌, refl, ap, ◌∙◌}
use mathlib.Core.Bool.{true, false}
use mathlib.Core.List.{List, ◌∷◌, ◌++◌}
use Prim.Native.Nat.{ℕ, ◌-◌, ◌≤◌, ◌<◌}
use native.Mathlib.Omega.{arith}
use borrow.Author.Tests.{le-leb, lt-leb}
use lib.ListN.{length, take, drop, length-drop, take-append-drop}
use lib.Seq.{sets, length-sets}
use Rattle.rules.specs.declared.Instruction.{Instruction}
use Rattle.rules.specs.Measures.{tape_words}
use Rattle.rules.specs.Records.{over}
use Rattle.rules.specs.Tape.{words_of, fields_fit, WriteAnswer, write_of}
use Rattle.laws.proofs.Basics.{by_test}
use Rattle.words.proofs.Stores.{part_length, part_over}
use Rattle.desk.specs.Fields.{is_kind}
use Rattle.journals.specs.Record.{record_words, ticket_words, ticket_in, commit_word, padded, closed, record_of}
use Rattle.journals.proofs.Parts.{words_count}
use Rattle.journals.proofs.Back.{words_told}
use Rattle.journal.specs.Written.{call_noted, commit_noted, NotedIs, Begun}
use Rattle.journal.proofs.Laid.{over_stored}

-- a commit
module _ (n : ℕ) (ticket out : List ℕ) where
  pub commit_short : length out < record_words → NotedIs (commit_noted n ticket out) 1 out
  unfolding commit_noted
  commit_short h = rw (lt-leb record_words (length out) h) (record { reason = refl; out = refl })

  abbrev words : List ℕ
  words = commit_word ∷ ticket_words (ticket_in ticket)

  pub commit_done : (mid lent : List ℕ) → record_words ≤ length out → mid ≡ sets out 1 words →
      lent ≡ over (closed (n ∷ padded (take 7 (drop 1 mid)))) mid → NotedIs (commit_noted n ticket out) 0 lent
  unfolding commit_noted record_of
  commit_done mid lent h m e =
      rw (le-leb record_words (length out) h)
      (record { reason = refl; out = over_stored n words out lent (omega arith) h (e ∙ ap (λ l. over (closed (n ∷ padded (take 7 (drop 1 l)))) l) m) })

-- an instruction
module _ (n kind : ℕ) (x : Instruction) (quotes out : List ℕ) where
  pub call_short : length out < record_words → NotedIs (call_noted n kind x quotes out) 1 out
  unfolding call_noted
  call_short h = rw (lt-leb record_words (length out) h) (record { reason = refl; out = refl })

  module _ (h : record_words ≤ length out) where
    pub call_no_kind : is_kind kind ≡ false → NotedIs (call_noted n kind x quotes out) 4 out
    unfolding call_noted
    call_no_kind k = rw (le-leb record_words (length out) h, k) (record { reason = refl; out = refl })

    -- what stands behind the place of the number, as the tape's writer left it
    abbrev part : List ℕ
    part = take (length out - 1) (drop 1 out)

    abbrev whole : List ℕ → List ℕ
    whole ys = take 1 out ++ (ys ++ drop (length out - 1) (drop 1 out))

    roomy : tape_words ≤ length part
    roomy = omega (arith, part_length out 1, h)

    -- by whether the fields fit
    module _ (r m : ℕ) (ys : List ℕ) (w : record { refusal = r; count = m; out = ys } ≡ write_of x quotes part) where
      fit_no : fields_fit x quotes ≡ false → (r ≡ 15) × (ys ≡ part)
      unfolding write_of
      fit_no f =
          let v : record { refusal = r; count = m; out = ys } ≡ record { refusal = 15; count = 0; out = part } = rw (le-leb tape_words (length part) roomy, f) at w in
          (ap (λ (a : WriteAnswer). a.refusal) v, ap (λ (a : WriteAnswer). a.out) v)

      fit_yes : fields_fit x quotes ≡ true → (r ≡ 0) × (m ≡ length (words_of x quotes)) × (ys ≡ over (words_of x quotes) part)
      unfolding write_of
      fit_yes f =
          let v : record { refusal = r; count = m; out = ys } ≡ record { refusal = 0; count = length (words_of x quotes); out = over (words_of x quotes) part } =
          rw (le-leb tape_words (length part) roomy, f) at w in
          (ap (λ (a : WriteAnswer). a.refusal) v, ap (λ (a : WriteAnswer). a.count) v, ap (λ (a : WriteAnswer). a.out) v)

      fits : r ≡ 0 → fields_fit x quotes ≡ true
      fits z = by_test (fields_fit x quotes) (λ t. t) (λ t. absurd (omega (arith, z, (fit_no t).0)))

      not_fits : (r ≡ 0 → ⊥) → fields_fit x quotes ≡ false
      not_fits z = by_test (fields_fit x quotes) (λ t. absurd (z (fit_yes t).0)) (λ t. t)

      -- a refusal left it as it was
      pub call_refused : is_kind kind ≡ true → (r ≡ 0 → ⊥) → NotedIs (call_noted n kind x quotes out) 4 (whole ys)
      unfolding call_noted
      call_refused k z =
          let f = not_fits z in
          let d : length (drop 1 out) ≤ length out - 1 = omega (arith, length-drop 1 out) in
          rw (le-leb record_words (length out) h, k, f)
          (record {
            reason = refl;
            out =
                ap whole (fit_no f).1
                ∙ ap (λ l. take 1 out ++ l) (take-append-drop (length out - 1) (drop 1 out)) ∙ take-append-drop 1 out;
          })

      -- else the words stand there, to be finished
      call_stands : r ≡ 0 → whole ys ≡ sets out 1 (words_of x quotes)
      call_stands z =
          let f = fits z in
          part_over out ys (words_of x quotes) 1 (omega (arith, words_count x quotes f, h)) (fit_yes f).2

      pub call_begun : r ≡ 0 → Begun m (whole ys)
      call_begun z =
          let f = fits z in
          let c = words_count x quotes f in
          record {
            words = omega (arith, c, (fit_yes f).1);
            room = omega (arith, h, ap length (call_stands z), length-sets out 1 (words_of x quotes));
          }

      pub call_done : (lent : List ℕ) → is_kind kind ≡ true → r ≡ 0 →
          lent ≡ over (closed (n ∷ padded (take m (drop 1 (whole ys))))) (whole ys) → NotedIs (call_noted n kind x quotes out) 0 lent
      unfolding call_noted record_of
      call_done lent k z e =
          let f = fits z in
          let ws = words_of x quotes in
          let c = words_count x quotes f in
          rw (le-leb record_words (length out) h, k, f, words_told x quotes)
          (record {
            reason = refl;
            out =
                over_stored n ws out lent c h
                (e ∙ ap (λ m. over (closed (n ∷ padded (take m (drop 1 (whole ys))))) (whole ys)) (fit_yes f).1
                ∙ ap (λ l. over (closed (n ∷ padded (take (length ws) (drop 1 l)))) l) (call_stands z));
          })
