-- A record that is written is read again, whatever follows it.
use mathlib.Core.Path.{◌≡◌, refl, ap, ◌∙◌}
use mathlib.Core.Bool.{true, ◌&&◌}
use mathlib.Core.List.{List, ◌++◌}
use Prim.Native.Nat.{ℕ, ◌≤◌}
use native.Mathlib.Omega.{arith}
use lib.Dec.{leb}
use lib.ListN.{length, take, drop, replicate, length-append, length-drop, length-replicate}
use lib.Seq.{sets, take_at}
use Rattle.rules.specs.declared.Instruction.{Instruction}
use Rattle.rules.specs.declared.Instruction.TheVariants.{Trade, Deliver, Resolve, PairOff, Close, Cutoff, Roll, Mark, Turn}
use Rattle.rules.specs.Measures.{quote_count, tape_words}
use Rattle.rules.specs.Tape.{fields_fit, quotes_of}
use Rattle.laws.proofs.Basics.{by_test, and_right}
use Rattle.tape.proofs.QuoteWords.{quotes_filled}
use Rattle.desk.specs.Fields.{is_kind}
use Rattle.journals.specs.Record.{record_words, Logged, committed, told_of, Fits, ticket_in, record_of}
use Rattle.journals.specs.Journal.{read_next}
use Rattle.journals.proofs.Parts.{length_record}
use Rattle.journals.proofs.There.{record_read, record_quotes}
use Rattle.journal.specs.declared.Journalled.{Journalled}
use Rattle.journal.specs.Written.{call_noted, commit_noted, NotedIs}
use Rattle.journal.specs.Told.{instruction_as, plain_of, journalled}

-- the record's words in an output, and then any
written_again : (n : ℕ) (c : Logged) (out lent rest : List ℕ) (q : Journalled) → Fits c → lent ≡ record_of n c ++ out →
    q ≡ journalled (read_next n (take record_words lent ++ rest)) → q ≡ plain_of c
unfolding read_next
written_again n c out lent rest q f e p =
    let t : take record_words lent ≡ record_of n c = ap (take record_words) e ∙ take_at (record_of n c) out record_words (length_record n c f) in
    p ∙ ap (λ l. journalled (read_next n (l ++ rest))) t ∙ rw (record_read n c rest f)

-- an instruction fits without quotes that are not its own
told_fits : (x : Instruction) (quotes : List ℕ) → fields_fit x quotes ≡ true → Fits (told_of x quotes)
told_fits (Trade i f t x) quotes h = (h, refl)
told_fits (Deliver i a x) quotes h = (h, refl)
told_fits (Resolve i a x) quotes h = (h, refl)
told_fits (PairOff i a) quotes h = (h, refl)
told_fits Close quotes h = (h, refl)
told_fits Cutoff quotes h = (h, refl)
told_fits (Roll days rate) quotes h = (h, refl)
told_fits (Mark i m) quotes h = (h, refl)
told_fits (Turn d) quotes h = (h, refl)

module _ (n kind : ℕ) (x : Instruction) (quotes out lent : List ℕ) (r : ℕ) (w : NotedIs (call_noted n kind x quotes out) r lent) (done : r ≡ 0) where
  abbrev behind : List ℕ
  behind = drop (length (record_of n (told_of x quotes))) out

  roomy : leb record_words (length out) ≡ true
  unfolding call_noted
  roomy =
      by_test (leb record_words (length out)) (λ t. t)
      (λ t. let z : ◌≡◌ {A = ℕ} r 1 = rw t at w.reason in absurd (omega (arith, done, z)))

  fitting : is_kind kind && fields_fit x quotes ≡ true
  unfolding call_noted
  fitting =
      by_test (is_kind kind && fields_fit x quotes) (λ t. t)
      (λ t. let z : ◌≡◌ {A = ℕ} r 4 = rw (roomy, t) at w.reason in absurd (omega (arith, done, z)))

  laid : lent ≡ record_of n (told_of x quotes) ++ behind
  unfolding call_noted
  laid = rw (roomy, fitting) at w.out

  fit : fields_fit x quotes ≡ true
  fit = and_right (is_kind kind) (fields_fit x quotes) fitting

  -- its kind and numbers
  pub call_again : (rest : List ℕ) (q : Journalled) → q ≡ journalled (read_next n (take record_words lent ++ rest)) → q ≡ instruction_as x
  call_again rest q p = written_again n (told_of x quotes) behind lent rest q (told_fits x quotes fit) laid p

-- and the quotes of a roll, as `day_quotes` gives them of the words from the record's second on
pub quotes_again : (n kind days rate : ℕ) (quotes out lent : List ℕ) (r : ℕ) → NotedIs (call_noted n kind (Roll days rate) quotes out) r lent →
    r ≡ 0 → (rest : List ℕ) → sets (replicate quote_count 0) 0 (quotes_of (drop 1 (take record_words lent ++ rest))) ≡ quotes
quotes_again n kind days rate quotes out lent r w done rest =
    let x = Roll days rate in
    let f = told_fits x quotes (fit n kind x quotes out lent r w done) in
    let c = told_of x quotes in
    let l = length_record n c f in
    let t : take record_words lent ≡ record_of n c =
    ap (take record_words) (laid n kind x quotes out lent r w done)
    ∙ take_at (record_of n c) (drop (length (record_of n c)) out) record_words l in
    let h : tape_words ≤ length (drop 1 (record_of n c ++ rest)) =
    omega (arith, length-drop 1 (record_of n c ++ rest), length-append (record_of n c) rest, l) in
    ap (λ v. sets (replicate quote_count 0) 0 (quotes_of (drop 1 (v ++ rest)))) t
    ∙ quotes_filled (drop 1 (record_of n c ++ rest)) (replicate quote_count 0) h (length-replicate {A = ℕ} quote_count 0)
    ∙ record_quotes n days rate quotes rest f

-- a ticket's six numbers
pub commit_again : (n : ℕ) (ticket out lent : List ℕ) (r : ℕ) → NotedIs (commit_noted n ticket out) r lent → r ≡ 0 → (rest : List ℕ) (q : Journalled) →
    q ≡ journalled (read_next n (take record_words lent ++ rest)) → q ≡ plain_of (committed (ticket_in ticket))
unfolding commit_noted
commit_again n ticket out lent r w done rest q p =
    let c = committed (ticket_in ticket) in
    by_test (leb record_words (length out))
    (λ t. written_again n c (drop (length (record_of n c)) out) lent rest q tt (rw t at w.out) p)
    (λ t. let z : ◌≡◌ {A = ℕ} r 1 = rw t at w.reason in absurd (omega (arith, done, z)))
