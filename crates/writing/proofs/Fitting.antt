-- What question 15 says of each field where its answer is 'yes'.
use mathlib.Core.Path.{◌≡◌}
use mathlib.Core.Bool.{true, ◌&&◌}
use mathlib.Core.List.{List}
use Prim.Native.Nat.{ℕ, ◌^◌, ◌<◌}
use borrow.Author.Tests.{ltb-true, eqb-true}
use lib.Dec.{eqb}
use lib.ListN.{length}
use Rattle.rules.specs.declared.Instruction.TheVariants.{Roll}
use Rattle.rules.specs.Measures.{quote_count}
use Rattle.rules.specs.Book.{all}
use Rattle.rules.specs.Records.{issue_bits, from_bits, to_bits, lots_bits, days_bits, rate_bits, mark_bits, quote_bits}
use Rattle.rules.specs.Tape.{fits, head_fits, fields_fit}
use Rattle.laws.proofs.Basics.{and_left, and_right}
use Rattle.words.specs.Fits.{HeadFits}

module _ (k i f t x : ℕ) (small : k < 2 ^ 4) (e : head_fits i f t x ≡ true) where
  pub head_fits_lem : HeadFits k i f t
  head_fits_lem =
      let p = and_left (fits issue_bits i && fits from_bits f && fits to_bits t) (fits lots_bits x) e in
      let q = and_left (fits issue_bits i && fits from_bits f) (fits to_bits t) p in
      record {
        kinds = small;
        issues = ltb-true i 16 (and_left (fits issue_bits i) (fits from_bits f) q);
        froms = ltb-true f 64 (and_right (fits issue_bits i) (fits from_bits f) q);
        tos = ltb-true t 64 (and_right (fits issue_bits i && fits from_bits f) (fits to_bits t) p);
      }

  pub lots_fit : x < 2 ^ 28
  lots_fit = ltb-true x 268435456 (and_right (fits issue_bits i && fits from_bits f && fits to_bits t) (fits lots_bits x) e)

pub record MarkFits (i m : ℕ) : Type 0 where
  pub issue : i < 2 ^ 4
  pub mark : m < 2 ^ 1

pub mark_fits : (i m : ℕ) → fits issue_bits i && fits mark_bits m ≡ true → MarkFits i m
mark_fits i m e =
    record {
      issue = ltb-true i 16 (and_left (fits issue_bits i) (fits mark_bits m) e);
      mark = ltb-true m 2 (and_right (fits issue_bits i) (fits mark_bits m) e);
    }

pub record RollFits (days rate : ℕ) (quotes : List ℕ) : Type 0 where
  pub day : days < 2 ^ 4
  pub rates : rate < 2 ^ 14
  pub count : length quotes ≡ quote_count
  pub each : all (fits quote_bits) quotes ≡ true

pub roll_fits : (days rate : ℕ) (quotes : List ℕ) → fields_fit (Roll days rate) quotes ≡ true → RollFits days rate quotes
roll_fits days rate quotes e =
    let a = fits days_bits days in
    let b = fits rate_bits rate in
    let n = eqb (length quotes) quote_count in
    let p = and_left (a && b && n) (all (fits quote_bits) quotes) e in
    let q = and_left (a && b) n p in
    record {
      day = ltb-true days 16 (and_left a b q);
      rates = ltb-true rate 16384 (and_right a b q);
      count = eqb-true (length quotes) quote_count (and_right (a && b) n p);
      each = and_right (a && b && n) (all (fits quote_bits) quotes) e;
    }
