-- What the functions of this crate may count on, and what they leave.
use Rattle.std.specs.Prelude.{◌≡◌, Bool, true, List, ℕ, ◌+◌, ◌*◌, ◌≤◌, ◌<◌, length, get_or, replicate, ℤ, Result, Ok, Err}
use Rattle.std.proofs.lemmas.List.Edits.{sets}
use Rattle.rules.specs.Measures.{Every, total, sum}
use Rattle.rules.specs.Book.{tabulate, within_owed}
use Rattle.rules.specs.Calls.{joined}
use Rattle.markets.specs.Markets.{most_accounts, most_net, digits_at, those, markets}
use Rattle.markets.specs.Counts.{count_places, with_entries, counts_of}
use Rattle.rules.specs.declared.Refusal.{Refusal}
use Rattle.markets.specs.Answers.{most_places, no_counts}
use Rattle.markets.specs.Choices.{chosen, follows, markets_from, meets, leaves}

-- Choices

pub record CanDigit (c : ℕ) (v : List ℕ) : Type 0 where
  pub some : 0 < c
  pub small : c ≤ 9
  pub few : length v ≤ 4

pub record DigitsAre (c t : ℕ) (before after : List ℕ) (r : ℕ) : Type 0 where
  pub digits : after ≡ digits_at c (length before) t
  pub together : r ≡ sum (digits_at c (length before) t)

pub record CanChoose (m n : ℕ) : Type 0 where
  pub few : n ≤ most_accounts
  pub small : m ≤ most_net

-- the places hold the digits of the choice where they are a market's
pub record ChoiceIs (m t : ℕ) (before after : List ℕ) (r : Bool) : Type 0 where
  pub right : r ≡ follows m (length before) t
  pub kept : length after ≡ length before
  pub digits : r ≡ true → after ≡ chosen m (length before) t

-- The list

pub record CanWrite (v : List ℕ) (m : ℕ) (out : List ℤ) (at : ℕ) : Type 0 where
  pub digits : Every (λ d. d ≤ 8) v
  pub small : m ≤ most_net
  pub room : at + length v ≤ length out

-- the markets of one choice: one or none
abbrev pub market_at : ℕ → ℕ → ℕ → List (List ℤ)
market_at m n t = markets_from m n t 1

pub record CanAdd (t m : ℕ) (v : List ℕ) (out : List ℤ) (count : ℕ) : Type 0 where
  pub choice : CanChoose m (length v)
  pub room : (count + length (market_at m (length v) t)) * length v ≤ length out

pub record Added (t m : ℕ) (v w : List ℕ) (before after : List ℤ) (count r : ℕ) : Type 0 where
  pub kept : length w ≡ length v
  pub number : r ≡ length (market_at m (length v) t)
  pub nets : after ≡ sets before (count * length v) (joined (market_at m (length v) t))

pub record CanList (m : ℕ) (v : List ℕ) (out : List ℤ) : Type 0 where
  pub choice : CanChoose m (length v)
  pub room : most_places ≤ length out

pub record AllListed (m n : ℕ) (before after : List ℤ) (r : ℕ) : Type 0 where
  pub number : r ≡ length (markets n m)
  pub nets : after ≡ sets before 0 (joined (markets n m))

-- The counts

pub record LaidIs (before after : List ℕ) (x r : ℕ) : Type 0 where
  pub left : after ≡ leaves x before
  pub number : r ≡ meets x before
  pub few : r ≤ most_accounts

pub record CanOwe (v delivered : List ℕ) : Type 0 where
  pub both : length delivered ≡ length v

pub record CanCount (v delivered lots : List ℕ) : Type 0 where
  pub both : length delivered ≡ length v
  pub places : length lots ≡ length v
  pub few : length v ≤ most_accounts
  pub small : Every (λ d. d ≤ 8) v

-- of a list of markets those in which each account owes at least its lots
abbrev pub owing : List ℕ → List (List ℤ) → List (List ℤ)
owing delivered vs = those (λ v. within_owed v delivered) vs

-- counts raised by a list of markets
unfoldable pub raised : List ℕ → List ℕ → List (List ℤ) → List ℕ
raised counts delivered vs = tabulate (λ k. get_or counts k 0 + total (with_entries delivered k) vs) 0 count_places

pub record CanCountOne (t m : ℕ) (v delivered lots counts : List ℕ) : Type 0 where
  pub choice : CanChoose m (length v)
  pub both : length delivered ≡ length v
  pub places : length lots ≡ length v
  pub five : length counts ≡ count_places
  pub small : (k : ℕ) → get_or counts k 0 ≤ 6561

pub record CountedOne (t m : ℕ) (v w delivered lots left before after : List ℕ) : Type 0 where
  pub kept : length w ≡ length v
  pub placed : length left ≡ length lots
  pub counts : after ≡ raised before delivered (owing delivered (market_at m (length v) t))
  pub few : (k : ℕ) → get_or after k 0 ≤ get_or before k 0 + 1

pub record CanCountAll (m : ℕ) (v delivered lots counts : List ℕ) : Type 0 where
  pub choice : CanChoose m (length v)
  pub both : length delivered ≡ length v
  pub places : length lots ≡ length v
  pub none : counts ≡ replicate count_places 0

abbrev pub CountedAll : ℕ → List ℕ → List ℕ → Type 0
CountedAll m delivered counts = counts ≡ counts_of (length delivered) m delivered

-- What is answered

-- the number of markets, 0 on a refusal
abbrev pub count_in : Result ℕ Refusal → ℕ
count_in (Ok count) = count
count_in (Err r) = 0

-- the five counts, 0 on a refusal
abbrev pub counts_in : Result (List ℕ) Refusal → List ℕ
counts_in (Ok counts) = counts
counts_in (Err r) = no_counts
