-- An issue's nets beside its delivered lots.
use Rattle.std.specs.Prelude.{◌≡◌, List, ℕ, ◌≤◌, length, get_or, ℤ, pos}
use Rattle.rules.specs.Measures.{owed_of}

-- three rows of one length; nobody delivered more than it owes
pub record Owing (net : List ℤ) (delivered short : List ℕ) : Type 0 where
  pub both : length delivered ≡ length net
  pub room : length short ≡ length net
  pub most : (a : ℕ) → get_or delivered a 0 ≤ owed_of (get_or net a (pos 0))
