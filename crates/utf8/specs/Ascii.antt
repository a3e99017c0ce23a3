-- ASCII at the start of a text.
use Rattle.std.specs.Prelude.{ℕ, ◌≤◌, ◌<◌, ◌≡◌, List, ◌++◌, length, get_or, IsAscii}

-- all between two places of a text
pub record Plain (s : List ℕ) (from to : ℕ) : Type 0 where
  pub ahead : from ≤ to
  pub inside : to ≤ length s
  pub ascii : (i : ℕ) → from ≤ i → i < to → get_or s i 0 < 0x80

-- s is ASCII, and then the rest
pub record Past (s rest : List ℕ) : Type 0 where
  pub passed : List ℕ
  pub ascii : IsAscii passed
  pub split : passed ++ rest ≡ s
