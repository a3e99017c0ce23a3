-- What the steps of reading a word of eight bytes say to each other. No public promise names these.
use Rattle.std.specs.Prelude.{◌≡◌, ℕ, zero, suc, ◌+◌, ◌*◌, ◌%◌, ◌≤◌, List, slice_index, Option, Some, None}
use Rattle.paper.specs.Answer.{gives}
use Rattle.varint.specs.Leb.{read_from}

-- the low seven bits of n bytes from place i on, the lowest first, each group at the weight w of the one before it
abbrev pub groups_at : ℕ → ℕ → ℕ → List ℕ → ℕ
groups_at w zero i s = 0
groups_at w (suc n) i s = slice_index s i % 128 + w * groups_at w n (suc i) s

-- eight groups, one in each byte; and with no gap between them
pub record ClosesUp (x r : ℕ) : Type 0 where
  pub same : (s : List ℕ) → x ≡ groups_at 256 8 0 s → r ≡ groups_at 128 8 0 s

-- the number at the start of the list, which ends within eight bytes; where there is none, nothing is said
abbrev pub InWord : List ℕ → Option (ℕ × ℕ) → Type 0
InWord s (Some (v, n)) = (n ≤ 8) × (gives (v, n) ≡ read_from s)
InWord s None = Unit {0}
