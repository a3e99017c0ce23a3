-- Unsigned LEB128 as the DWARF standard describes it (version 5, section 7.6): an integer is cut into groups of seven bits, the
-- lowest first; each group is the low seven bits of a byte, and the high bit is set on every byte but the last. No bound is set.
use Rattle.std.specs.Prelude.{ℕ, ◌+◌, ◌*◌, ◌<◌, List, [], ◌∷◌}

-- the bytes are a sequence whose groups add up to the number
pub data Leb128 : List ℕ → ℕ → Type 0 where
  last : {group : ℕ} → group < 128 → Leb128 (group ∷ []) group
  more : {group rest : ℕ} {bytes : List ℕ} → group < 128 → Leb128 bytes rest → Leb128 ((128 + group) ∷ bytes) (group + 128 * rest)

-- a list of bytes
abbrev pub Bytes : List ℕ → Type 0
Bytes [] = Unit {0}
Bytes (b ∷ bs) = (b < 256) × Bytes bs
