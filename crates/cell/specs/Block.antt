-- Document 01, "Entries": the null bitmap and the value blocks of a local entry's body. Places count from the start of the body.
use Rattle.std.specs.Prelude.{ℕ, zero, suc, ◌+◌, ◌-◌, ◌*◌, ◌/◌, ◌%◌, ◌^◌, Bool, not, List, [], ◌∷◌, length, ℤ, ◌==◌, from_bits, nat_lt, slice_index, Float}
use Rattle.std.specs.Float.{binary64}
use Rattle.paper.specs.Answer.{Answer, gives, refuses, and_then, pick}
use Rattle.field.specs.Field.{le}
use Rattle.varint.specs.Leb.{read_u64}
use Rattle.varint.specs.Number.{read_i64}
use Rattle.utf8.specs.WellFormed.{check_at}

-- what stands in a column
pub data Block : Type 0 where
  null : Block
  integer : ℤ → Block
  -- the float, and its 64 bits, which a NaN's float does not tell
  real : Float → ℕ → Block
  bool : Bool → Block
  -- the place of its bytes and how many there are
  text : ℕ → ℕ → Block
  -- the place of its bytes and its dimension, four bytes each
  vector : ℕ → ℕ → Block

-- the value block after its tag byte, with the place behind it
unfoldable pub block_of : ℕ → List ℕ → ℕ → Answer (Block × ℕ)
block_of tag body at =
    pick (tag == 0) (and_then (read_i64 body at) (λ (v, n). gives (integer v, at + n)))
    (pick (tag == 1)
    (pick (nat_lt (length body - at) 8) (refuses 7) (gives (real (from_bits binary64 (le 8 at body)) (le 8 at body), at + 8)))
    (pick (tag == 2)
    (and_then (read_u64 body at) (λ (len, n). and_then (check_at body (at + n) len) (λ _. gives (text (at + n) len, at + n + len))))
    (pick (tag == 3)
    (pick (nat_lt at (length body)) (gives (bool (not (slice_index body at == 0)), at + 1)) (refuses 7))
    (pick (tag == 4)
    (and_then (read_u64 body at)
    (λ (dim, n). pick (nat_lt ((length body - (at + n)) / 4) dim) (refuses 7) (gives (vector (at + n) dim, at + n + 4 * dim))))
    (refuses 9)))))

-- the value block at a place: tag missing 7; unknown tag 9; its varint 1 or 2; too short 7; then 8
unfoldable pub block : List ℕ → ℕ → Answer (Block × ℕ)
block body at = pick (nat_lt at (length body)) (block_of (slice_index body at) body (at + 1)) (refuses 7)

-- ---- columns

-- column c is bit c mod 8 of byte c div 8 of the bitmap at place map; 1 is null
unfoldable pub is_null : List ℕ → ℕ → ℕ → Bool
is_null body map c = slice_index body (map + c / 8) / 2 ^ (c % 8) % 2 == 1

unfoldable pub bitmap_bytes : ℕ → ℕ
bitmap_bytes columns = (columns + 7) / 8

-- n columns from column c on, whose value blocks stand from place at on: the blocks, and the place behind them
unfoldable pub columns : ℕ → ℕ → ℕ → List ℕ → ℕ → Answer (List Block × ℕ)
columns zero c map body at = gives ([], at)
columns (suc n) c map body at =
    and_then (pick (is_null body map c) (gives (null, at)) (block body at))
    (λ (b, next). and_then (columns n (c + 1) map body next) (λ (bs, end). gives (b ∷ bs, end)))
