-- Document 01, "Entries": the bytes of a local entry.
use Rattle.std.specs.Prelude.{ℕ, zero, suc, ◌+◌, ◌*◌, ◌/◌, List, [], ◌∷◌, ◌++◌, length, take, drop, ℤ}
use Rattle.paper.specs.Answer.{Answer, gives, and_then, pick}
use Rattle.field.specs.Field.{bytes}
use Rattle.varint.specs.Leb.{leb_bytes}
use Rattle.varint.specs.Zigzag.{zigzag}
use Rattle.cell.specs.Entry.{with_length, fitted}
use Rattle.cell.specs.Block.{bitmap_bytes}
use Rattle.cell.specs.Content.{Content, none, whole, float, truth, letters, floats, Row}
use Rattle.cell.specs.ValueList.{value_list}

-- ---- value blocks: a tag, and what it stands before. A null has none
unfoldable pub block_bytes : Content → List ℕ
block_bytes none = []
block_bytes (whole v) = 0 ∷ leb_bytes (zigzag v)
block_bytes (float bits) = 1 ∷ bytes 8 bits
block_bytes (letters t) = 2 ∷ (leb_bytes (length t) ++ t)
block_bytes (truth b) = 3 ∷ pick b 1 0 ∷ []
block_bytes (floats v) = 4 ∷ (leb_bytes (length v / 4) ++ v)

unfoldable pub blocks_bytes : List Content → List ℕ
blocks_bytes [] = []
blocks_bytes (c ∷ cs) = block_bytes c ++ blocks_bytes cs

-- ---- the bitmap: 1 for a null, the first column lowest; spare bits are 0
unfoldable pub null_bit : Content → ℕ
null_bit none = 1
null_bit (whole v) = 0
null_bit (float bits) = 0
null_bit (letters t) = 0
null_bit (truth b) = 0
null_bit (floats v) = 0

unfoldable pub null_bits : List Content → ℕ
null_bits [] = 0
null_bits (c ∷ cs) = null_bit c + 2 * null_bits cs

-- n bytes of it, eight columns each
unfoldable pub bitmap : ℕ → List Content → List ℕ
bitmap zero cs = []
bitmap (suc n) cs = null_bits (take 8 cs) ∷ bitmap n (drop 8 cs)

-- ---- the entry
unfoldable pub body_bytes : Row → List ℕ
body_bytes (rowid, cs) =
    1 ∷ (leb_bytes (zigzag rowid) ++ (leb_bytes (length cs) ++ (bitmap (bitmap_bytes (length cs)) cs ++ blocks_bytes cs)))

unfoldable pub entry_bytes : Row → List ℕ
entry_bytes row = with_length (body_bytes row)

-- the value list's refusals; then the bytes, or 16 where the output is too short
unfoldable pub encoded : ℤ → List ℕ → List ℕ → List ℕ → Answer (List ℕ)
encoded rowid kinds words rest = and_then (value_list kinds words rest) (λ cs. gives (entry_bytes (rowid, cs)))

unfoldable pub write_cell : ℤ → List ℕ → List ℕ → List ℕ → ℕ → Answer (List ℕ)
write_cell rowid kinds words rest room = and_then (encoded rowid kinds words rest) (fitted room)
