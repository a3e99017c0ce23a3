-- A row of values: what both reading and writing mean.
use Rattle.std.specs.Prelude.{ℕ, ◌*◌, Bool, List, take, drop, ℤ}
use Rattle.cell.specs.Block.{Block, null, integer, real, bool, text, vector}

pub data Content : Type 0 where
  none : Content
  whole : ℤ → Content
  -- its 64 bits
  float : ℕ → Content
  truth : Bool → Content
  -- its bytes
  letters : List ℕ → Content
  -- four bytes to each dimension
  floats : List ℕ → Content

-- what a block of a body holds
unfoldable pub content_of : List ℕ → Block → Content
content_of body null = none
content_of body (integer v) = whole v
content_of body (real f bits) = float bits
content_of body (bool b) = truth b
content_of body (text at len) = letters (take len (drop at body))
content_of body (vector at dim) = floats (take (4 * dim) (drop at body))

-- a row: its rowid, and what stands in each column
abbrev pub Row : Type 0
Row = ℤ × List Content
