-- What the steps of the value by column say to each other. No public promise names these.
use Rattle.std.specs.Prelude.{◌≡◌, ℕ, ◌+◌, ◌<◌, List, [], length}
use Rattle.paper.specs.Answer.{Answer, gives, refuses}
use Rattle.cell.specs.Block.{Block, null, block, columns, bitmap_bytes}
use Rattle.cell.specs.Local.{nth}
use Rattle.cell.specs.LocalRead.{AllRead}
use Rattle.cell.specs.declared.inner.columns.Columns.{Columns}

-- what was read, without the place behind it; or something else where it was refused
unfoldable pub read_or : {A : Type 0} → A → Answer (A × ℕ) → A
read_or other (gives (a, end)) = a
read_or other (refuses k) = other

-- the value block at a place
unfoldable pub block_at : List ℕ → ℕ → Block
block_at body at = read_or null (block body at)

-- one of the columns
unfoldable pub column_at : Columns → ℕ → Block
column_at c column = nth (read_or [] (columns c.count 0 c.map c.body.now (c.map + bitmap_bytes c.count))) column

-- a value block stands at the place
pub record HasBlock (body : List ℕ) (at : ℕ) : Type 0 where
  pub here : at < length body
  pub value : Block
  pub end : ℕ
  pub read : gives (value, end) ≡ block body at

-- columns that were all read have this one
pub record HasColumn (c : Columns) (column : ℕ) : Type 0 where
  pub all : AllRead c
  pub one : column < c.count
