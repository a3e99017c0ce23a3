-- What the reader of a local body answers. No public promise names these.
use Rattle.std.specs.Prelude.{◌≡◌, ℕ, ◌+◌, List, length, Result, Ok, Err}
use Rattle.paper.specs.Answer.{gives, refuses}
use Rattle.paper.specs.Refusal.{number}
use Rattle.paper.specs.declared.Refusal.{Refusal}
use Rattle.cell.specs.Block.{Block, columns, bitmap_bytes}
use Rattle.cell.specs.Local.{blocks_at, local_body}
use Rattle.cell.specs.declared.inner.columns.Columns.{Columns}
use Rattle.cell.specs.declared.inner.Local.{Local}

-- all of them were read, to the end of the body
pub record AllRead (c : Columns) : Type 0 where
  pub blocks : List Block
  pub read : gives (blocks, length c.body.now) ≡ columns c.count 0 c.map c.body.now (c.map + bitmap_bytes c.count)

-- those of this body, count of them, whose bitmap stands at map
pub record Reads (count map : ℕ) (body : List ℕ) (c : Columns) : Type 0 where
  pub here : c.body.now ≡ body
  pub all : AllRead c
  pub same : gives all.blocks ≡ blocks_at count body map

abbrev pub ReadsOr : ℕ → ℕ → List ℕ → Result Columns Refusal → Type 0
ReadsOr count map body (Ok c) = Reads count map body c
ReadsOr count map body (Err refusal) = refuses (number refusal) ≡ blocks_at count body map

-- a local body that reads to its end
pub record ReadsToEnd (body : List ℕ) (l : Local) : Type 0 where
  pub here : l.columns.body.now ≡ body
  pub all : AllRead l.columns
  pub same : gives (l.rowid, all.blocks) ≡ local_body body

abbrev pub Locally : List ℕ → Result Local Refusal → Type 0
Locally body (Ok l) = ReadsToEnd body l
Locally body (Err refusal) = refuses (number refusal) ≡ local_body body
