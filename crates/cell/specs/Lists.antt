-- What a value list says, in the writer's struct. No public promise names these.
use Rattle.std.specs.Prelude.{ℕ, List}
use Rattle.paper.specs.Answer.{Answer}
use Rattle.cell.specs.Content.{Content}
use Rattle.cell.specs.ValueList.{items}
use Rattle.cell.specs.Written.{blocks_bytes}
use Rattle.cell.specs.Listing.{numbers, used_all, held_all, body_of, Good}
use Rattle.cell.specs.declared.encode.ValueList.{ValueList}

-- document 01's columns
abbrev pub columns_in : ValueList → Answer (List Content)
columns_in list = items list.kinds.now (numbers list.words.now) list.«data».now

-- where they are good: the value blocks, the data bytes that they take, and the body
abbrev pub blocks_in : ValueList → List ℕ
blocks_in list = blocks_bytes (held_all list.kinds.now (numbers list.words.now) list.«data».now)

abbrev pub used_in : ValueList → ℕ
used_in list = used_all list.kinds.now (numbers list.words.now)

abbrev pub body_in : ℕ → ValueList → List ℕ
body_in id list = body_of id list.kinds.now (numbers list.words.now) list.«data».now

abbrev pub GoodList : ℕ → ValueList → ℕ → Type 0
GoodList id list size = Good id list.kinds.now (numbers list.words.now) list.«data».now size
