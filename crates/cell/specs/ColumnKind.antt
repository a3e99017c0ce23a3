-- Document 01, "Entries": the kinds of a value list are the five tags, 5 for a null inside a value, and 255 for a null.
use Rattle.std.specs.Prelude.{◌≡◌, ◌≢◌, ℕ, ◌<◌, Result, Ok, Err}
use Rattle.paper.specs.declared.Refusal.{Refusal}
use Rattle.paper.specs.declared.Refusal.TheVariants.{BadValueList}
use Rattle.cell.specs.Tag.{tag_byte}
use Rattle.cell.specs.declared.encode.ColumnKind.{ColumnKind}
use Rattle.cell.specs.declared.encode.ColumnKind.TheVariants.{Value, InnerNull, Null}

abbrev pub kind_byte : ColumnKind → ℕ
kind_byte (Value tag) = tag_byte tag
kind_byte InnerNull = 5
kind_byte Null = 255

-- the kind of a byte, or that it has none
abbrev pub Kinds : ℕ → Result ColumnKind Refusal → Type 0
Kinds byte (Ok kind) = byte ≡ kind_byte kind
Kinds byte (Err refusal) = (refusal ≡ BadValueList) × (4 < byte) × (byte ≢ 5) × (byte ≢ 255)
