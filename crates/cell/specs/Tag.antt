-- Document 01, "Entries": the byte of each tag; any other is unknown, 9.
use Rattle.std.specs.Prelude.{◌≡◌, ℕ, ◌<◌, Result, Ok, Err}
use Rattle.paper.specs.declared.Refusal.{Refusal}
use Rattle.paper.specs.declared.Refusal.TheVariants.{UnknownTag}
use Rattle.cell.specs.declared.tag.Tag.{Tag}
use Rattle.cell.specs.declared.tag.Tag.TheVariants.{Integer, Real, Text, Bool, Vector}

abbrev pub tag_byte : Tag → ℕ
tag_byte Integer = 0
tag_byte Real = 1
tag_byte Text = 2
tag_byte Bool = 3
tag_byte Vector = 4

-- the tag of a byte, or that it has none
abbrev pub Tagged : ℕ → Result Tag Refusal → Type 0
Tagged byte (Ok tag) = byte ≡ tag_byte tag
Tagged byte (Err refusal) = (refusal ≡ UnknownTag) × (4 < byte)
