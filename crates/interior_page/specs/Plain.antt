-- Document 01, "Entries": a plain interior entry, which has its bytes as the writer would write them. The reader takes longer varints too.
use Rattle.std.specs.Prelude.{List, ℕ}
use Rattle.cell.specs.Plain.{PlainNumber, PlainEntry}

-- the divider, behind the kind byte
unfoldable pub PlainInteriorBody : List ℕ → Type 0
PlainInteriorBody body = PlainNumber body 1

-- the entry at the start of s
unfoldable pub PlainInterior : List ℕ → Type 0
PlainInterior s = PlainEntry PlainInteriorBody s
