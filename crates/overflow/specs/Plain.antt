-- Document 01, "Entries": a plain overflow reference, which has its bytes as the writer would write them. The reader takes longer varints too.
use Rattle.std.specs.Prelude.{List, ℕ}
use Rattle.cell.specs.Keyed.{keyed_at}
use Rattle.cell.specs.Plain.{Given, PlainNumber, PlainEntry}

-- the rowid, behind the kind byte, and the total, each where the reader finds it
unfoldable pub PlainReferenceBody : List ℕ → Type 0
PlainReferenceBody body = PlainNumber body 1 × Given (keyed_at 2 body) (λ (rowid, at). PlainNumber body at)

-- the entry at the start of s
unfoldable pub PlainReference : List ℕ → Type 0
PlainReference s = PlainEntry PlainReferenceBody s
