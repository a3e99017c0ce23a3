-- Document 01, "Entries": the overflow reference, kind 2: rowid, total length (varint), first page (u32 LE).
use Rattle.std.specs.Prelude.{ℕ, ◌+◌, List, ◌++◌, ℤ}
use Rattle.paper.specs.Answer.{Answer, gives, and_then}
use Rattle.field.specs.Field.{bytes}
use Rattle.varint.specs.Leb.{read_u64, leb_bytes}
use Rattle.cell.specs.Entry.{entry, with_length, fitted}
use Rattle.cell.specs.Keyed.{keyed_at, page_at, keyed_bytes}

-- as local to 3; an empty body or another kind 5; varints 1, 2; fewer than four bytes left 6; left over 10
unfoldable pub reference_body : List ℕ → Answer (ℤ × ℕ × ℕ)
reference_body body =
    and_then (keyed_at 2 body)
    (λ (rowid, at). and_then (read_u64 body at)
    (λ (total, n). and_then (page_at body (at + n)) (λ page. gives (rowid, total, page))))

-- rowid, total, first page; then the bytes taken
unfoldable pub reference_from : List ℕ → Answer ((ℤ × ℕ × ℕ) × ℕ)
reference_from s = entry reference_body s

-- ---- written
unfoldable pub reference_bytes : ℤ → ℕ → ℕ → List ℕ
reference_bytes rowid total page = with_length (keyed_bytes 2 rowid (leb_bytes total ++ bytes 4 page))

unfoldable pub write_reference : ℤ → ℕ → ℕ → ℕ → Answer (List ℕ)
write_reference rowid total page room = fitted room (reference_bytes rowid total page)
