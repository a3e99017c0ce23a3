-- Document 01, "Entries": the interior entry, kind 3: divider rowid, child page (u32 LE).
use Rattle.std.specs.Prelude.{ℕ, List, ℤ}
use Rattle.paper.specs.Answer.{Answer, gives, and_then}
use Rattle.field.specs.Field.{bytes}
use Rattle.cell.specs.Entry.{entry, with_length, fitted}
use Rattle.cell.specs.Keyed.{keyed_at, page_at, keyed_bytes}

-- as local to 3; an empty body or another kind 5; the varint 1, 2; fewer than four bytes left 6; left over 10
unfoldable pub interior_body : List ℕ → Answer (ℤ × ℕ)
interior_body body = and_then (keyed_at 3 body) (λ (divider, at). and_then (page_at body at) (λ child. gives (divider, child)))

-- divider, child; then the bytes taken
unfoldable pub interior_from : List ℕ → Answer ((ℤ × ℕ) × ℕ)
interior_from s = entry interior_body s

-- ---- written
unfoldable pub interior_bytes : ℤ → ℕ → List ℕ
interior_bytes divider child = with_length (keyed_bytes 3 divider (bytes 4 child))

unfoldable pub write_interior : ℤ → ℕ → ℕ → Answer (List ℕ)
write_interior divider child room = fitted room (interior_bytes divider child)
