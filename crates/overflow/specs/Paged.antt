-- Document 01, "Entries": a paged entry is a local entry or an overflow reference, by its kind byte.
use Rattle.std.specs.Prelude.{ℕ, List, eqb, ℤ}
use Rattle.paper.specs.Answer.{Answer, gives, refuses, and_then, pick}
use Rattle.cell.specs.Entry.{peek_kind}
use Rattle.cell.specs.Local.{head_from}
use Rattle.overflow.specs.Reference.{reference_from}

pub data Paged : Type 0 where
  -- rowid, columns, bytes
  local : ℤ → ℕ → ℕ → Paged
  -- rowid, total, first page, bytes
  overflow : ℤ → ℕ → ℕ → ℕ → Paged

unfoldable pub local_paged : List ℕ → Answer Paged
local_paged s = and_then (head_from s) (λ h. gives (local h.0 h.1 h.2))

unfoldable pub reference_paged : List ℕ → Answer Paged
reference_paged s = and_then (reference_from s) (λ (r, size). gives (overflow r.0 r.1 r.2 size))

-- first the kind: its byte not in the buffer 4, neither 1 nor 2 is 5; then the reader of that kind
unfoldable pub paged_from : List ℕ → Answer Paged
paged_from s =
    and_then (peek_kind s)
    (λ kind. pick (eqb kind 1) (local_paged s) (pick (eqb kind 2) (reference_paged s) (refuses 5)))
