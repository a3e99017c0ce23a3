-- Document 01, "Entries": what overflow references and interior entries share. After their kind byte stands the rowid, and
-- they end in a page number of four bytes.
use Rattle.std.specs.Prelude.{ℕ, ◌+◌, ◌-◌, List, ◌∷◌, ◌++◌, length, take, drop, ℤ, ◌==◌, nat_lt, slice_index}
use Rattle.paper.specs.Answer.{Answer, gives, refuses, and_then, pick, over}
use Rattle.field.specs.Field.{le}
use Rattle.varint.specs.Leb.{leb_bytes}
use Rattle.varint.specs.Number.{read_i64}
use Rattle.varint.specs.Zigzag.{zigzag}

-- an empty body or another kind is 5; the rowid's varint (1, 2); then the place behind it
unfoldable pub keyed_at : ℕ → List ℕ → Answer (ℤ × ℕ)
keyed_at kind body =
    pick (length body == 0) (refuses 5)
    (pick (slice_index body 0 == kind) (and_then (read_i64 body 1) (λ (rowid, n). gives (rowid, 1 + n))) (refuses 5))

-- the page number that ends a body: fewer than four bytes left 6; left over 10
unfoldable pub page_at : List ℕ → ℕ → Answer ℕ
page_at body at =
    pick (nat_lt (length body - at) 4) (refuses 6) (pick (length body - at == 4) (gives (le 4 at body)) (refuses 10))

-- ---- written
unfoldable pub keyed_bytes : ℕ → ℤ → List ℕ → List ℕ
keyed_bytes kind rowid rest = kind ∷ (leb_bytes (zigzag rowid) ++ rest)

-- ---- what the code's steps say to each other

-- an entry's first bytes: the length of a short body, its kind, and its rowid as ZigZag has it
unfoldable pub key_of : ℕ → ℕ → ℕ → List ℕ
key_of size kind rowid = size ∷ kind ∷ leb_bytes rowid

-- bytes over the output from a place on
abbrev pub over_at : List ℕ → ℕ → List ℕ → List ℕ
over_at out at new = take at out ++ over (drop at out) new
