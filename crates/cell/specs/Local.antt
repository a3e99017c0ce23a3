-- Document 01, "Entries": the local entry, read, and asked by column.
use Rattle.std.specs.Prelude.{ℕ, ◌+◌, ◌-◌, List, length, drop, ℤ, ◌==◌, nat_lt, slice_index, slice_index_or}
use Rattle.paper.specs.Answer.{Answer, gives, refuses, and_then, pick}
use Rattle.varint.specs.Leb.{read_u64}
use Rattle.varint.specs.Number.{read_i64}
use Rattle.cell.specs.Entry.{framed, body_at, entry}
use Rattle.cell.specs.Block.{Block, null, integer, real, bool, text, vector, columns, bitmap_bytes}

-- the bitmap at place at, which must end inside the body (6); the columns in order; bytes left over (10)
unfoldable pub blocks_at : ℕ → List ℕ → ℕ → Answer (List Block)
blocks_at count body at =
    pick (nat_lt (length body - at) (bitmap_bytes count)) (refuses 6)
    (and_then (columns count 0 at body (at + bitmap_bytes count))
    (λ (bs, end). pick (end == length body) (gives bs) (refuses 10)))

-- rowid and count, read inside the body (1, 2); then the columns
unfoldable pub row_of : List ℕ → Answer (ℤ × List Block)
row_of body =
    and_then (read_i64 body 1)
    (λ (rowid, n). and_then (read_u64 body (1 + n))
    (λ (count, m). and_then (blocks_at count body (1 + n + m)) (λ bs. gives (rowid, bs))))

-- an empty body (4); the kind (5)
unfoldable pub local_body : List ℕ → Answer (ℤ × List Block)
local_body body = pick (length body == 0) (refuses 4) (pick (slice_index body 0 == 1) (row_of body) (refuses 5))

unfoldable pub cell_from : List ℕ → Answer ((ℤ × List Block) × ℕ)
cell_from s = entry local_body s

-- the head: rowid, columns, bytes taken
unfoldable pub head_from : List ℕ → Answer (ℤ × ℕ × ℕ)
head_from s = and_then (cell_from s) (λ (row, size). gives (row.0, length row.1, size))

-- ---- a value by its column

-- a place in the body as a place in the caller's buffer, in which the body starts at k
unfoldable pub moved : ℕ → Block → Block
moved k null = null
moved k (integer v) = integer v
moved k (real f bits) = real f bits
moved k (bool b) = bool b
moved k (text at len) = text (k + at) len
moved k (vector at dim) = vector (k + at) dim

unfoldable pub nth : List Block → ℕ → Block
nth bs c = slice_index_or bs c null

-- the entry's refusals, then 12; the entry stands at the start of s, which is place pos of the caller's buffer
unfoldable pub value_from : List ℕ → ℕ → ℕ → Answer Block
value_from s pos column =
    and_then (framed s)
    (λ (n, len). and_then (local_body (body_at s n len))
    (λ (rowid, bs). pick (nat_lt column (length bs)) (gives (moved (pos + n) (nth bs column))) (refuses 12)))

unfoldable pub value_at : List ℕ → ℕ → ℕ → Answer Block
value_at buf pos column = value_from (drop pos buf) pos column
