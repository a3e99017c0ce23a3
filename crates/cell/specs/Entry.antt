-- Document 01, "Entries": an entry is its body's length, a varint, and its body; a body starts with a kind byte, then the rowid.
-- What the kinds share. Everything is a function of the bytes from the entry's place on.
use Rattle.std.specs.Prelude.{ℕ, ◌+◌, ◌-◌, ◌^◌, List, ◌++◌, length, take, drop, ℤ, nat_lt, slice_index}
use Rattle.paper.specs.Answer.{Answer, gives, refuses, and_then, pick}
use Rattle.varint.specs.Leb.{read_from, leb_bytes}
use Rattle.varint.specs.Number.{read_i64}

-- where the body starts, and its length: the varint (1, 2); a body that ends beyond the buffer (3)
unfoldable pub framed : List ℕ → Answer (ℕ × ℕ)
framed s = and_then (read_from s) (λ (len, n). pick (nat_lt (length s - n) len) (refuses 3) (gives (n, len)))

-- the body that starts at n and has len bytes
abbrev pub body_at : List ℕ → ℕ → ℕ → List ℕ
body_at s n len = take len (drop n s)

-- a whole entry: what its body says, and the bytes that the entry takes
unfoldable pub entry : {A : Type 0} → (List ℕ → Answer A) → List ℕ → Answer (A × ℕ)
entry read s = and_then (framed s) (λ (n, len). and_then (read (body_at s n len)) (λ a. gives (a, n + len)))

-- ---- written

-- the body behind its length
unfoldable pub with_length : List ℕ → List ℕ
with_length body = leb_bytes (length body) ++ body

-- into an output of room bytes; 16 where they do not fit
unfoldable pub fitted : ℕ → List ℕ → Answer (List ℕ)
fitted room out = pick (nat_lt room (length out)) (refuses 16) (gives out)

-- ---- peeks, which look at no more than they name

-- the kind byte, wherever the body ends: a byte that is not in the buffer is 4
unfoldable pub peek_kind : List ℕ → Answer ℕ
peek_kind s = and_then (read_from s) (λ (len, n). pick (nat_lt n (length s)) (gives (slice_index s n)) (refuses 4))

unfoldable pub rowid_at : List ℕ → ℕ → Answer ℤ
rowid_at s at = and_then (read_i64 s at) (λ (rowid, n). gives rowid)

-- the rowid ignores the body length: the byte before it (4), then the varint (1, 2)
unfoldable pub peek_rowid : List ℕ → Answer ℤ
peek_rowid s =
    and_then (read_from s)
    (λ (len, n). pick (nat_lt n (length s)) (rowid_at s (n + 1)) (refuses 4))

-- varint length plus body length; 3 if that passes 2 ^ 64 - 1
unfoldable pub size_at : List ℕ → Answer ℕ
size_at s = and_then (read_from s) (λ (len, n). pick (nat_lt (2 ^ 64 - 1) (n + len)) (refuses 3) (gives (n + len)))
