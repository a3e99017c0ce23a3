-- What the reader's steps say to each other. No public promise names these.
use Rattle.std.specs.Prelude.{ℕ, ◌+◌, ◌-◌, ◌*◌, ◌/◌, List, length, take, drop, nat_lt}
use Rattle.paper.specs.Answer.{Answer, gives, refuses, and_then, pick}
use Rattle.utf8.specs.WellFormed.{check_text}
use Rattle.varint.specs.Leb.{read_u64}
use Rattle.cell.specs.Block.{null, block, columns, is_null}

-- the place behind a block, behind columns
unfoldable pub block_end : List ℕ → ℕ → Answer ℕ
block_end body at = and_then (block body at) (λ (b, end). gives end)

unfoldable pub columns_end : ℕ → ℕ → ℕ → List ℕ → ℕ → Answer ℕ
columns_end n c map body at = and_then (columns n c map body at) (λ (bs, end). gives end)

-- the place behind what follows a tag
abbrev pub fixed_end : List ℕ → ℕ → ℕ → Answer ℕ
fixed_end body at size = pick (nat_lt (length body - at) size) (refuses 7) (gives (at + size))

-- a count and what it counts, unit bytes each: where that starts, and the count
abbrev pub counted : ℕ → List ℕ → ℕ → Answer (ℕ × ℕ)
counted unit body at =
    and_then (read_u64 body at)
    (λ (count, n). pick (nat_lt ((length body - (at + n)) / unit) count) (refuses 7) (gives (at + n, count)))

abbrev pub text_end : List ℕ → ℕ → Answer ℕ
text_end body at =
    and_then (counted 1 body at)
    (λ (start, len). and_then (check_text (take len (drop start body))) (λ _. gives (start + len)))

abbrev pub vector_end : List ℕ → ℕ → Answer ℕ
vector_end body at = and_then (counted 4 body at) (λ (start, dim). gives (start + 4 * dim))

-- the place behind a column: a null takes no bytes
unfoldable pub column_end : List ℕ → ℕ → ℕ → ℕ → Answer ℕ
column_end body map c at = and_then (pick (is_null body map c) (gives (null, at)) (block body at)) (λ (b, end). gives end)

-- the place of the kind byte, behind the length varint
abbrev pub kind_place : List ℕ → ℕ → Answer ℕ
kind_place buf pos = and_then (read_u64 buf pos) (λ (len, n). pick (nat_lt (pos + n) (length buf)) (gives (pos + n)) (refuses 4))
