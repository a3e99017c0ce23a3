-- Document 01, "Entries": a plain entry, which has its bytes as the writer would write them. The reader takes more than that: a varint
-- that is longer than it need be, or whose tenth byte has a bit that 64 bits have no room for; a Bool byte above 1; a spare bit that is set.
use Rattle.std.specs.Prelude.{◌≡◌, ℕ, zero, suc, ◌+◌, ◌*◌, ◌<◌, ◌≤◌, false, List, slice_index, slice_index_or}
use Rattle.paper.specs.Answer.{Answer, gives, pick}
use Rattle.varint.specs.Leb.{len_u64, read_u64}
use Rattle.cell.specs.Entry.{body_at}
use Rattle.cell.specs.Block.{null, block, is_null, bitmap_bytes}

-- this holds of whatever the answer gives
abbrev pub Given : {A : Type 0} → Answer A → (A → Type 0) → Type 0
Given {A} q P = (a : A) → q ≡ gives a → P a

-- the varint of v at a place, which takes n bytes: no byte too many, and in a tenth byte no bit but that of 2 ^ 63
pub record Shortest (s : List ℕ) (at v n : ℕ) : Type 0 where
  pub taken : n ≡ len_u64 v
  pub tenth : n ≡ 10 → slice_index s (at + 9) ≤ 1

abbrev pub PlainNumber : List ℕ → ℕ → Type 0
PlainNumber s at = Given (read_u64 s at) (λ (v, n). Shortest s at v n)

-- the value block at a place, by its tag. A real is plain always
pub record PlainBlock (body : List ℕ) (at : ℕ) : Type 0 where
  pub integer : slice_index_or body at 0 ≡ 0 → PlainNumber body (at + 1)
  pub text : slice_index_or body at 0 ≡ 2 → PlainNumber body (at + 1)
  pub bool : slice_index_or body at 0 ≡ 3 → slice_index body (at + 1) ≤ 1
  pub vector : slice_index_or body at 0 ≡ 4 → PlainNumber body (at + 1)

-- n columns from column c on, whose value blocks stand from place at on
unfoldable pub PlainColumns : ℕ → ℕ → ℕ → List ℕ → ℕ → Type 0
PlainColumns zero c map body at = Unit {0}
PlainColumns (suc n) c map body at =
    (is_null body map c ≡ false → PlainBlock body at)
    × Given (pick (is_null body map c) (gives (null, at)) (block body at)) (λ (b, next). PlainColumns n (c + 1) map body next)

-- the bits of the bitmap that are no column's are 0
unfoldable pub SpareClear : ℕ → List ℕ → ℕ → Type 0
SpareClear columns body map = (c : ℕ) → columns ≤ c → c < 8 * bitmap_bytes columns → is_null body map c ≡ false

-- rowid, count, bitmap and columns, each where the reader finds it
unfoldable pub PlainBody : List ℕ → Type 0
PlainBody body =
    PlainNumber body 1
    × Given (read_u64 body 1) (λ (rowid, n). PlainNumber body (1 + n)
    × Given (read_u64 body (1 + n)) (λ (count, m). SpareClear count body (1 + n + m)
    × PlainColumns count 0 (1 + n + m) body (1 + n + m + bitmap_bytes count)))

-- the entry at the start of s, of any kind: its length, and its body
abbrev pub PlainEntry : (List ℕ → Type 0) → List ℕ → Type 0
PlainEntry Plainly s = PlainNumber s 0 × Given (read_u64 s 0) (λ (len, n). Plainly (body_at s n len))

-- the local entry
unfoldable pub Plain : List ℕ → Type 0
Plain s = PlainEntry PlainBody s
