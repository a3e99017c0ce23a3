-- Unsigned numbers as bytes: document 01, "Number encodings", LEB128 as read and as written here.
-- A byte is a number below 256. Its low seven bits are b % 128; its high bit is set where 128 ≤ b.
use Rattle.std.specs.Prelude.{ℕ, zero, suc, ◌+◌, ◌*◌, ◌/◌, ◌%◌, ◌^◌, List, [], ◌∷◌, length, drop, nat_lt}
use Rattle.paper.specs.Answer.{Answer, gives, refuses, and_then, pick}

-- ---- reading

-- The bytes of one number at the start of s, at most n of them: up to the first with its high bit clear.
-- The buffer ending sooner is 1; one byte more than n wanted is 2.
unfoldable pub taken : ℕ → List ℕ → Answer (List ℕ)
taken zero s = refuses 2
taken (suc n) [] = refuses 1
taken (suc n) (b ∷ s) = pick (nat_lt b 128) (gives (b ∷ [])) (and_then (taken n s) (λ bs. gives (b ∷ bs)))

-- the low seven bits of each byte, that of byte i at weight 2 ^ (7 * i), the first byte being byte i
unfoldable pub sum_from : ℕ → List ℕ → ℕ
sum_from i [] = 0
sum_from i (b ∷ bs) = b % 128 * 2 ^ (7 * i) + sum_from (i + 1) bs

-- At most ten bytes, added modulo 2 ^ 64: the number and how many bytes it took.
unfoldable pub read_from : List ℕ → Answer (ℕ × ℕ)
read_from s = and_then (taken 10 s) (λ bs. gives (sum_from 0 bs % 2 ^ 64, length bs))

unfoldable pub read_u64 : List ℕ → ℕ → Answer (ℕ × ℕ)
read_u64 s pos = read_from (drop pos s)

-- the place behind the number at pos
unfoldable pub end_u64 : List ℕ → ℕ → Answer ℕ
end_u64 s pos = and_then (read_u64 s pos) (λ (v, n). gives (pos + n))

-- ---- writing

-- v in the fewest groups of seven bits, lowest first, at most n of them; all but the last with the high bit set
unfoldable pub groups : ℕ → ℕ → List ℕ
groups zero v = []
groups (suc n) v = pick (nat_lt v 128) (v ∷ []) ((128 + v % 128) ∷ groups n (v / 128))

unfoldable pub leb_bytes : ℕ → List ℕ
leb_bytes v = groups 10 v

abbrev pub len_u64 : ℕ → ℕ
len_u64 v = length (leb_bytes v)

-- The bytes to write into an output of room bytes; 16 where they do not fit.
unfoldable pub write_u64 : ℕ → ℕ → Answer (List ℕ)
write_u64 v room = pick (nat_lt room (len_u64 v)) (refuses 16) (gives (leb_bytes v))
