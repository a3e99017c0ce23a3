-- Signed numbers as bytes: ZigZag, then LEB128.
use Rattle.std.specs.Prelude.{ℕ, List, ℤ}
use Rattle.paper.specs.Answer.{Answer, gives, and_then}
use Rattle.varint.specs.Leb.{read_u64, write_u64, len_u64}
use Rattle.varint.specs.Zigzag.{zigzag, unzigzag}

-- what is read at pos, with the number made into what it stands for
unfoldable pub read_as : {A : Type 0} → (ℕ → A) → List ℕ → ℕ → Answer (A × ℕ)
read_as decoded s pos = and_then (read_u64 s pos) (λ (v, n). gives (decoded v, n))

unfoldable pub read_i64 : List ℕ → ℕ → Answer (ℤ × ℕ)
read_i64 s pos = and_then (read_u64 s pos) (λ (u, n). gives (unzigzag u, n))

unfoldable pub write_i64 : ℤ → ℕ → Answer (List ℕ)
write_i64 v room = write_u64 (zigzag v) room

unfoldable pub len_i64 : ℤ → ℕ
len_i64 v = len_u64 (zigzag v)
