-- What the steps of a scan say to each other. No public promise names these.
use Rattle.std.specs.Prelude.{◌≡◌, ℕ, ◌+◌, ◌-◌, ◌%◌, ◌^◌, List, length, drop}
use Rattle.paper.specs.Answer.{Answer, gives, refuses}
use Rattle.varint.specs.Leb.{taken, sum_from, read_from}

-- the answer from byte i on, with the bytes before it added up to v
unfoldable pub resume : ℕ → ℕ → Answer (List ℕ) → Answer (ℕ × ℕ)
resume v i (gives bs) = gives ((v + sum_from i bs) % 2 ^ 64, i + length bs)
resume v i (refuses k) = refuses k

-- under way: what is left, resumed from byte i, is the answer
pub record Going (s : List ℕ) (v i : ℕ) : Type 0 where
  pub same : resume v i (taken (10 - i) (drop i s)) ≡ read_from s
