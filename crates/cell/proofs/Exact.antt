-- Equal answers of document 01 are equal answers of the code. So the promise of the head leaves one answer.
-- Assumes nothing.
use Rattle.std.specs.Prelude.{Result}
use Rattle.std.proofs.Common.{◌≡◌, ℕ, ℤ, ap}
use Rattle.paper.proofs.Exact.{told_exact}
use Rattle.paper.specs.declared.Refusal.{Refusal}
use Rattle.cell.specs.Paper.{paper_head}
use Rattle.cell.specs.declared.Head.{Head}

-- the head, from the words that it gives
head_of : ℤ × ℕ × ℕ → Head
head_of h = record { rowid = h.0; columns = h.1; bytes = h.2 }

pub exact_head : (a b : Result Head Refusal) → paper_head a ≡ paper_head b → a ≡ b
unfolding head_of
exact_head a b e = told_exact (λ h. (h.rowid, h.columns, h.bytes)) (λ h g p. ap head_of p) a b e
