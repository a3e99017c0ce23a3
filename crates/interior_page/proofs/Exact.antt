-- No two answers stand for the same: so each promise leaves one answer.
-- Assumes nothing.
use Rattle.std.proofs.Common.{◌≡◌, ℕ, ℤ, ap}
use Rattle.std.specs.Prelude.{Result}
use Rattle.paper.specs.declared.Refusal.{Refusal}
use Rattle.paper.proofs.Exact.{told_exact}
use Rattle.interior_page.specs.Paper.{paper_interior}
use Rattle.interior_page.specs.declared.InteriorCell.{InteriorCell}

-- the cell, from the words that it gives
abbrev cell_of : ℤ × ℕ → InteriorCell
cell_of (divider, child) = record { divider_rowid = divider; child_page = child }

pub exact_interior : (a b : Result (InteriorCell × ℕ) Refusal) → paper_interior a ≡ paper_interior b → a ≡ b
exact_interior = told_exact _ (λ a b e. ap (λ (x : (ℤ × ℕ) × ℕ). (cell_of x.0, x.1)) e)
