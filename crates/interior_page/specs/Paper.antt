-- What each answer of the code stands for: document 01's number, or its values.
use Rattle.std.specs.Prelude.{ℕ, ℤ, Result}
use Rattle.paper.specs.Answer.{Answer, told}
use Rattle.paper.specs.declared.Refusal.{Refusal}
use Rattle.interior_page.specs.declared.InteriorCell.{InteriorCell}

-- divider, child
abbrev pub interior_values : InteriorCell → ℤ × ℕ
interior_values c = (c.divider_rowid, c.child_page)

-- and then the bytes taken
abbrev pub paper_interior : Result (InteriorCell × ℕ) Refusal → Answer ((ℤ × ℕ) × ℕ)
paper_interior answer = told (λ (c, n). (interior_values c, n)) answer
