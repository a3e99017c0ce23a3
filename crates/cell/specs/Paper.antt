-- What the head of an entry stands for: its rowid, how many columns it has, the bytes that it takes.
use Rattle.std.specs.Prelude.{ℕ, ℤ, Result}
use Rattle.paper.specs.Answer.{Answer, told}
use Rattle.paper.specs.declared.Refusal.{Refusal}
use Rattle.cell.specs.declared.Head.{Head}

abbrev pub paper_head : Result Head Refusal → Answer (ℤ × ℕ × ℕ)
paper_head r = told (λ h. (h.rowid, h.columns, h.bytes)) r
