-- What each answer of the code stands for: document 01's number, or its values.
use Rattle.std.specs.Prelude.{ℕ, ℤ, Result}
use Rattle.paper.specs.Answer.{Answer, told}
use Rattle.paper.specs.declared.Refusal.{Refusal}
use Rattle.overflow.specs.Paged.{Paged, local, overflow}
use Rattle.overflow.specs.declared.OverflowRef.{OverflowRef}
use Rattle.overflow.specs.declared.PagedEntry.{PagedEntry}
use Rattle.overflow.specs.declared.PagedEntry.TheVariants as P

-- rowid, total, first page
abbrev pub reference_values : OverflowRef → ℤ × ℕ × ℕ
reference_values r = (r.rowid, r.total_body_len, r.first_overflow_page)

-- and then the bytes taken
abbrev pub paper_ref : Result (OverflowRef × ℕ) Refusal → Answer ((ℤ × ℕ × ℕ) × ℕ)
paper_ref answer = told (λ (r, n). (reference_values r, n)) answer

abbrev pub paged_values : PagedEntry → Paged
paged_values (P.Local h) = local h.rowid h.columns h.bytes
paged_values (P.Overflow r n) = overflow r.rowid r.total_body_len r.first_overflow_page n

abbrev pub paper_paged : Result PagedEntry Refusal → Answer Paged
paper_paged answer = told paged_values answer
