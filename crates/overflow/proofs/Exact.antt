-- No two answers stand for the same: so each promise leaves one answer.
-- Assumes nothing.
use Rattle.std.proofs.Common.{◌≡◌, ℕ, ℤ, refl, sym, ◌∙◌, ap}
use Rattle.std.specs.Prelude.{Result}
use Rattle.paper.specs.declared.Refusal.{Refusal}
use Rattle.paper.proofs.Exact.{told_exact}
use Rattle.overflow.specs.Paged.{Paged, local, overflow}
use Rattle.overflow.specs.Paper.{paper_ref, paper_paged, paged_values}
use Rattle.overflow.specs.declared.OverflowRef.{OverflowRef}
use Rattle.overflow.specs.declared.PagedEntry.{PagedEntry}
use Rattle.overflow.specs.declared.PagedEntry.TheVariants as P

-- the reference, from the words that it gives
abbrev ref_of : ℤ × ℕ × ℕ → OverflowRef
ref_of (rowid, total, page) = record { rowid = rowid; total_body_len = total; first_overflow_page = page }

pub exact_ref : (a b : Result (OverflowRef × ℕ) Refusal) → paper_ref a ≡ paper_ref b → a ≡ b
exact_ref = told_exact _ (λ a b e. ap (λ (x : (ℤ × ℕ × ℕ) × ℕ). (ref_of x.0, x.1)) e)

-- the entry, from what it gives
abbrev entry_of : Paged → PagedEntry
entry_of (local rowid columns size) = P.Local (record { rowid = rowid; columns = columns; bytes = size })
entry_of (overflow rowid total page size) = P.Overflow (ref_of (rowid, total, page)) size

back : (a : PagedEntry) → entry_of (paged_values a) ≡ a
back (P.Local h) = refl
back (P.Overflow r n) = refl

pub exact_paged : (a b : Result PagedEntry Refusal) → paper_paged a ≡ paper_paged b → a ≡ b
exact_paged = told_exact paged_values (λ a b e. sym (back a) ∙ ap entry_of e ∙ back b)
