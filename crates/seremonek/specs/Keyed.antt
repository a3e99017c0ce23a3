-- The words of references, paged entries and interior cells, in order. A signed number is its 64-bit pattern.
use Rattle.std.specs.Prelude.{ℕ, List, [], ◌∷◌, ℤ}
use Rattle.std.specs.Int.{w64}
use Rattle.std.proofs.Common.{of_z}
use Rattle.overflow.specs.Paged.{Paged, local, overflow}

-- rowid, total, first page, bytes
abbrev pub reference_words : (ℤ × ℕ × ℕ) × ℕ → List ℕ
reference_words ((rowid, total, page), n) = of_z w64 rowid ∷ total ∷ page ∷ n ∷ []

-- kind, rowid, columns or total, 0 or first page, bytes
abbrev pub paged_words : Paged → List ℕ
paged_words (local rowid columns n) = 1 ∷ of_z w64 rowid ∷ columns ∷ 0 ∷ n ∷ []
paged_words (overflow rowid total page n) = 2 ∷ of_z w64 rowid ∷ total ∷ page ∷ n ∷ []

-- divider, child, bytes
abbrev pub interior_words : (ℤ × ℕ) × ℕ → List ℕ
interior_words ((divider, child), n) = of_z w64 divider ∷ child ∷ n ∷ []
