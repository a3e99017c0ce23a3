-- Document 01, "Entries": the byte that opens a body, for each kind of entry.
use Rattle.std.specs.Prelude.{◌≡◌, ◌≢◌, ℕ, Result, Ok, Err}
use Rattle.paper.specs.declared.Refusal.{Refusal}
use Rattle.paper.specs.declared.Refusal.TheVariants as R
use Rattle.cell.specs.declared.Kind.{Kind}
use Rattle.cell.specs.declared.Kind.TheVariants as K

abbrev pub kind_byte : Kind → ℕ
kind_byte K.Local = 1
kind_byte K.Overflow = 2
kind_byte K.Interior = 3

-- the kind that a byte names, or 5
abbrev pub Names : ℕ → Result Kind Refusal → Type 0
Names byte (Ok kind) = byte ≡ kind_byte kind
Names byte (Err refusal) = (refusal ≡ R.WrongKind) × (byte ≢ 1) × (byte ≢ 2) × (byte ≢ 3)
