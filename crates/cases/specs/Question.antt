-- A question is a call with its arguments. Its answer is what the definitions say, in numbers: the values that the call gives, in the
-- order of document 01, or the refusal's number. Each kind of call has a constructor here and a line in `says`.
use Rattle.std.specs.Prelude.{ℕ, List, [], ◌∷◌, ◌++◌, ℤ}
use Rattle.paper.specs.Answer.{Answer, gives, and_then}
use Rattle.field.specs.Field.{bytes}
use Rattle.varint.specs.Leb.{read_u64, write_u64}
use Rattle.varint.specs.Zigzag.{zigzag, unzigzag}
use Rattle.cell.specs.Local.{head_from, value_at}
use Rattle.cell.specs.Written.{write_cell}
use Rattle.overflow.specs.Reference.{reference_from, write_reference}
use Rattle.interior_page.specs.InteriorCells.{interior_from, write_interior}
use Rattle.seremonek.specs.Interface.{two, signed_one, signed_three, value_three}
use Rattle.seremonek.specs.Keyed.{reference_words, interior_words}

pub data Question : Type 0 where
  -- the number at the start of these bytes, and how many it takes
  ask_read_u64 : List ℕ → Question
  -- the bytes of this number, in an output of ten
  ask_write_u64 : ℕ → Question
  -- a signed number as an unsigned one; and back, as its 64-bit pattern
  zigzag_encode : ℤ → Question
  zigzag_decode : ℕ → Question
  -- the head of the local entry at the start of these bytes: the rowid's 64-bit pattern, columns, bytes
  cell_head : List ℕ → Question
  -- its value in a column: kind, word, place
  cell_value : List ℕ → ℕ → Question
  -- the bytes of the local entry of a value list, in an output of 32: rowid, kinds, words, data
  ask_write_cell : ℤ → List ℕ → List ℕ → List ℕ → Question
  -- the overflow reference at the start of these bytes: the rowid's pattern, total, first page, bytes; and written, in an output of 32
  reference : List ℕ → Question
  ask_write_reference : ℤ → ℕ → ℕ → Question
  -- the interior cell at the start of these bytes: the divider's pattern, child, bytes; and written, in an output of 32
  divider : List ℕ → Question
  write_divider : ℤ → ℕ → Question

-- words as they are lent: eight bytes each, the lowest first
unfoldable pub eights : List ℕ → List ℕ
eights [] = []
eights (w ∷ ws) = bytes 8 w ++ eights ws

-- in the words of the C interface
abbrev in_words : {A : Type 0} → (A → List ℕ) → Answer A → Answer (List ℕ)
in_words words a = and_then a (λ v. gives (words v))

unfoldable pub says : Question → Answer (List ℕ)
says (ask_read_u64 bytes) = in_words two (read_u64 bytes 0)
says (ask_write_u64 v) = write_u64 v 10
says (zigzag_encode z) = gives (zigzag z ∷ [])
says (zigzag_decode u) = gives (signed_one (unzigzag u))
says (cell_head s) = in_words signed_three (head_from s)
says (cell_value s column) = in_words value_three (value_at s 0 column)
says (ask_write_cell rowid kinds words rest) = write_cell rowid kinds (eights words) rest 32
says (reference s) = in_words reference_words (reference_from s)
says (ask_write_reference rowid total page) = write_reference rowid total page 32
says (divider s) = in_words interior_words (interior_from s)
says (write_divider rowid child) = write_interior rowid child 32

-- one row of the table
pub record Row : Type 0 where
  pub question : Question
  pub answer : Answer (List ℕ)

infix 30 ◌⇒◌
abbrev pub ◌⇒◌ : Question → Answer (List ℕ) → Row
q ⇒ a = record { question = q; answer = a }
