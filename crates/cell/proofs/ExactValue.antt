-- Equal answers of document 01 are equal answers of the code. So the promise of the value by column leaves one answer.
-- Assumes nothing.
use Rattle.std.specs.Prelude.{Result}
use Rattle.std.proofs.Common.{◌≡◌, sym, refl, ap, ◌∙◌}
use Rattle.paper.proofs.Exact.{told_exact}
use Rattle.paper.specs.declared.Refusal.{Refusal}
use Rattle.cell.specs.Block.{Block, null, integer, real, bool, text, vector}
use Rattle.cell.specs.PaperValue.{paper_value, paper_asked}
use Rattle.cell.specs.declared.value.Value.{Value}
use Rattle.cell.specs.declared.value.Value.TheVariants as V

-- the way back
value_of : Block → Value
value_of null = V.Null
value_of (integer v) = V.Integer v
value_of (real f bits) = V.Real f bits
value_of (bool b) = V.Bool b
value_of (text at len) = V.Text at len
value_of (vector at dim) = V.Vector at dim

value_back : (v : Value) → value_of (paper_value v) ≡ v
unfolding value_of
value_back V.Null = refl
value_back (V.Integer v) = refl
value_back (V.Real f bits) = refl
value_back (V.Bool b) = refl
value_back (V.Text at len) = refl
value_back (V.Vector at dim) = refl

pub exact_value : (a b : Value) → paper_value a ≡ paper_value b → a ≡ b
exact_value a b e = sym (value_back a) ∙ ap value_of e ∙ value_back b

pub exact_asked : (a b : Result Value Refusal) → paper_asked a ≡ paper_asked b → a ≡ b
exact_asked a b e = told_exact paper_value exact_value a b e
