-- What the value of a column stands for.
use Rattle.std.specs.Prelude.{Result}
use Rattle.paper.specs.Answer.{Answer, told}
use Rattle.paper.specs.declared.Refusal.{Refusal}
use Rattle.cell.specs.Block.{Block, null, integer, real, bool, text, vector}
use Rattle.cell.specs.declared.value.Value.{Value}
use Rattle.cell.specs.declared.value.Value.TheVariants as V

abbrev pub paper_value : Value → Block
paper_value V.Null = null
paper_value (V.Integer v) = integer v
paper_value (V.Real f bits) = real f bits
paper_value (V.Bool b) = bool b
paper_value (V.Text at len) = text at len
paper_value (V.Vector at dim) = vector at dim

abbrev pub paper_asked : Result Value Refusal → Answer Block
paper_asked r = told paper_value r
