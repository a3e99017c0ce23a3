-- The one statement over the table: what the definitions say to the questions is the answers. It is computed.
-- Assumes nothing.
use Rattle.std.proofs.Common.{◌≡◌, ℕ, List, [], ◌∷◌, refl}
use Rattle.paper.specs.Answer.{Answer, and_then, pick}
use Rattle.varint.specs.Leb.{taken, sum_from, read_from, read_u64, groups, leb_bytes, write_u64}
use Rattle.varint.specs.Zigzag.{zigzag, unzigzag}
use Rattle.varint.specs.Number.{read_i64}
use Rattle.field.specs.Field.{bytes}
use Rattle.utf8.specs.Table.{table}
use Rattle.utf8.specs.WellFormed.{inside, begun, after, whole, completes, well_formed, check_text, check_at}
use Rattle.cell.specs.Entry.{framed, entry, with_length, fitted}
use Rattle.cell.specs.Block.{block_of, block, is_null, bitmap_bytes, columns}
use Rattle.cell.specs.Local.{blocks_at, row_of, local_body, cell_from, head_from, moved, nth, value_from, value_at}
use Rattle.cell.specs.ValueList.{item, items, words_of, value_list}
use Rattle.cell.specs.Written.{block_bytes, blocks_bytes, null_bit, null_bits, bitmap, body_bytes, entry_bytes, encoded, write_cell}
use Rattle.cell.specs.Keyed.{keyed_at, page_at, keyed_bytes}
use Rattle.overflow.specs.Reference.{reference_body, reference_from, reference_bytes, write_reference}
use Rattle.interior_page.specs.InteriorCells.{interior_body, interior_from, interior_bytes, write_interior}
use Rattle.cases.specs.Question.{Row, says, eights}
use Rattle.cases.specs.Rows.{rows}

abbrev pub said : List Row → List (Answer (List ℕ))
said [] = []
said (r ∷ rs) = says r.question ∷ said rs

abbrev pub answers : List Row → List (Answer (List ℕ))
answers [] = []
answers (r ∷ rs) = r.answer ∷ answers rs

pub every_row : said rows ≡ answers rows
unfolding rows says and_then pick taken sum_from read_from read_u64 groups leb_bytes write_u64 zigzag unzigzag read_i64 eights bytes table inside begun after whole completes well_formed check_text check_at framed entry block_of block is_null bitmap_bytes columns blocks_at row_of local_body cell_from head_from moved nth value_from value_at item items words_of value_list block_bytes blocks_bytes null_bit null_bits bitmap body_bytes entry_bytes encoded write_cell keyed_at page_at with_length keyed_bytes fitted reference_body reference_from reference_bytes write_reference interior_body interior_from interior_bytes write_interior
every_row = refl
