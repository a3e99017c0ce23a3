-- What was written answers, column by column, the row that was written, wherever the entry stands.
-- Assumes nothing.
use Rattle.std.proofs.Common.{◌≡◌, ℕ, ◌+◌, ◌<◌, ◌≤◌, ltb, List, [], ◌++◌, length, get_or, drop, ℤ, sym, ap, ◌∙◌, append_assoc, w64, SFits}
use lib.ListN.{length-map, get_or-map}
use lib.Seq.{drop-append_seam}
use Rattle.paper.specs.Answer.{gives, refuses, and_then, over, put}
use Rattle.paper.proofs.Laws.{gives_one}
use Rattle.varint.specs.Leb.{len_u64}
use Rattle.varint.specs.Standard.{Bytes}
use Rattle.cell.specs.Block.{Block, null}
use Rattle.cell.specs.Content.{Content, none, content_of}
use Rattle.cell.specs.Entry.{framed, body_at, fitted}
use Rattle.cell.specs.Local.{cell_from, head_from, moved, nth, value_at}
use Rattle.cell.specs.ValueList.{value_list}
use Rattle.cell.specs.Written.{body_bytes, entry_bytes, encoded, write_cell}
use Rattle.cell.proofs.Accepting.{not_refused, then_gave}
use Rattle.cell.proofs.Whole.{written_framed, written_body}
use Rattle.cell.proofs.Reread.{Reread}
use Rattle.cell.proofs.WrittenRead.{written_read}
use Rattle.cell.proofs.ColumnRead.{column_given, column_past, column_holds}

-- the column is answered, and the answer's content, taken from the caller's slice, is this
pub record Answers (buf : List ℕ) (pos column : ℕ) (content : Content) : Type 0 where
  pub block : Block
  pub given : value_at buf pos column ≡ gives block
  pub holds : content_of buf block ≡ content

-- ---- a row that reads back, in a slice with any bytes before its entry and behind it
module _ (before behind : List ℕ) {rowid : ℤ} {cs : List Content} (w : Reread rowid cs behind) where
  abbrev body : List ℕ
  body = body_bytes (rowid, cs)

  abbrev slice : List ℕ
  slice = before ++ entry_bytes (rowid, cs) ++ behind

  -- where the body starts in the entry
  abbrev start : ℕ
  start = len_u64 (length body)

  from_entry : drop (length before) slice ≡ entry_bytes (rowid, cs) ++ behind
  from_entry = ap (drop (length before)) (append_assoc before (entry_bytes (rowid, cs)) behind) ∙ drop-append_seam before (entry_bytes (rowid, cs) ++ behind)

  frame : framed (drop (length before) slice) ≡ gives (start, length body)
  unfolding entry_bytes
  frame = rw from_entry (written_framed body w.small behind)

  read : cell_from (drop (length before) slice) ≡ gives ((rowid, w.blocks), length (entry_bytes (rowid, cs)))
  read = rw from_entry w.read

  count : length w.blocks ≡ length cs
  count = sym (length-map w.blocks (content_of body)) ∙ ap length w.same

  body_is : body_at (drop (length before) slice) start (length body) ≡ body
  unfolding entry_bytes
  body_is = rw from_entry (written_body body w.small behind)

  module _ (column : ℕ) where
    holds_content : content_of slice (moved (length before + start) (nth w.blocks column)) ≡ get_or cs column none
    unfolding content_of nth
    holds_content =
        column_holds slice (length before) frame read column
        ∙ rw body_is (sym (get_or-map (content_of body) w.blocks column null) ∙ ap (λ (xs : List Content). get_or xs column none) w.same)

    pub reread_column : column < length cs → Answers slice (length before) column (get_or cs column none)
    reread_column l =
        record {
          block = moved (length before + start) (nth w.blocks column);
          given = column_given slice (length before) frame read column (rw count l);
          holds = holds_content;
        }

    pub reread_past : length cs ≤ column → value_at slice (length before) column ≡ refuses 12
    reread_past l = column_past slice (length before) frame read column (rw count l)

  pub reread_head : head_from (drop (length before) slice) ≡ gives (rowid, length cs, length (entry_bytes (rowid, cs)))
  unfolding head_from and_then
  reread_head = rw (read, count)

-- ---- the theorem: a value list that is accepted, with the bytes e of its entry, which any bytes may stand before and behind.
-- Words are lent as bytes; a rowid is a signed 64-bit number
module _ (rowid : ℤ) (kinds words rest : List ℕ) {cs : List Content} {e : List ℕ} (f : SFits w64 rowid) (b : Bytes words)
    (listed : value_list kinds words rest ≡ gives cs) (written : encoded rowid kinds words rest ≡ gives e) (before behind : List ℕ) where
  entry_is : entry_bytes (rowid, cs) ≡ e
  unfolding encoded and_then
  entry_is = gives_one (rw listed at written)

  reread : Reread rowid cs behind
  reread = written_read rowid kinds words rest f b listed behind

  -- every column answers what the list said of it
  pub column_back : (column : ℕ) → column < length cs → Answers (before ++ e ++ behind) (length before) column (get_or cs column none)
  column_back column l = rw (← entry_is) (reread_column before behind reread column l)

  -- and past the last column 12
  pub past_back : (column : ℕ) → length cs ≤ column → value_at (before ++ e ++ behind) (length before) column ≡ refuses 12
  past_back column l = rw (← entry_is) (reread_past before behind reread column l)

  -- the head has the rowid, the count of the columns, and the length of the entry
  pub head_back : head_from (drop (length before) (before ++ e ++ behind)) ≡ gives (rowid, length cs, length e)
  head_back = rw (← entry_is) (reread_head before behind reread)

-- ---- the same of an output that was written to, asked at its start
module _ (rowid : ℤ) (kinds words rest out : List ℕ) {cs : List Content} {e : List ℕ} (f : SFits w64 rowid) (b : Bytes words)
    (listed : value_list kinds words rest ≡ gives cs) (written : write_cell rowid kinds words rest (length out) ≡ gives e) where
  encoded_is : encoded rowid kinds words rest ≡ gives e
  unfolding write_cell fitted
  encoded_is =
      let (w, w-is, w-then) = then_gave (encoded rowid kinds words rest) (fitted (length out)) written in
      let (t, g) = not_refused (ltb (length out) (length w)) 16 (gives w) w-then in
      w-is ∙ g

  pub output_back : (column : ℕ) → column < length cs → Answers (put out (write_cell rowid kinds words rest (length out))) 0 column (get_or cs column none)
  unfolding put over
  output_back column l = rw written (column_back rowid kinds words rest f b listed encoded_is [] (drop (length e) out) column l)
