use Rattle.std.proofs.Common.{rules, sym, ◌∙◌}
use Rattle.varint.proofs.Places.{read_as_i64}
use Rattle.cell.proofs.Bodies.{row_read}
use Rattle.cell.proofs.inner.local_body.Goals as goal

pub returns : goal.returns
returns c =
    row_read _ (sym c.is_empty.ensures ∙ c.if-is_empty.false) c.if-body.false _
    (search (rules, c.in_ok-rowid.ensures, read_as_i64)) c.in_ok-count.ensures c.in_ok-columns.ensures
