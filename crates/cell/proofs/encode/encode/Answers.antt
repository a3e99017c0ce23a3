use Rattle.cell.proofs.Writing.{good_output}
use Rattle.cell.proofs.encode.encode.Goals as goal

pub returns-clause-out_after : goal.returns-clause-out_after
returns-clause-out_after c =
    good_output c.args.rowid _ _ _ c.in_ok-list.ensures c.ranges.rowid c.zigzag_encode-id.ensures c.in_ok-size.ensures c.varint_len.ensures.0 c.args.out.now
    c.if-out-bytes.false c.put_entry.ensures
