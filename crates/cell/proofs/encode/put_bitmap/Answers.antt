use Rattle.cell.proofs.Nulls.{mapping_more}
use Rattle.cell.proofs.encode.put_bitmap.Goals as goal

pub loop-b-preserved : goal.loop-b-preserved
loop-b-preserved c = mapping_more c.loop-b.invariant c.as_chunks.result.0.now c.as_chunks.ensures.front_len c.loop-b-test.true c.as_chunks.ensures.front c.null_bits.ensures
