-- The bytes so far are stored.
use Rattle.cell.proofs.Nulls.{Mapping}
use Rattle.cell.proofs.encode.put_bitmap.Given as goal

abbrev pub invariant-loop-b : goal.invariant-loop-b
invariant-loop-b l = Mapping l.initial.out l.kinds l.out l.b
