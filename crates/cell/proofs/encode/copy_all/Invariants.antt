-- The bytes up to the loop's place are stored.
use Rattle.cell.proofs.Placing.{Storing}
use Rattle.cell.proofs.encode.copy_all.Given as goal

abbrev pub invariant-loop-i : goal.invariant-loop-i
invariant-loop-i l = Storing l.initial.out l.src l.out l.i
