-- At each turn, what is left, resumed from here, is the answer.
use Rattle.varint.specs.Scan.{Going}
use Rattle.varint.proofs.inner.scan.Given as goal

abbrev pub invariant-loop-i : goal.invariant-loop-i
invariant-loop-i l = Going l.s l.value l.i
