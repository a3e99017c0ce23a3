-- The limits below n are passed.
use Rattle.varint.proofs.Limits.{Passed}
use Rattle.varint.proofs.len.Given as goal

abbrev pub invariant-loop-n : goal.invariant-loop-n
invariant-loop-n g l = Passed l.bits l.n
