-- What is left, stored from here on, fills the output as the answer does.
use Rattle.varint.proofs.Writing.{Filling}
use Rattle.varint.proofs.inner.put_u64.Given as goal

abbrev pub invariant-loop-v : goal.invariant-loop-v
invariant-loop-v l = Filling l.fn.out l.value l.out l.v l.i

abbrev pub decreases-loop-v : goal.decreases-loop-v
decreases-loop-v l = l.v
