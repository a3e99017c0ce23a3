-- What is left completes the row that was begun, or does not, as the whole does.
use Rattle.std.proofs.Common.{length}
use Rattle.utf8.proofs.Reading.{Reads}
use Rattle.utf8.proofs.inner.judged.Given as goal

abbrev pub invariant-loop-word : goal.invariant-loop-word
invariant-loop-word l = Reads l.s l.state l.rest

abbrev pub decreases-loop-word : goal.decreases-loop-word
decreases-loop-word l = length l.rest
