-- What was passed is ASCII.
use Rattle.std.proofs.Common.{length}
use Rattle.utf8.specs.Ascii.{Past}
use Rattle.utf8.proofs.inner.past.Given as goal

abbrev pub invariant-loop-part : goal.invariant-loop-part
invariant-loop-part g l = Past l.s l.rest

abbrev pub decreases-loop-part : goal.decreases-loop-part
decreases-loop-part g l = length l.rest
