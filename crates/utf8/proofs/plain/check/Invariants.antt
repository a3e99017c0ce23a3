-- What is left is as good a text as the whole.
use Rattle.std.proofs.Common.{◌≡◌, length}
use Rattle.utf8.specs.WellFormed.{well_formed}
use Rattle.utf8.proofs.plain.check.Given as goal

abbrev pub invariant-loop-rest : goal.invariant-loop-rest
invariant-loop-rest l = well_formed l.rest ≡ well_formed l.bytes

abbrev pub decreases-loop-rest : goal.decreases-loop-rest
decreases-loop-rest l = length l.rest
