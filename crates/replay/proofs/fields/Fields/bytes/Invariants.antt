-- The text of the steps that are left falls.
use Rattle.std.proofs.Common.{length}
use Rattle.replay.proofs.fields.Fields.bytes.Given as goal

abbrev pub decreases-loop-step : goal.decreases-loop-step
decreases-loop-step l = length l.text
