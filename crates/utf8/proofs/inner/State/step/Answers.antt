-- That each byte moves each state as the table does is computed.
use Rattle.std.proofs.Common.{arith}
use Rattle.utf8.proofs.Machine.{step_state, step_left}
use Rattle.utf8.proofs.inner.State.step.Goals as goal

pub invariant_of-result : goal.invariant_of-result
invariant_of-result c = step_state c.self.inside.bits c.args.byte (omega arith) c.self.invariant

pub returns : goal.returns
returns c = rw c.self.view_is at (step_left c.self.inside.bits c.args.byte (omega arith) c.self.invariant)
