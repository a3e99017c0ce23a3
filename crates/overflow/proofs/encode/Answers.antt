use Rattle.std.proofs.Common.{rules}
use Rattle.overflow.proofs.RefWriting.{reference_output}
use Rattle.overflow.proofs.encode.Goals as goal

pub returns-clause-out_after : goal.returns-clause-out_after
returns-clause-out_after c = search (rules, reference_output)
