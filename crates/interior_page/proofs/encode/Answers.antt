use Rattle.std.proofs.Common.{rules}
use Rattle.interior_page.proofs.DividerWriting.{interior_output}
use Rattle.interior_page.proofs.encode.Goals as goal

pub returns-clause-out_after : goal.returns-clause-out_after
returns-clause-out_after c = search (rules, interior_output)
