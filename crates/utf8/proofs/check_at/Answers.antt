-- What is checked is the part of the slice.
use Rattle.std.proofs.Common.{◌∙◌, arith}
use Rattle.utf8.proofs.Laws.{part_inside}
use Rattle.utf8.proofs.check_at.Goals as goal

pub returns : goal.returns
returns c =
    let behind = c.in-Some.ensures.lookup in
    let part = c.in-Some-get.ensures.lookup in
    c.check.ensures ∙ part_inside _ _ _ c.in-Some.behind.now (omega (arith, behind, part)) behind.0.2 part.0.2
