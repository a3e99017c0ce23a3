-- At each turn what is left, added to the bytes so far, is the answer.
use Rattle.std.proofs.Common.{refl}
use Rattle.paper.proofs.Laws.{told_err}
use Rattle.cell.proofs.Judging.{unknown_refused}
use Rattle.cell.proofs.Measuring.{measuring_refused, measuring_more}
use Rattle.cell.proofs.encode.ValueList.plain_blocks.Goals as goal

pub returns-in_err-kind : goal.returns-in_err-kind
returns-in_err-kind c =
    let (bad, above, a, b) = c.in_err-kind.ensures in
    told_err _ _ _ c.from_residual.ensures.1
    (rw bad (measuring_refused c.loop-kind.invariant c.in-Some.ensures.steps refl refl (unknown_refused _ _ c.loop-kind.rest.now above a b)))

pub returns-in_err-size : goal.returns-in_err-size
returns-in_err-size c =
    told_err _ _ _ c.from_residual-in_err-size.ensures.1
    (measuring_refused c.loop-kind.invariant c.in-Some.ensures.steps c.in_ok-kind.ensures c.from_le_bytes-word.ensures c.in_err-size.ensures)

pub loop-kind-preserved : goal.loop-kind-preserved
loop-kind-preserved c = measuring_more c.loop-kind.invariant c.in-Some.ensures.steps c.in_ok-kind.ensures c.from_le_bytes-word.ensures c.in_ok-size.ensures
