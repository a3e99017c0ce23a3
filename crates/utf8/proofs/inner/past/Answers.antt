-- One part more is passed; or the part that stops it is not ASCII.
use Rattle.std.proofs.Common.{◌≡◌, true}
use Rattle.utf8.proofs.Ascii.{past_none, past_more}
use Rattle.utf8.proofs.inner.past.Goals as goal

pub loop-part-init : goal.loop-part-init
loop-part-init g c = past_none _

pub loop-part-preserved : goal.loop-part-preserved
loop-part-preserved g c =
    let some = c.in-Some.ensures.cases in
    past_more _ c.loop-part.invariant some.0 some.1 (c.only_ascii.ensures.0 c.if-only_ascii.true)

pub returns-else-only_ascii-clause-stops : goal.returns-else-only_ascii-clause-stops
returns-else-only_ascii-clause-stops g c l a =
    let some = c.in-Some.ensures.cases in
    let t : c.only_ascii.result ≡ true = c.only_ascii.ensures.1 (rw some.0 a) in
    cc
