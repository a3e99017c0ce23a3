use Rattle.std.proofs.Common.{refl}
use Rattle.varint.proofs.Limits.{limits_from, table_limit, passed_none, passed_last, passed_more, passed_all}
use Rattle.varint.proofs.len.Goals as goal

pub loop-n-init : goal.loop-n-init
loop-n-init g c = passed_none _

pub returns-then-bits-limit : goal.returns-then-bits-limit
unfolding limits_from
returns-then-bits-limit g c =
    let h = c.loop-n-test.true in
    rw (← c.encode-bits.ensures) (passed_last c.loop-n.invariant h (table_limit _ refl _ h) c.if-bits-limit.true)

pub loop-n-preserved : goal.loop-n-preserved
unfolding limits_from
loop-n-preserved g c = let h = c.loop-n-test.true in passed_more c.loop-n.invariant h (table_limit _ refl _ h) c.if-bits-limit.false

pub returns : goal.returns
returns g c = rw (← c.encode-bits.ensures) (passed_all c.loop-n.invariant c.loop-n-test.false)
