use Rattle.std.proofs.Common.{rules}
use Rattle.varint.proofs.Writing.{filling}
use Rattle.varint.proofs.inner.put_u64.Goals as goal

pub loop-v-init : goal.loop-v-init
loop-v-init c = search (rules, filling)

pub loop-v-preserved : goal.loop-v-preserved
loop-v-preserved c = search (rules, filling)
