-- Each goal is a law of `Putting`.
use Rattle.std.proofs.Common.{rules, arith}
use Rattle.cell.proofs.Pairing.{no_turn}
use Rattle.cell.proofs.Putting.{putting_done, putting_null, putting_used, putting_below, putting_room, putting_at, putting_more}
use Rattle.cell.proofs.encode.ValueList.put_blocks.Goals as goal

pub loop-kind-preserved : goal.loop-kind-preserved
loop-kind-preserved c =
    putting_null c.loop-kind.invariant c.in-Some.ensures.steps c.in_default.ensures.1

pub put_block-at-requires-clause-data_there : goal.put_block-at-requires-clause-data_there
put_block-at-requires-clause-data_there c =
    putting_used c.loop-kind.invariant c.in-Some.ensures.steps c.in-Ok.ensures c.from_le_bytes-word.ensures

pub put_block-at-requires-clause-room : goal.put_block-at-requires-clause-room
put_block-at-requires-clause-room c =
    putting_room c.loop-kind.invariant c.in-Some.ensures.steps c.in-Ok.ensures c.from_le_bytes-word.ensures

pub overflow_add-at : goal.overflow_add-at
overflow_add-at c =
    putting_at c.loop-kind.invariant c.in-Some.ensures.steps c.in-Ok.ensures c.from_le_bytes-word.ensures c.put_block-at.ensures.value (search rules)

pub data_used-requires : goal.data_used-requires
data_used-requires c =
    let l = c.args.self.now.little_data in
    putting_below c.loop-kind.invariant c.in-Some.ensures.steps c.in-Ok.ensures c.from_le_bytes-word.ensures (omega (arith, l))

pub slice_bounds-rest-count : goal.slice_bounds-rest-count
slice_bounds-rest-count c =
    let u = putting_used c.loop-kind.invariant c.in-Some.ensures.steps c.in-Ok.ensures c.from_le_bytes-word.ensures in
    omega (arith, u, c.data_used.ensures)

pub slice_bounds-rest-start : goal.slice_bounds-rest-start
slice_bounds-rest-start c =
    let u = putting_used c.loop-kind.invariant c.in-Some.ensures.steps c.in-Ok.ensures c.from_le_bytes-word.ensures in
    omega (arith, u, c.data_used.ensures)

pub loop-kind-preserved-in-Ok : goal.loop-kind-preserved-in-Ok
loop-kind-preserved-in-Ok c =
    putting_more c.loop-kind.invariant c.in-Some.ensures.steps c.in-Ok.ensures c.from_le_bytes-word.ensures c.data_used.ensures c.put_block-at.ensures.value
    c.put_block-at.ensures.out_after

pub returns : goal.returns
returns c = putting_done c.loop-kind.invariant (no_turn _ _ c.loop-kind.invariant.even c.in-None.ensures.steps)
