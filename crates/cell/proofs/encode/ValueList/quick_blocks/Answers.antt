-- A common kind whose word is no larger than it may be is measured.
use Rattle.std.proofs.Common.{rules}
use Rattle.cell.specs.Listing.{Common}
use Rattle.cell.proofs.QuickMeasuring.{quick_small, quick_bytes, quick_inside, quick_more}
use Rattle.cell.proofs.encode.ValueList.quick_blocks.Goals as goal

pub quick_len-bytes-requires : goal.quick_len-bytes-requires
quick_len-bytes-requires c =
    let k : Common _ = search (rules, c.if-not-is_common.ensures) in
    (k, quick_small c.loop-kind.invariant c.in-Some.ensures.steps c.from_le_bytes-word.ensures k c.largest_word.ensures c.if-largest_word-word.false c.args.self.now.little_data)

pub overflow_add-bytes : goal.overflow_add-bytes
overflow_add-bytes c =
    quick_bytes c.loop-kind.invariant c.in-Some.ensures.steps c.from_le_bytes-word.ensures (search (rules, c.if-not-is_common.ensures)) c.largest_word.ensures c.if-largest_word-word.false
    c.quick_len-bytes.ensures c.args.self.now.few_columns c.args.self.now.little_data

pub slice_bounds-rest-count : goal.slice_bounds-rest-count
slice_bounds-rest-count c =
    quick_inside c.loop-kind.invariant c.in-Some.ensures.steps c.from_le_bytes-word.ensures (search (rules, c.if-not-is_common.ensures)) c.largest_word.ensures c.if-largest_word-word.false
    c.quick_len-bytes.ensures c.for_kind-size.ensures

pub slice_bounds-rest-start : goal.slice_bounds-rest-start
slice_bounds-rest-start c =
    quick_inside c.loop-kind.invariant c.in-Some.ensures.steps c.from_le_bytes-word.ensures (search (rules, c.if-not-is_common.ensures)) c.largest_word.ensures c.if-largest_word-word.false
    c.quick_len-bytes.ensures c.for_kind-size.ensures

pub loop-kind-preserved : goal.loop-kind-preserved
loop-kind-preserved c =
    quick_more c.loop-kind.invariant c.in-Some.ensures.steps c.from_le_bytes-word.ensures (search (rules, c.if-not-is_common.ensures)) c.largest_word.ensures
    c.if-largest_word-word.false c.quick_len-bytes.ensures c.for_kind-size.ensures
