use Rattle.std.proofs.Common.{sym, ◌∙◌}
use Rattle.cell.proofs.Values.{walk_ok, block_there}
use Rattle.cell.proofs.value.column_block.Goals as goal

pub unwrap-at-requires : goal.unwrap-at-requires
unwrap-at-requires c = walk_ok _ _ c.requires.there _ c.walk.ensures

pub value_block-requires-clause-there : goal.value_block-requires-clause-there
value_block-requires-clause-there c =
    block_there _ _ c.requires.there _ c.walk.ensures c.unwrap-at.ensures (sym c.is_null.ensures ∙ c.if-is_null.false)
