use Rattle.std.proofs.Common.{rules}
use Rattle.cell.proofs.Values.{tag_read, integer_ok, integer_value, text_ok, text_place, text_value, vector_ok, vector_place, vector_value}
use Rattle.cell.proofs.value.value_block.Goals as goal

pub unwrap-v-requires : goal.unwrap-v-requires
unwrap-v-requires c = integer_ok _ _ c.requires.there (tag_read c.try_from.ensures c.in-Integer.ensures) _ c.read.ensures

pub returns-in-Integer : goal.returns-in-Integer
returns-in-Integer c =
    integer_value _ _ _ c.requires.there (tag_read c.try_from.ensures c.in-Integer.ensures) _ c.read.ensures c.unwrap-v.ensures (search rules)

pub unwrap-start-requires : goal.unwrap-start-requires
unwrap-start-requires c = text_ok _ _ c.requires.there (tag_read c.try_from.ensures c.in-Text.ensures) _ c.counted.ensures

pub overflow_add-result : goal.overflow_add-result
overflow_add-result c =
    text_place _ _ _ c.requires.there (tag_read c.try_from.ensures c.in-Text.ensures) _ c.counted.ensures c.unwrap-start.ensures c.requires.fits

pub unwrap-start-requires-in-Vector : goal.unwrap-start-requires-in-Vector
unwrap-start-requires-in-Vector c =
    vector_ok _ _ c.requires.there (tag_read c.try_from.ensures c.in-Vector.ensures) _ c.counted-in-Vector.ensures

pub overflow_add-result-in-Vector : goal.overflow_add-result-in-Vector
overflow_add-result-in-Vector c =
    vector_place _ _ _ c.requires.there (tag_read c.try_from.ensures c.in-Vector.ensures) _ c.counted-in-Vector.ensures
    c.unwrap-start-in-Vector.ensures
    c.requires.fits

pub returns-in-Text : goal.returns-in-Text
returns-in-Text c =
    text_value _ _ _ c.requires.there (tag_read c.try_from.ensures c.in-Text.ensures) _ c.counted.ensures c.unwrap-start.ensures

pub returns-in-Vector : goal.returns-in-Vector
returns-in-Vector c =
    vector_value _ _ _ c.requires.there (tag_read c.try_from.ensures c.in-Vector.ensures) _ c.counted-in-Vector.ensures
    c.unwrap-start-in-Vector.ensures
