-- The number in a line is that of the table's row, counted from 0.
use Rattle.std.proofs.Common.{refl, arith, lit<}
use Rattle.utf8.specs.Table.{table}
use Rattle.utf8.proofs.PastRow.{row_stands, no_row_stands}
use Rattle.utf8.proofs.plain.past_row.Goals as goal

pub returns-in-0-to-127 : goal.returns-in-0-to-127
unfolding table
returns-in-0-to-127 c = row_stands _ 0 refl (lit< tt) (grind arith)

pub returns-in-194-to-223 : goal.returns-in-194-to-223
unfolding table
returns-in-194-to-223 c = row_stands _ 1 refl (lit< tt) (grind arith)

pub returns-in-224 : goal.returns-in-224
unfolding table
returns-in-224 c = row_stands _ 2 refl (lit< tt) (grind arith)

pub returns-in-225-to-236 : goal.returns-in-225-to-236
unfolding table
returns-in-225-to-236 c = row_stands _ 3 refl (lit< tt) (grind arith)

pub returns-in-237 : goal.returns-in-237
unfolding table
returns-in-237 c = row_stands _ 4 refl (lit< tt) (grind arith)

pub returns-in-238-to-239 : goal.returns-in-238-to-239
unfolding table
returns-in-238-to-239 c = row_stands _ 5 refl (lit< tt) (grind arith)

pub returns-in-240 : goal.returns-in-240
unfolding table
returns-in-240 c = row_stands _ 6 refl (lit< tt) (grind arith)

pub returns-in-241-to-243 : goal.returns-in-241-to-243
unfolding table
returns-in-241-to-243 c = row_stands _ 7 refl (lit< tt) (grind arith)

pub returns-in-244 : goal.returns-in-244
unfolding table
returns-in-244 c = row_stands _ 8 refl (lit< tt) (grind arith)

pub returns-in_default : goal.returns-in_default
unfolding table
returns-in_default c =
    no_row_stands _ c.requires
    (grind arith, (grind arith, (grind arith, (grind arith, (grind arith, (grind arith, (grind arith, (grind arith, (grind arith, tt)))))))))
