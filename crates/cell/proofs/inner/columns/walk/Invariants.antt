use Rattle.std.proofs.Common.{◌≡◌, ◌-◌}
use Rattle.cell.specs.Words.{columns_end}
use Rattle.cell.proofs.inner.columns.walk.Given as goal

-- what is left of the columns ends where all of them do
abbrev pub invariant-loop-c : goal.invariant-loop-c
invariant-loop-c l = columns_end (l.columns - l.c) l.c l.map l.body l.at ≡ columns_end l.columns 0 l.map l.body l.start
