-- What was passed is ASCII, and the last word.
use Rattle.utf8.proofs.Ascii.{past_all, plain_all}
use Rattle.utf8.proofs.inner.all_ascii.Goals as goal

pub returns-then-past_ascii-lt8 : goal.returns-then-past_ascii-lt8
returns-then-past_ascii-lt8 c h = plain_all (past_all c.past_ascii.ensures.past c.if-past_ascii-lt8.true (c.ends_in_ascii.ensures.0 h))
