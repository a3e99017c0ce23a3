-- What the second passes stands behind what the first does.
use Rattle.utf8.proofs.Ascii.{past_both}
use Rattle.utf8.proofs.inner.past_ascii.Goals as goal

pub returns-clause-past : goal.returns-clause-past
returns-clause-past c = past_both c.past.ensures.past c.past-2.ensures.past
