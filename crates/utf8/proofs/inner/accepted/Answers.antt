-- What is passed over is text, so the rest decides.
use Rattle.std.proofs.Common.{sym, ◌∙◌}
use Rattle.utf8.proofs.Ascii.{past_same, past_last}
use Rattle.utf8.proofs.inner.accepted.Goals as goal

pub returns-then-ends_in_ascii : goal.returns-then-ends_in_ascii
returns-then-ends_in_ascii c =
    sym (past_last c.past_ascii-rest.ensures.past c.if-rest-lt8.true (c.ends_in_ascii.ensures.0 c.if-ends_in_ascii.true))

pub returns : goal.returns
returns c = c.judged.ensures ∙ past_same c.past_ascii-rest.ensures.past
