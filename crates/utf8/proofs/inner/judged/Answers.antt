-- A word more is read; what the state says after it, and after the last, decides.
use Rattle.std.proofs.Common.{◌∙◌}
use Rattle.utf8.proofs.Reading.{reads_all, reads_behind, read_word, read_last, read_dead, read_past}
use Rattle.utf8.proofs.inner.judged.Goals as goal

pub returns-then-s-lt8 : goal.returns-then-s-lt8
returns-then-s-lt8 c = c.is_whole.ensures ∙ read_last (reads_behind c.start.ensures c.past.ensures.past) c.read.ensures

pub loop-word-init : goal.loop-word-init
loop-word-init c = reads_all _ c.start-state.ensures

pub returns-then-is_dead : goal.returns-then-is_dead
returns-then-is_dead c =
    let some = c.in-Some.ensures.cases in
    read_dead (read_word c.loop-word.invariant 8 some.0 some.1 c.read-state.ensures) c.if-is_dead.ensures

pub loop-word-preserved-then-is_whole : goal.loop-word-preserved-then-is_whole
loop-word-preserved-then-is_whole c =
    let some = c.in-Some.ensures.cases in
    read_past (read_word c.loop-word.invariant 8 some.0 some.1 c.read-state.ensures) c.if-is_whole.ensures c.past_ascii-rest.ensures.past

pub loop-word-preserved : goal.loop-word-preserved
loop-word-preserved c =
    let some = c.in-Some.ensures.cases in
    read_word c.loop-word.invariant 8 some.0 some.1 c.read-state.ensures

pub returns : goal.returns
returns c = c.is_whole-2.ensures ∙ read_last c.loop-word.invariant c.read-2.ensures
