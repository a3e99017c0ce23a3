-- What is left, measured from here on, is the answer.
use Rattle.cell.specs.Listing.{numbers}
use Rattle.cell.proofs.Measuring.{Measuring}
use Rattle.cell.proofs.encode.ValueList.plain_blocks.Given as goal

abbrev pub invariant-loop-kind : goal.invariant-loop-kind
invariant-loop-kind l = Measuring l.self.kinds.now (numbers l.self.words.now) l.self.«data».now l.kind-iterator.a.rest.now l.kind-iterator.b.rest.now l.rest l.bytes
