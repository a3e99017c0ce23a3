-- What is left, measured from here on, is the answer.
use Rattle.cell.specs.Listing.{numbers}
use Rattle.cell.proofs.QuickMeasuring.{Quickly}
use Rattle.cell.proofs.encode.ValueList.quick_blocks.Given as goal

abbrev pub invariant-loop-kind : goal.invariant-loop-kind
invariant-loop-kind l = Quickly l.self.kinds.now (numbers l.self.words.now) l.self.«data».now l.kind-iterator.a.rest.now l.kind-iterator.b.rest.now l.rest l.bytes
