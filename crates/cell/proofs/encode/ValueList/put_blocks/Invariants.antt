-- What is left, put from here on, fills the output as the answer does.
use Rattle.cell.specs.Listing.{numbers}
use Rattle.cell.proofs.Putting.{Putting}
use Rattle.cell.proofs.encode.ValueList.put_blocks.Given as goal

abbrev pub invariant-loop-kind : goal.invariant-loop-kind
invariant-loop-kind l = Putting l.initial.out l.self.kinds.now (numbers l.self.words.now) l.self.«data».now l.out l.kind-iterator.a.rest.now l.kind-iterator.b.rest.now l.rest l.at
