-- The columns from the last to the first: each doubles what the later ones made.
use Rattle.std.proofs.Common.{rules, tests}
use Rattle.std.proofs.lemmas.Iterator.Adapters.{YieldsList-from_rev_slice}
use Rattle.std.proofs.lemmas.Iterator.Consumers.{fold_from_yields_List}
use Rattle.paper.specs.Answer.{pick}
use Rattle.cell.specs.Listing.{kind_bit}
use Rattle.cell.proofs.Nulls.{doubled, bits_folded}
use Rattle.cell.proofs.encode.null_bits.Goals as goal

pub returns : goal.returns
unfolding kind_bit pick
returns c =
    bits_folded c.args.kinds.now c.requires
    (fold_from_yields_List _ doubled 0 _ c.fold.ensures.ran (YieldsList-from_rev_slice c.args.kinds.now cc) (λ a x b q k. search (rules, tests)))
