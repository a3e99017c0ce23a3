use Rattle.std.proofs.Common.{arith, ◌∷◌}
use Rattle.varint.specs.Leb.{leb_bytes}
use Rattle.cell.specs.Listing.{head_of}
use Rattle.cell.proofs.Placing.{first_then, then_over}
use Rattle.cell.proofs.encode.put_head.Goals as goal

pub returns-clause-out_after : goal.returns-clause-out_after
unfolding head_of
returns-clause-out_after c =
    then_over _ (1 ∷ leb_bytes c.args.id) _ _ _ _ (first_then _ _ _ 1 (omega arith) c.put_u64-n.ensures.out_after) (omega arith) (omega arith) c.put_u64.ensures.out_after
