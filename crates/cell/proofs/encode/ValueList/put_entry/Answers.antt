use Rattle.cell.specs.Listing.{numbers}
use Rattle.cell.proofs.Writing.{entry_output}
use Rattle.cell.proofs.encode.ValueList.put_entry.Goals as goal

pub returns : goal.returns
returns c =
    let l = c.args.self.now in
    entry_output l.kinds.now (numbers l.words.now) l.«data».now c.requires.good c.args.out.now c.requires.room
    c.put_u64-at.ensures.out_after c.put_u64-at.ensures.value c.put_head-at.ensures.out_after c.put_head-at.ensures.value
    c.put_bitmap-at.ensures.out_after c.put_bitmap-at.ensures.value c.put_blocks.ensures
