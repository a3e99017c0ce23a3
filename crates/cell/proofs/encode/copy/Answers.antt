-- The first word and the last meet.
use Rattle.cell.proofs.Copying.{words_meet}
use Rattle.cell.proofs.encode.copy.Goals as goal

pub returns-then-n-le16 : goal.returns-then-n-le16
returns-then-n-le16 c =
    words_meet c.args.out.now c.args.src.now _ _ c.if-n-ge8.true c.if-n-le16.true c.requires c.copy_word.ensures c.copy_word-then-n-le16.ensures
