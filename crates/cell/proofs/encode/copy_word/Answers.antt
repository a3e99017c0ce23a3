-- A word that is read and written is a copy.
use Rattle.std.proofs.Common.{arith}
use Rattle.cell.proofs.Copying.{word_copied}
use Rattle.cell.proofs.encode.copy_word.Goals as goal

pub returns : goal.returns
returns c = word_copied c.args.out.now c.args.src.now (λ i. omega (arith, c.type_inv.src i)) c.requires.1 c.u64_at.ensures c.put_u64.ensures
