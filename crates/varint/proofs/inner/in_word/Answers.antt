use Rattle.std.proofs.Common.{rules}
use Rattle.varint.proofs.Words.{words}
use Rattle.varint.proofs.inner.in_word.Goals as goal

pub returns : goal.returns
returns c = search (rules, words)
