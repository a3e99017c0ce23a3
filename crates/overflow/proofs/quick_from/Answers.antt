use Rattle.paper.proofs.Laws.{paper}
use Rattle.overflow.proofs.References.{reference_in_word}
use Rattle.overflow.proofs.quick_from.Goals as goal

pub returns : goal.returns
returns c =
    let (a, first) = c.in_ok-rowid.ensures in
    let (b, second) = c.in_ok-total_body_len.ensures in
    search (paper, reference_in_word)
