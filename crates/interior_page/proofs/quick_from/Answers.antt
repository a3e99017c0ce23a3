use Rattle.paper.proofs.Laws.{paper}
use Rattle.interior_page.proofs.Dividers.{interior_in_word}
use Rattle.interior_page.proofs.quick_from.Goals as goal

pub returns : goal.returns
returns c =
    let (a, first) = c.in_ok-divider.ensures in
    search (paper, interior_in_word)
