-- What an interior page knows of its entries.
use Rattle.paper.specs.Answer.{gives, and_then}
use Rattle.cell.specs.View.{View}
use Rattle.interior_page.specs.InteriorCells.{interior_from}

unfoldable pub interior_view : View
interior_view s = and_then (interior_from s) (λ (c, size). gives (c.0, size))
