-- What a leaf page knows of its entries: local cells and overflow references alike.
use Rattle.std.specs.Prelude.{ℕ, ℤ}
use Rattle.paper.specs.Answer.{gives, and_then}
use Rattle.cell.specs.View.{View}
use Rattle.overflow.specs.Paged.{Paged, local, overflow, paged_from}

unfoldable pub rowid_of : Paged → ℤ
rowid_of (local rowid columns size) = rowid
rowid_of (overflow rowid total page size) = rowid

unfoldable pub bytes_of : Paged → ℕ
bytes_of (local rowid columns size) = size
bytes_of (overflow rowid total page size) = size

unfoldable pub paged_view : View
paged_view s = and_then (paged_from s) (λ e. gives (rowid_of e, bytes_of e))
