-- An interior page's view of its entries has the laws that a slotted page needs.
-- Assumes nothing.
use mathlib.Core.Path.{◌≡◌, ◌∙◌, ap}
use mathlib.Core.List.{List, ◌++◌}
use Prim.Native.Nat.{ℕ}
use lib.IntN.{ℤ}
use lib.ListN.{take}
use Rattle.paper.specs.Answer.{gives, and_then}
use Rattle.paper.proofs.Laws.{gives_one, first, second}
use Rattle.cell.specs.Entry.{entry}
use Rattle.cell.specs.Keyed.{keyed_at, page_at}
use Rattle.cell.specs.View.{Lawful}
use Rattle.cell.proofs.Accepting.{then_gave}
use Rattle.cell.proofs.Whole.{Whole, HasKey, whole_is, whole_some, whole_inside, whole_anywhere, keyed_key, rowid_peeked}
use Rattle.interior_page.specs.InteriorCells.{interior_body, interior_from}
use Rattle.interior_page.specs.View.{interior_view}

-- a divider's body has a key
divider_key : (body : List ℕ) {c : ℤ × ℕ} → interior_body body ≡ gives c → HasKey 3 body c.0
unfolding interior_body
divider_key body e =
    let ((divider, at), k, f) = then_gave (keyed_at 3 body) _ e in
    let (child, p, g) = then_gave (page_at body at) _ f in
    rw (← gives_one g) (keyed_key 3 body k)

-- ---- what stands at the head of the list
record Divider (s : List ℕ) (rowid : ℤ) (size : ℕ) : Type 0 where
  cell : ℤ × ℕ
  same : cell.0 ≡ rowid
  whole : Whole interior_body s cell size

divider_whole : (s : List ℕ) {rowid : ℤ} {size : ℕ} → interior_view s ≡ gives (rowid, size) → Divider s rowid size
unfolding interior_view interior_from
divider_whole s e =
    let ((c, n), h, f) = then_gave (entry interior_body s) _ e in
    record {
      cell = c;
      same = ap first (gives_one f);
      whole = whole_is interior_body s (h ∙ ap (λ (n : ℕ). gives (c, n)) (ap second (gives_one f)));
    }

divider_seen : (s : List ℕ) (c : ℤ × ℕ) {size : ℕ} → entry interior_body s ≡ gives (c, size) → interior_view s ≡ gives (c.0, size)
unfolding interior_view interior_from and_then
divider_seen s c e = rw e

pub interior_lawful : Lawful interior_view
interior_lawful =
    record {
      some = λ s e. let d = divider_whole s e in whole_some interior_body s d.whole;
      inside = λ s e. let d = divider_whole s e in whole_inside interior_body s d.whole;
      anywhere = λ s {rowid} {size} e t.
          let d = divider_whole s e in
          rw (← d.same) (divider_seen (take size s ++ t) d.cell (whole_anywhere interior_body s d.whole t));
      peeked = λ s e.
          let d = divider_whole s e in
          rw (← d.same) (rowid_peeked s {kind = 3} d.whole.frame (divider_key _ d.whole.body));
    }
