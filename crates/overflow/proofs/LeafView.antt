-- A leaf page's view of its entries has the laws that a slotted page needs.
-- Assumes nothing.
use mathlib.Core.Path.{◌≡◌, refl, sym, ◌∙◌, ap}
use mathlib.Core.Bool.{Bool, true, false}
use mathlib.Core.List.{List, ◌++◌}
use Prim.Native.Nat.{ℕ, ◌+◌, ◌≤◌}
use lib.Dec.{eqb}
use lib.IntN.{ℤ}
use lib.ListN.{length, take}
use Rattle.paper.specs.Answer.{Answer, gives, refuses, and_then, pick}
use Rattle.paper.proofs.Laws.{gives_one, gives_refuses, first, second}
use Rattle.varint.specs.Leb.{read_u64}
use Rattle.cell.specs.Block.{Block}
use Rattle.cell.specs.Entry.{entry, peek_kind, peek_rowid}
use Rattle.cell.specs.Keyed.{keyed_at, page_at}
use Rattle.cell.specs.Local.{local_body, cell_from, head_from}
use Rattle.cell.specs.View.{Lawful}
use Rattle.cell.proofs.Accepting.{then_gave}
use Rattle.cell.proofs.Whole.{Whole, HasKey, whole_is, whole_some, whole_inside, whole_anywhere, local_key, keyed_key, rowid_peeked, kind_anywhere}
use Rattle.overflow.specs.Paged.{Paged, local, overflow, local_paged, reference_paged, paged_from}
use Rattle.overflow.specs.Reference.{reference_body, reference_from}
use Rattle.overflow.specs.View.{rowid_of, bytes_of, paged_view}

-- a reference's body has a key
reference_key : (body : List ℕ) {r : ℤ × ℕ × ℕ} → reference_body body ≡ gives r → HasKey 2 body r.0
unfolding reference_body
reference_key body e =
    let ((rowid, at), k, f) = then_gave (keyed_at 2 body) _ e in
    let ((total, n), t, g) = then_gave (read_u64 body at) _ f in
    let (page, p, h) = then_gave (page_at body (at + n)) _ g in
    rw (← gives_one h) (keyed_key 2 body k)

-- ---- what stands at the head of the list
data PagedWhole (s : List ℕ) (rowid : ℤ) (size : ℕ) : Type 0 where
  as_local : (row : ℤ × List Block) → row.0 ≡ rowid → Whole local_body s row size → PagedWhole s rowid size
  as_reference : (r : ℤ × ℕ × ℕ) → r.0 ≡ rowid → Whole reference_body s r size → PagedWhole s rowid size

seen : Answer Paged → Answer (ℤ × ℕ)
seen a = and_then a (λ e. gives (rowid_of e, bytes_of e))

module _ (s : List ℕ) {rowid : ℤ} {size : ℕ} where
  local_whole : seen (local_paged s) ≡ gives (rowid, size) → PagedWhole s rowid size
  unfolding seen local_paged head_from cell_from and_then rowid_of bytes_of
  local_whole e = by (entry local_body s) refl e
    where
      by : (a : Answer ((ℤ × List Block) × ℕ)) → entry local_body s ≡ a
          → seen (and_then {B = Paged} (and_then {B = ℤ × ℕ × ℕ} a (λ (row, n). gives (row.0, length row.1, n))) (λ h. gives (local h.0 h.1 h.2))) ≡ gives (rowid, size)
          → PagedWhole s rowid size
      by (gives p) h f = as_local p.0 (ap first (gives_one f)) (whole_is local_body s (h ∙ ap (λ (n : ℕ). gives (p.0, n)) (ap second (gives_one f))))
      by (refuses k) h f = absurd (gives_refuses (sym f))

  reference_whole : seen (reference_paged s) ≡ gives (rowid, size) → PagedWhole s rowid size
  unfolding seen reference_paged reference_from and_then rowid_of bytes_of
  reference_whole e = by (entry reference_body s) refl e
    where
      by : (a : Answer ((ℤ × ℕ × ℕ) × ℕ)) → entry reference_body s ≡ a
          → seen (and_then {B = Paged} a (λ (r, n). gives (overflow r.0 r.1 r.2 n))) ≡ gives (rowid, size) → PagedWhole s rowid size
      by (gives p) h f = as_reference p.0 (ap first (gives_one f)) (whole_is reference_body s (h ∙ ap (λ (n : ℕ). gives (p.0, n)) (ap second (gives_one f))))
      by (refuses k) h f = absurd (gives_refuses (sym f))

  paged_whole : paged_view s ≡ gives (rowid, size) → PagedWhole s rowid size
  unfolding paged_view paged_from seen and_then pick
  paged_whole e = by (peek_kind s) e
    where
      by2 : (t u : Bool) → seen (pick t (local_paged s) (pick u (reference_paged s) (refuses 5))) ≡ gives (rowid, size) → PagedWhole s rowid size
      by2 true u f = local_whole f
      by2 false true f = reference_whole f
      by2 false false f = absurd (gives_refuses (sym f))

      by : (a : Answer ℕ) → seen (and_then a (λ kind. pick (eqb kind 1) (local_paged s) (pick (eqb kind 2) (reference_paged s) (refuses 5)))) ≡ gives (rowid, size) → PagedWhole s rowid size
      by (gives k) f = by2 (eqb k 1) (eqb k 2) f
      by (refuses k) f = absurd (gives_refuses (sym f))

-- ---- and from there
local_seen : (s : List ℕ) (row : ℤ × List Block) {size : ℕ} → peek_kind s ≡ gives 1 → entry local_body s ≡ gives (row, size) → paged_view s ≡ gives (row.0, size)
unfolding paged_view paged_from local_paged head_from cell_from and_then pick rowid_of bytes_of
local_seen s row k e = rw (k, e)

reference_seen : (s : List ℕ) (r : ℤ × ℕ × ℕ) {size : ℕ} → peek_kind s ≡ gives 2 → entry reference_body s ≡ gives (r, size) → paged_view s ≡ gives (r.0, size)
unfolding paged_view paged_from reference_paged reference_from and_then pick rowid_of bytes_of
reference_seen s r k e = rw (k, e)

some_of : (s : List ℕ) {rowid : ℤ} {size : ℕ} → PagedWhole s rowid size → 1 ≤ size
some_of s (as_local row d w) = whole_some local_body s w
some_of s (as_reference r d w) = whole_some reference_body s w

inside_of : (s : List ℕ) {rowid : ℤ} {size : ℕ} → PagedWhole s rowid size → size ≤ length s
inside_of s (as_local row d w) = whole_inside local_body s w
inside_of s (as_reference r d w) = whole_inside reference_body s w

anywhere_of : (s : List ℕ) {rowid : ℤ} {size : ℕ} → PagedWhole s rowid size → (t : List ℕ) → paged_view (take size s ++ t) ≡ gives (rowid, size)
anywhere_of s {size = size} (as_local row d w) t =
    rw (← d) (local_seen (take size s ++ t) row (kind_anywhere local_body s w (local_key _ w.body) t) (whole_anywhere local_body s w t))
anywhere_of s {size = size} (as_reference r d w) t =
    rw (← d) (reference_seen (take size s ++ t) r (kind_anywhere reference_body s w (reference_key _ w.body) t) (whole_anywhere reference_body s w t))

peeked_of : (s : List ℕ) {rowid : ℤ} {size : ℕ} → PagedWhole s rowid size → peek_rowid s ≡ gives rowid
peeked_of s (as_local row d w) = rw (← d) (rowid_peeked s {kind = 1} w.frame (local_key _ w.body))
peeked_of s (as_reference r d w) = rw (← d) (rowid_peeked s {kind = 2} w.frame (reference_key _ w.body))

pub paged_lawful : Lawful paged_view
paged_lawful =
    record {
      some = λ s e. some_of s (paged_whole s e);
      inside = λ s e. inside_of s (paged_whole s e);
      anywhere = λ s e t. anywhere_of s (paged_whole s e) t;
      peeked = λ s e. peeked_of s (paged_whole s e);
    }
