-- A local body whole.
-- Assumes nothing.
use Rattle.std.proofs.Common.{◌≡◌, ℕ, ◌+◌, ◌-◌, ◌≤◌, false, eqb, ltb, List, length, get_or, sym, refl, ap, ◌∙◌, ltb-false, le-ltb, eq-eqb, eqb-true}
use Rattle.paper.specs.Answer.{gives, and_then, pick}
use Rattle.paper.proofs.Laws.{gives_one}
use Rattle.varint.specs.Leb.{read_u64}
use Rattle.varint.specs.Number.{read_i64}
use Rattle.varint.proofs.Places.{at_inside, read_as_i64}
use Rattle.cell.specs.Block.{Block, columns, bitmap_bytes}
use Rattle.cell.specs.Local.{blocks_at, row_of, local_body}
use Rattle.cell.specs.Words.{columns_end}
use Rattle.cell.specs.LocalRead.{Reads, ReadsToEnd}
use Rattle.cell.specs.declared.inner.columns.Columns.{Columns}
use Rattle.cell.specs.declared.inner.Local.{Local}
use Rattle.cell.proofs.Keys.{signed_inside}
use Rattle.cell.proofs.Accepting.{not_refused, not_other, then_gave}

-- ---- blocks that were read were walked to the end of the body, behind a bitmap that had room
pub record Read (count : ℕ) (body : List ℕ) (at : ℕ) (blocks : List Block) : Type 0 where
  pub walk : gives (blocks, length body) ≡ columns count 0 at body (at + bitmap_bytes count)
  pub room : bitmap_bytes count ≤ length body - at

pub blocks_read : (count : ℕ) (body : List ℕ) (at : ℕ) {bs : List Block} → blocks_at count body at ≡ gives bs → Read count body at bs
unfolding blocks_at
blocks_read count body at {bs} e =
    let (t, g) = not_refused (ltb (length body - at) (bitmap_bytes count)) 6 _ e in
    let (w, w-is, w-then) = then_gave (columns count 0 at body (at + bitmap_bytes count)) _ g in
    let (u, h) = not_other (eqb w.1 (length body)) 10 _ w-then in
    let d : w.1 ≡ length body = eqb-true w.1 (length body) u in
    record {
      walk = sym (w-is ∙ ap (λ (xs : List Block). gives (xs, w.1)) (gives_one h) ∙ ap (λ (x : ℕ). gives (bs, x)) d);
      room = ltb-false (length body - at) (bitmap_bytes count) t;
    }

blocks_by : (count : ℕ) (body : List ℕ) (at : ℕ) {bs : List Block} → bitmap_bytes count ≤ length body - at
    → gives (bs, length body) ≡ columns count 0 at body (at + bitmap_bytes count) → gives bs ≡ blocks_at count body at
unfolding blocks_at pick and_then
blocks_by count body at l e = rw (le-ltb (length body - at) (bitmap_bytes count) l, ← e, eq-eqb (length body) (length body) refl)

-- the same from the walk over them
pub blocks_all : (count : ℕ) (body : List ℕ) (at : ℕ) {end : ℕ} (c : Columns) → bitmap_bytes count ≤ length body - at
    → gives end ≡ columns_end count 0 at body (at + bitmap_bytes count) → end ≡ length body → c.body.now ≡ body → c.count ≡ count → c.map ≡ at
    → Reads count at body c
unfolding blocks_at columns_end pick and_then
blocks_all count body at c l e d here n m =
    let (v, v-is, v-then) = then_gave (columns count 0 at body (at + bitmap_bytes count)) (λ (bs, x). gives x) (sym e) in
    let f : v.1 ≡ length body = gives_one v-then ∙ d in
    let r : gives (v.0, length body) ≡ columns count 0 at body (at + bitmap_bytes count) = sym (v-is ∙ ap (λ (x : ℕ). gives (v.0, x)) f) in
    record {
      here = here;
      all = record { blocks = v.0; read = rw (here, n, m) r };
      same = blocks_by count body at l r;
    }

-- ---- the row
module _ (body : List ℕ) (z : eqb (length body) 0 ≡ false) (k : get_or body 0 0 ≡ 1) where
  pub row_read : {n count m : ℕ} (l : Local) → gives (l.rowid, n) ≡ read_i64 body 1 → gives (count, m) ≡ read_u64 body (1 + n)
      → Reads count (1 + n + m) body l.columns → ReadsToEnd body l
  unfolding local_body row_of and_then pick
  row_read l r q w = record { here = w.here; all = w.all; same = rw (z, eq-eqb (get_or body 0 0) 1 k, ← r, ← q, ← w.same) }

pub ruleset bodies = (at_inside, read_as_i64, signed_inside)
