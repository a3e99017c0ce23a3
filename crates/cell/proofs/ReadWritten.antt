-- What was read and accepted, written again, is the same row, in no more bytes.
-- Assumes nothing.
use Rattle.std.proofs.Common.{◌≡◌, ℕ, zero, suc, ◌+◌, ◌-◌, ◌*◌, ◌/◌, ◌%◌, ◌^◌, ◌<◌, ◌≤◌, Bool, true, false, not, eqb, ltb, leb, List, [], ◌∷◌, ◌++◌, map, length, get_or, take, drop, ℤ, sym, refl, ap, ◌∙◌, arith, length-append, length-take-le, w64, SFits, ltb-false, eqb-true, leb-true}
use native.Mathlib.Nat.{mod-le}
use lib.Ieee.{of_bits, binary64}
use lib.ListN.{length-map}
use Rattle.paper.specs.Answer.{Answer, gives, refuses, and_then, pick}
use Rattle.paper.proofs.Laws.{gives_one, gives_refuses}
use Rattle.field.specs.Field.{le}
use Rattle.field.proofs.Storing.{length_bytes}
use Rattle.varint.specs.Leb.{leb_bytes, len_u64, groups, read_from, read_u64}
use Rattle.varint.specs.Number.{read_i64}
use Rattle.varint.specs.Standard.{Bytes}
use Rattle.varint.specs.Zigzag.{zigzag, unzigzag}
use Rattle.varint.proofs.Laws.{read_is}
use Rattle.varint.proofs.Limits.{groups_most}
use Rattle.varint.proofs.Standard.{read_sequence, groups_sequence, sequence_bound, written_shortest}
use Rattle.varint.proofs.Zigzag.{forth, signed_fits}
use Rattle.utf8.specs.WellFormed.{check_text, check_at}
use Rattle.cell.specs.Block.{Block, null, integer, real, bool, text, vector, block, block_of, is_null, bitmap_bytes, columns}
use Rattle.cell.specs.Content.{Content, content_of}
use Rattle.cell.specs.Entry.{framed, body_at, entry}
use Rattle.cell.specs.Local.{blocks_at, row_of, local_body, cell_from}
use Rattle.cell.specs.Written.{block_bytes, blocks_bytes, bitmap, body_bytes}
use Rattle.cell.proofs.Blocks.{read_inside, unknown}
use Rattle.cell.proofs.Lengths.{bitmap_length}
use Rattle.cell.proofs.Listed.{Sound, AllSound}
use Rattle.cell.proofs.Reread.{Reread, row_reread}
use Rattle.cell.proofs.Whole.{part_length, framing}
use Rattle.cell.proofs.WrittenRead.{bytes_drop, le_below}

-- ---- a number that was read is written in no more bytes
number_short : (s : List ℕ) {v n : ℕ} → Bytes s → read_from s ≡ gives (v, n) → len_u64 v ≤ n
number_short s {v} {n} b e =
    let w = read_is s e in
    let q = read_sequence s b e in
    let k : length (take n s) ≡ n = length-take-le n s w.inside in
    let m : q.value < 2 ^ (7 * n) = rw k at (sequence_bound q.sequence) in
    let d : v ≡ q.value % 2 ^ 64 = q.modulo in
    let c : q.value % 2 ^ 64 ≤ q.value = mod-le q.value (2 ^ 64) in
    let p : suc (n - 1) ≡ n = omega (arith, w.some) in
    let h : v < 2 ^ (7 * suc (n - 1)) = rw p (omega arith) in
    let g : length (groups (suc (n - 1)) v) ≤ suc (n - 1) = groups_most (suc (n - 1)) v in
    let r : len_u64 v ≤ length (groups (suc (n - 1)) v) = written_shortest (groups_sequence (n - 1) v h) in
    omega arith

-- ---- one value block: its content is sound, and as short as it can be
record Short (body : List ℕ) (at : ℕ) (b : Block) (next : ℕ) : Type 0 where
  pub sound : Sound (content_of body b)
  pub size : at + length (block_bytes (content_of body b)) ≤ next

-- what an accepted block is; its tag stands before it
abbrev Fine : List ℕ → ℕ → Answer (Block × ℕ) → Type 0
Fine body at (gives (b, next)) = Short body at b next
Fine body at (refuses k) = Unit {0}

module _ (body : List ℕ) (at : ℕ) (b : Bytes body) where
  number_fine : {v n : ℕ} → read_u64 body (at + 1) ≡ gives (v, n) → (v < 2 ^ 64) × (len_u64 v ≤ n)
  unfolding read_u64
  number_fine e = ((read_is (drop (at + 1) body) e).fits, number_short (drop (at + 1) body) (bytes_drop (at + 1) body b) e)

  integer_fine : (a : Answer (ℕ × ℕ)) → read_u64 body (at + 1) ≡ a
      → Fine body at (and_then (and_then a (λ (u, n). gives (unzigzag u, n))) (λ (v, n). gives (integer v, at + 1 + n)))
  unfolding and_then content_of block_bytes
  integer_fine (refuses k) e = tt
  integer_fine (gives (u, n)) e =
      let (h, l) = number_fine e in
      record { sound = signed_fits u h; size = rw (forth u) (omega arith) }

  real_fine : (t : Bool) → Fine body at (pick t (refuses 7) (gives (real (of_bits binary64 (le 8 (at + 1) body)) (le 8 (at + 1) body), at + 1 + 8)))
  unfolding pick content_of block_bytes
  real_fine true = tt
  real_fine false = record { sound = le_below 8 (at + 1) body b; size = rw (length_bytes 8 (le 8 (at + 1) body)) (omega arith) }

  bool_fine : (t : Bool) → Fine body at (pick t (gives (bool (not (eqb (get_or body (at + 1) 0) 0)), at + 1 + 1)) (refuses 7))
  unfolding pick content_of block_bytes
  bool_fine true = record { sound = tt; size = omega arith }
  bool_fine false = tt

  text_fine : (a : Answer (ℕ × ℕ)) → read_u64 body (at + 1) ≡ a
      → Fine body at (and_then a (λ (len, n). and_then (check_at body (at + 1 + n) len) (λ _. gives (text (at + 1 + n) len, at + 1 + n + len))))
  unfolding and_then check_at pick content_of block_bytes
  text_fine (refuses k) e = tt
  text_fine (gives (len, n)) e =
      by (leb (at + 1 + n + len) (length body)) refl (check_text (take len (drop (at + 1 + n) body))) refl
    where
      by : (t : Bool) → leb (at + 1 + n + len) (length body) ≡ t → (a : Answer (Unit {0})) → check_text (take len (drop (at + 1 + n) body)) ≡ a
          → Fine body at (and_then (pick t a (refuses 7)) (λ _. gives (text (at + 1 + n) len, at + 1 + n + len)))
      by false f a g = tt
      by true f (refuses k) g = tt
      by true f (gives u) g =
          let (h, l) = number_fine e in
          let i : at + 1 + n + len ≤ length body = leb-true (at + 1 + n + len) (length body) f in
          let k : length (take len (drop (at + 1 + n) body)) ≡ len = part_length len (at + 1 + n) body i in
          let m = length-append (leb_bytes len) (take len (drop (at + 1 + n) body)) in
          record { sound = (g, rw k h); size = rw k (omega arith) }

  vector_fine : (a : Answer (ℕ × ℕ)) → read_u64 body (at + 1) ≡ a
      → Fine body at (and_then a (λ (dim, n). pick (ltb ((length body - (at + 1 + n)) / 4) dim) (refuses 7) (gives (vector (at + 1 + n) dim, at + 1 + n + 4 * dim))))
  unfolding and_then pick content_of block_bytes
  vector_fine (refuses k) e = tt
  vector_fine (gives (dim, n)) e = by (ltb ((length body - (at + 1 + n)) / 4) dim) refl
    where
      by : (t : Bool) → ltb ((length body - (at + 1 + n)) / 4) dim ≡ t
          → Fine body at (pick t (refuses 7) (gives (vector (at + 1 + n) dim, at + 1 + n + 4 * dim)))
      by true f = tt
      by false f =
          let (h, l) = number_fine e in
          let i : dim ≤ (length body - (at + 1 + n)) / 4 = ltb-false ((length body - (at + 1 + n)) / 4) dim f in
          let k : length (take (4 * dim) (drop (at + 1 + n) body)) ≡ 4 * dim = part_length (4 * dim) (at + 1 + n) body (omega (arith, read_inside body (at + 1) e)) in
          let d : 4 * dim / 4 ≡ dim = omega arith in
          let m = length-append (leb_bytes dim) (take (4 * dim) (drop (at + 1 + n) body)) in
          record { sound = rw (k, d) (refl, h); size = rw (k, d) (omega arith) }

  tag_fine : (tag : ℕ) → Fine body at (block_of tag body (at + 1))
  unfolding block_of read_i64 pick
  tag_fine zero = integer_fine (read_u64 body (at + 1)) refl
  tag_fine (suc zero) = real_fine (ltb (length body - (at + 1)) 8)
  tag_fine (suc (suc zero)) = text_fine (read_u64 body (at + 1)) refl
  tag_fine (suc (suc (suc zero))) = bool_fine (ltb (at + 1) (length body))
  tag_fine (suc (suc (suc (suc zero)))) = vector_fine (read_u64 body (at + 1)) refl
  tag_fine (suc (suc (suc (suc (suc tag))))) = rw (unknown (suc (suc (suc (suc (suc tag))))) body (at + 1) (omega arith)) tt

  block_fine : Fine body at (block body at)
  unfolding block pick
  block_fine = by (ltb at (length body))
    where
      by : (t : Bool) → Fine body at (pick t (block_of (get_or body at 0) body (at + 1)) (refuses 7))
      by true = tag_fine (get_or body at 0)
      by false = tt

  column_fine : (t : Bool) → Fine body at (pick t (gives (null, at)) (block body at))
  unfolding pick content_of block_bytes
  column_fine true = record { sound = tt; size = omega arith }
  column_fine false = block_fine

-- ---- the columns
record ShortAll (body : List ℕ) (n at : ℕ) (bs : List Block) (end : ℕ) : Type 0 where
  pub sound : AllSound (map (content_of body) bs)
  pub count : length bs ≡ n
  pub size : at + length (blocks_bytes (map (content_of body) bs)) ≤ end

abbrev FineAll : List ℕ → ℕ → ℕ → Answer (List Block × ℕ) → Type 0
FineAll body n at (gives (bs, end)) = ShortAll body n at bs end
FineAll body n at (refuses k) = Unit {0}

module _ (body : List ℕ) (place : ℕ) (b : Bytes body) where
  columns_fine : (n column at : ℕ) → FineAll body n at (columns n column place body at)
  unfolding columns and_then blocks_bytes
  columns_fine zero column at = record { sound = tt; count = refl; size = omega arith }
  columns_fine (suc n) column at =
      by (pick (is_null body place column) (gives (null, at)) (block body at)) (column_fine body at b (is_null body place column))
      (λ next. columns_fine n (column + 1) next)
    where
      joined : (x : Block) (next : ℕ) → Short body at x next → (a : Answer (List Block × ℕ)) → FineAll body n next a
          → FineAll body (suc n) at (and_then a (λ (bs, end). gives (x ∷ bs, end)))
      joined x next w (refuses k) v = tt
      joined x next w (gives (bs, end)) v =
          record {
            sound = (w.sound, v.sound);
            count = ap suc v.count;
            size = omega (arith, w.size, v.size, length-append (block_bytes (content_of body x)) (blocks_bytes (map (content_of body) bs)));
          }

      by : (a : Answer (Block × ℕ)) → Fine body at a → ((next : ℕ) → FineAll body n next (columns n (column + 1) place body next))
          → FineAll body (suc n) at (and_then a (λ (x, next). and_then (columns n (column + 1) place body next) (λ (bs, end). gives (x ∷ bs, end))))
      by (refuses k) w ih = tt
      by (gives (x, next)) w ih = joined x next w (columns n (column + 1) place body next) (ih next)

-- ---- the row
pub record ShortRow (body : List ℕ) (rowid : ℤ) (bs : List Block) : Type 0 where
  pub fits : SFits w64 rowid
  pub sound : AllSound (map (content_of body) bs)
  pub count : length bs < 2 ^ 64
  pub size : length (body_bytes (rowid, map (content_of body) bs)) ≤ length body

abbrev pub FineRow : List ℕ → Answer (ℤ × List Block) → Type 0
FineRow body (gives (rowid, bs)) = ShortRow body rowid bs
FineRow body (refuses k) = Unit {0}

module _ (body : List ℕ) (b : Bytes body) where
  module _ {u n count m : ℕ} (e : read_u64 body 1 ≡ gives (u, n)) (f : read_u64 body (1 + n) ≡ gives (count, m)) where
    ended_fine : (bs : List Block) (end : ℕ) → ShortAll body count (1 + n + m + bitmap_bytes count) bs end → (t : Bool) → eqb end (length body) ≡ t
        → FineRow body (and_then (pick t (gives bs) (refuses 10)) (λ bs. gives (unzigzag u, bs)))
    unfolding and_then pick body_bytes read_u64
    ended_fine bs end w false g = tt
    ended_fine bs end w true g =
        let cs : List Content = map (content_of body) bs in
        let k : length cs ≡ count = length-map bs (content_of body) ∙ w.count in
        let h : end ≡ length body = eqb-true end (length body) g in
        let i : len_u64 u ≤ n = number_short (drop 1 body) (bytes_drop 1 body b) e in
        let j : len_u64 count ≤ m = number_short (drop (1 + n) body) (bytes_drop (1 + n) body b) f in
        let z : zigzag (unzigzag u) ≡ u = forth u in
        let o : length (bitmap (bitmap_bytes (length cs)) cs) ≡ bitmap_bytes (length cs) = bitmap_length (bitmap_bytes (length cs)) cs in
        let p = length-append (bitmap (bitmap_bytes (length cs)) cs) (blocks_bytes cs) in
        let q = length-append (leb_bytes (length cs)) (bitmap (bitmap_bytes (length cs)) cs ++ blocks_bytes cs) in
        let r = length-append (leb_bytes (zigzag (unzigzag u))) (leb_bytes (length cs) ++ (bitmap (bitmap_bytes (length cs)) cs ++ blocks_bytes cs)) in
        let x : length (leb_bytes (zigzag (unzigzag u))) ≤ n = rw z i in
        let y : length (leb_bytes (length cs)) ≤ m = rw k j in
        let v : bitmap_bytes (length cs) ≡ bitmap_bytes count = ap bitmap_bytes k in
        record {
          fits = signed_fits u (read_is (drop 1 body) e).fits;
          sound = w.sound;
          count = rw w.count (read_is (drop (1 + n) body) f).fits;
          size = omega (arith, w.size);
        }

    blocks_fine : FineRow body (and_then (blocks_at count body (1 + n + m)) (λ bs. gives (unzigzag u, bs)))
    unfolding blocks_at and_then pick
    blocks_fine =
        by (ltb (length body - (1 + n + m)) (bitmap_bytes count)) (columns count 0 (1 + n + m) body (1 + n + m + bitmap_bytes count))
        (columns_fine body (1 + n + m) b count 0 (1 + n + m + bitmap_bytes count))
      where
        by : (t : Bool) (a : Answer (List Block × ℕ)) → FineAll body count (1 + n + m + bitmap_bytes count) a
            → FineRow body (and_then (pick t (refuses 6) (and_then a (λ (bs, end). pick (eqb end (length body)) (gives bs) (refuses 10)))) (λ bs. gives (unzigzag u, bs)))
        by true a w = tt
        by false (refuses k) w = tt
        by false (gives (bs, end)) w = ended_fine bs end w (eqb end (length body)) refl

  row_fine : FineRow body (row_of body)
  unfolding row_of read_i64 and_then
  row_fine = by (read_u64 body 1) refl
    where
      next : (u n : ℕ) → read_u64 body 1 ≡ gives (u, n) → (a : Answer (ℕ × ℕ)) → read_u64 body (1 + n) ≡ a
          → FineRow body (and_then a (λ (count, m). and_then (blocks_at count body (1 + n + m)) (λ bs. gives (unzigzag u, bs))))
      next u n e (refuses k) f = tt
      next u n e (gives (count, m)) f = blocks_fine e f

      by : (a : Answer (ℕ × ℕ)) → read_u64 body 1 ≡ a
          → FineRow body (and_then (and_then a (λ (u, n). gives (unzigzag u, n)))
          (λ (rowid, n). and_then (read_u64 body (1 + n)) (λ (count, m). and_then (blocks_at count body (1 + n + m)) (λ bs. gives (rowid, bs)))))
      by (refuses k) e = tt
      by (gives (u, n)) e = next u n e (read_u64 body (1 + n)) refl

  pub body_fine : FineRow body (local_body body)
  unfolding local_body pick
  body_fine = by (eqb (length body) 0) (eqb (get_or body 0 0) 1)
    where
      by : (s t : Bool) → FineRow body (pick s (refuses 4) (pick t (row_of body) (refuses 5)))
      by true t = tt
      by false true = row_fine
      by false false = tt

-- ---- the entry
pub bytes_take : (n : ℕ) (s : List ℕ) → Bytes s → Bytes (take n s)
bytes_take zero s b = tt
bytes_take (suc n) [] b = tt
bytes_take (suc n) (x ∷ s) b = (b.0, bytes_take n s b.1)

pub part_most : (n : ℕ) (s : List ℕ) → length (take n s) ≤ n
part_most zero s = omega arith
part_most (suc n) [] = omega arith
part_most (suc n) (x ∷ s) = let h : length (take n s) ≤ n = part_most n s in omega arith

pub framed_fits : (s : List ℕ) {n len : ℕ} → framed s ≡ gives (n, len) → len < 2 ^ 64
framed_fits s e = (read_is s (framing s e).read).fits

-- An entry that was read has a body, which says a row. That row, written again with any bytes behind it, reads as the same row, and
-- its body is no longer. (Where its bytes differ is said in `PlainWritten`.)
pub record Rewritten (s : List ℕ) (rowid : ℤ) (bs : List Block) (t : List ℕ) : Type 0 where
  pub start : ℕ
  pub len : ℕ
  pub frame : framed s ≡ gives (start, len)
  pub again : Reread rowid (map (content_of (body_at s start len)) bs) t
  pub size : length (body_bytes (rowid, map (content_of (body_at s start len)) bs)) ≤ len

pub read_written : (s : List ℕ) {rowid : ℤ} {bs : List Block} {size : ℕ} → Bytes s → cell_from s ≡ gives ((rowid, bs), size) → (t : List ℕ) → Rewritten s rowid bs t
unfolding cell_from entry and_then
read_written s {rowid} {bs} {size} b e t = by (framed s) refl e
  where
    found : (n len : ℕ) → framed s ≡ gives (n, len) → (a : Answer (ℤ × List Block)) → FineRow (body_at s n len) a
        → and_then {B = (ℤ × List Block) × ℕ} a (λ row. gives (row, n + len)) ≡ gives ((rowid, bs), size) → Rewritten s rowid bs t
    found n len f (refuses k) w g = absurd (gives_refuses (sym g))
    found n len f (gives (r, cs)) w g =
        let d : r ≡ rowid = ap (λ (p : (ℤ × List Block) × ℕ). p.0.0) (gives_one g) in
        let c : cs ≡ bs = ap (λ (p : (ℤ × List Block) × ℕ). p.0.1) (gives_one g) in
        rw (← d, ← c)
        record {
          start = n;
          len = len;
          frame = f;
          again = row_reread r (map (content_of (body_at s n len)) cs) w.fits w.sound (rw (length-map cs (content_of (body_at s n len))) w.count)
              (omega (arith, w.size, part_most len (drop n s), framed_fits s f)) t;
          size = omega (arith, w.size, part_most len (drop n s));
        }

    by : (a : Answer (ℕ × ℕ)) → framed s ≡ a
        → and_then {B = (ℤ × List Block) × ℕ} a (λ (n, len). and_then (local_body (body_at s n len)) (λ row. gives (row, n + len))) ≡ gives ((rowid, bs), size)
        → Rewritten s rowid bs t
    by (refuses k) f g = absurd (gives_refuses (sym g))
    by (gives (n, len)) f g =
        found n len f (local_body (body_at s n len)) (body_fine (body_at s n len) (bytes_take len (drop n s) (bytes_drop n s b))) g
