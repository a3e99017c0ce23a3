-- A value by its column is the block that the whole reader finds there, and lies inside the caller's slice.
-- Assumes nothing.
use Rattle.std.proofs.Common.{◌≡◌, ℕ, zero, suc, ◌+◌, ◌-◌, ◌*◌, ◌/◌, ◌<◌, ◌≤◌, Bool, true, false, eqb, ltb, List, ◌++◌, length, get_or, take, drop, ℤ, sym, refl, ap, ◌∙◌, arith, length-drop, take-append-drop, drop-drop, ltb-false, ltb-true, le-ltb, lt-ltb}
use lib.Ieee.{Float, of_bits, binary64}
use lib.Seq.{drop-append-le, take-append-le}
use Rattle.paper.specs.Answer.{Answer, gives, refuses, and_then, pick}
use Rattle.paper.proofs.Laws.{gives_one, gives_refuses, refuses_one, first, second}
use Rattle.varint.specs.Leb.{read_u64}
use Rattle.varint.specs.Number.{read_i64}
use Rattle.utf8.specs.WellFormed.{well_formed, check_at}
use Rattle.utf8.proofs.Laws.{gives_inside, gives_well_formed}
use Rattle.cell.specs.Block.{Block, null, integer, real, bool, text, vector, block, block_of, columns, is_null, bitmap_bytes}
use Rattle.cell.specs.Content.{content_of}
use Rattle.cell.specs.Entry.{framed, body_at, entry}
use Rattle.cell.specs.Local.{blocks_at, row_of, local_body, cell_from, moved, nth, value_from, value_at}
use Rattle.cell.proofs.Blocks.{read_inside, unknown}
use Rattle.cell.proofs.Columns.{first_of}
use Rattle.cell.proofs.Bodies.{blocks_read}
use Rattle.cell.proofs.Whole.{part_length, framing}
use Rattle.cell.proofs.Accepting.{not_refused, not_other, then_gave}

-- ---- the whole reader's answer
module _ (buf : List ℕ) (pos : ℕ) where
  -- where the entry is refused, so is each of its columns, by the same number
  pub column_refused : {k : ℕ} → cell_from (drop pos buf) ≡ refuses k → (column : ℕ) → value_at buf pos column ≡ refuses k
  unfolding value_at value_from cell_from entry and_then
  column_refused {k} e column = by (framed (drop pos buf)) e
    where
      asked : ℕ → ℤ × List Block → Answer Block
      asked start (rowid, bs) = pick (ltb column (length bs)) (gives (moved (pos + start) (nth bs column))) (refuses 12)

      by2 : (start len : ℕ) (a : Answer (ℤ × List Block)) → and_then {B = (ℤ × List Block) × ℕ} a (λ row. gives (row, start + len)) ≡ refuses k
          → and_then a (asked start) ≡ refuses k
      by2 start len (gives row) f = absurd (gives_refuses f)
      by2 start len (refuses j) f = ap refuses (refuses_one f)

      by : (a : Answer (ℕ × ℕ)) → and_then {B = (ℤ × List Block) × ℕ} a (λ (start, len). and_then (local_body (body_at (drop pos buf) start len)) (λ row. gives (row, start + len))) ≡ refuses k
          → and_then a (λ (start, len). and_then (local_body (body_at (drop pos buf) start len)) (asked start)) ≡ refuses k
      by (gives (start, len)) f = by2 start len (local_body (body_at (drop pos buf) start len)) f
      by (refuses j) f = ap refuses (refuses_one f)

  module _ {start len size : ℕ} {rowid : ℤ} {bs : List Block} (f : framed (drop pos buf) ≡ gives (start, len))
      (e : cell_from (drop pos buf) ≡ gives ((rowid, bs), size)) where
    body_read : local_body (body_at (drop pos buf) start len) ≡ gives (rowid, bs)
    unfolding cell_from entry and_then
    body_read =
        let (w, w-is, w-then) = then_gave (local_body (body_at (drop pos buf) start len)) (λ row. gives (row, start + len)) (rw f at e) in
        w-is ∙ ap gives (ap first (gives_one w-then))

    decides : (column : ℕ) → value_at buf pos column ≡ pick (ltb column (length bs)) (gives (moved (pos + start) (nth bs column))) (refuses 12)
    unfolding value_at value_from and_then
    decides column = rw (f, body_read)

    -- where it is read, a column's value is the block that was read for it, at its place in the caller's slice
    pub column_given : (column : ℕ) → column < length bs → value_at buf pos column ≡ gives (moved (pos + start) (nth bs column))
    unfolding pick
    column_given column l = rw (decides column, lt-ltb column (length bs) l)

    -- and 12 past the last column
    pub column_past : (column : ℕ) → length bs ≤ column → value_at buf pos column ≡ refuses 12
    unfolding pick
    column_past column l = rw (decides column, le-ltb column (length bs) l)

-- ---- the other way: a value that is answered comes from an entry that is read
pub record ComesFrom (buf : List ℕ) (pos column : ℕ) (b : Block) : Type 0 where
  pub start : ℕ
  pub len : ℕ
  pub rowid : ℤ
  pub blocks : List Block
  pub frame : framed (drop pos buf) ≡ gives (start, len)
  pub read : local_body (body_at (drop pos buf) start len) ≡ gives (rowid, blocks)
  pub one : column < length blocks
  pub is : moved (pos + start) (nth blocks column) ≡ b

pub comes_from : (buf : List ℕ) (pos column : ℕ) {b : Block} → value_at buf pos column ≡ gives b → ComesFrom buf pos column b
unfolding value_at value_from
comes_from buf pos column e =
    let (v, v-is, v-then) = then_gave (framed (drop pos buf)) _ e in
    let (w, w-is, w-then) = then_gave (local_body (body_at (drop pos buf) v.0 v.1)) _ v-then in
    let (t, g) = not_other (ltb column (length w.1)) 12 _ w-then in
    record {
      start = v.0;
      len = v.1;
      rowid = w.0;
      blocks = w.1;
      frame = v-is;
      read = w-is;
      one = ltb-true column (length w.1) t;
      is = gives_one g;
    }

-- ---- what a block that was read is, in the list that it was read from: a text is text and lies inside, a vector lies inside, and a
-- float is that of its pattern
abbrev Proper : List ℕ → Block → Type 0
Proper s null = Unit {0}
Proper s (integer v) = Unit {0}
Proper s (real float bits) = float ≡ of_bits binary64 bits
Proper s (bool b) = Unit {0}
Proper s (text at len) = (at + len ≤ length s) × (well_formed (take len (drop at s)) ≡ true)
Proper s (vector at dim) = at + 4 * dim ≤ length s

module _ (body : List ℕ) where
  tag_proper : (tag at : ℕ) {b : Block} {end : ℕ} → block_of tag body at ≡ gives (b, end) → Proper body b
  unfolding block_of pick
  tag_proper zero at e =
      let (w, w-is, w-then) = then_gave (read_i64 body at) _ e in
      rw (← ap first (gives_one w-then)) tt
  tag_proper (suc zero) at e =
      let (t, g) = not_refused (ltb (length body - at) 8) 7 _ e in
      rw (← ap first (gives_one g)) refl
  tag_proper (suc (suc zero)) at e =
      let (v, v-is, v-then) = then_gave (read_u64 body at) _ e in
      let (w, w-is, w-then) = then_gave (check_at body (at + v.1) v.0) _ v-then in
      rw (← ap first (gives_one w-then)) (gives_inside body (at + v.1) v.0 w-is, gives_well_formed body (at + v.1) v.0 w-is)
  tag_proper (suc (suc (suc zero))) at e =
      let (t, g) = not_other (ltb at (length body)) 7 _ e in
      rw (← ap first (gives_one g)) tt
  tag_proper (suc (suc (suc (suc zero)))) at e =
      let (v, v-is, v-then) = then_gave (read_u64 body at) _ e in
      let (t, g) = not_refused (ltb ((length body - (at + v.1)) / 4) v.0) 7 _ v-then in
      let l : v.0 ≤ (length body - (at + v.1)) / 4 = ltb-false ((length body - (at + v.1)) / 4) v.0 t in
      let i : at + v.1 ≤ length body = read_inside body at v-is in
      rw (← ap first (gives_one g)) (omega arith)
  tag_proper (suc (suc (suc (suc (suc tag))))) at e = absurd (gives_refuses (sym e ∙ unknown (suc (suc (suc (suc (suc tag))))) body at (omega arith)))

  column_proper : (t : Bool) (at : ℕ) {b : Block} {end : ℕ} → pick t (gives (null, at)) (block body at) ≡ gives (b, end) → Proper body b
  unfolding pick block
  column_proper true at e = rw (← ap first (gives_one e)) tt
  column_proper false at e =
      let (t, g) = not_other (ltb at (length body)) 7 _ e in
      tag_proper (get_or body at 0) (at + 1) g

  -- (past the last column `nth` is a null)
  columns_proper : (n c place at i : ℕ) {bs : List Block} {end : ℕ} → gives (bs, end) ≡ columns n c place body at → Proper body (nth bs i)
  unfolding columns nth
  columns_proper zero c place at i e = rw (ap first (gives_one e)) tt
  columns_proper (suc n) c place at zero e =
      let f = first_of n c place body at e in
      rw (← f.parts) (column_proper (is_null body place c) at (sym f.read))
  columns_proper (suc n) c place at (suc i) e =
      let f = first_of n c place body at e in
      rw (← f.parts) (columns_proper n (c + 1) place f.next i f.more)

  blocks_proper : (count at i : ℕ) {bs : List Block} → blocks_at count body at ≡ gives bs → Proper body (nth bs i)
  blocks_proper count at i e = columns_proper count 0 at (at + bitmap_bytes count) i (blocks_read count body at e).walk

  row_proper : {rowid : ℤ} {bs : List Block} → row_of body ≡ gives (rowid, bs) → (i : ℕ) → Proper body (nth bs i)
  unfolding row_of
  row_proper e i =
      let (v, v-is, v-then) = then_gave (read_i64 body 1) _ e in
      let (w, w-is, w-then) = then_gave (read_u64 body (1 + v.1)) _ v-then in
      let (x, x-is, x-then) = then_gave (blocks_at w.0 body (1 + v.1 + w.1)) _ w-then in
      rw (← ap second (gives_one x-then)) (blocks_proper w.0 (1 + v.1 + w.1) i x-is)

  body_proper : {rowid : ℤ} {bs : List Block} → local_body body ≡ gives (rowid, bs) → (i : ℕ) → Proper body (nth bs i)
  unfolding local_body
  body_proper e i =
      let (a, ea) = not_refused (eqb (length body) 0) 4 _ e in
      let (b, eb) = not_other (eqb (get_or body 0 0) 1) 5 _ ea in
      row_proper eb i

-- ---- a body in the caller's slice: the place of a text or a vector in the body, and its place in the slice, have the same bytes
module _ (buf : List ℕ) (shift len : ℕ) where
  part_moved : (at n : ℕ) → at + n ≤ length (take len (drop shift buf)) → take n (drop (shift + at) buf) ≡ take n (drop at (take len (drop shift buf)))
  part_moved at n l =
      let body : List ℕ = take len (drop shift buf) in
      let e : drop (shift + at) buf ≡ drop at body ++ drop len (drop shift buf)
      = sym (drop-drop at shift buf) ∙ ap (drop at) (sym (take-append-drop len (drop shift buf))) ∙ drop-append-le at body (drop len (drop shift buf)) (omega arith) in
      rw e (take-append-le n (drop at body) (drop len (drop shift buf)) (rw (length-drop at body) (omega arith)))

  content_moved : (b : Block) → Proper (take len (drop shift buf)) b → content_of buf (moved shift b) ≡ content_of (take len (drop shift buf)) b
  unfolding moved content_of
  content_moved null i = refl
  content_moved (integer v) i = refl
  content_moved (real float bits) i = refl
  content_moved (bool b) i = refl
  content_moved (text at n) i = rw (part_moved at n i.0)
  content_moved (vector at dim) i = rw (part_moved at (4 * dim) i)

  module _ (h : shift + len ≤ length buf) where
    body_length : length (take len (drop shift buf)) ≡ len
    body_length = part_length len shift buf h

    proper_moved : (b : Block) → Proper (take len (drop shift buf)) b → Proper buf (moved shift b)
    unfolding moved
    proper_moved null i = tt
    proper_moved (integer v) i = tt
    proper_moved (real float bits) i = i
    proper_moved (bool b) i = tt
    proper_moved (text at n) i = (omega (arith, i.0, body_length), rw (part_moved at n i.0) i.1)
    proper_moved (vector at dim) i = omega (arith, i, body_length)

-- what the answer holds, taken from the caller's slice, is what its block holds in the body
pub column_holds : (buf : List ℕ) (pos : ℕ) {start len size : ℕ} {rowid : ℤ} {bs : List Block} → framed (drop pos buf) ≡ gives (start, len)
    → cell_from (drop pos buf) ≡ gives ((rowid, bs), size)
    → (column : ℕ) → content_of buf (moved (pos + start) (nth bs column)) ≡ content_of (body_at (drop pos buf) start len) (nth bs column)
column_holds buf pos {start} {len} {bs = bs} f e column =
    let d : drop (pos + start) buf ≡ drop start (drop pos buf) = sym (drop-drop start pos buf) in
    let i : Proper (take len (drop (pos + start) buf)) (nth bs column) = rw d (body_proper _ (body_read buf pos f e) column) in
    content_moved buf (pos + start) len (nth bs column) i ∙ ap (λ (s : List ℕ). content_of (take len s) (nth bs column)) d

-- ---- what is answered
module _ (buf : List ℕ) (pos column : ℕ) where
  answer_proper : {b : Block} → value_at buf pos column ≡ gives b → Proper buf b
  answer_proper e =
      let w = comes_from buf pos column e in
      let f : w.start + w.len ≤ length buf - pos = rw (length-drop pos buf) at (framing (drop pos buf) w.frame).inside in
      let o : 1 ≤ w.start = (framing (drop pos buf) w.frame).some in
      let d : body_at (drop pos buf) w.start w.len ≡ take w.len (drop (pos + w.start) buf) = rw (drop-drop w.start pos buf) in
      let i : Proper (take w.len (drop (pos + w.start) buf)) (nth w.blocks column)
      = rw (← d) (body_proper (body_at (drop pos buf) w.start w.len) w.read column) in
      rw (← w.is) (proper_moved buf (pos + w.start) w.len (omega arith) (nth w.blocks column) i)

  -- a text lies inside the caller's slice
  pub text_in_slice : {place len : ℕ} → value_at buf pos column ≡ gives (text place len) → place + len ≤ length buf
  text_in_slice e = (answer_proper e).0

  -- and is well-formed UTF-8
  pub text_well_formed : {place len : ℕ} → value_at buf pos column ≡ gives (text place len) → well_formed (take len (drop place buf)) ≡ true
  text_well_formed e = (answer_proper e).1

  -- a vector lies inside the caller's slice, four bytes to each dimension
  pub vector_in_slice : {place dim : ℕ} → value_at buf pos column ≡ gives (vector place dim) → place + 4 * dim ≤ length buf
  vector_in_slice e = answer_proper e

  -- a float is that of its pattern
  pub real_by_pattern : {float : Float} {bits : ℕ} → value_at buf pos column ≡ gives (real float bits) → float ≡ of_bits binary64 bits
  real_by_pattern e = answer_proper e
