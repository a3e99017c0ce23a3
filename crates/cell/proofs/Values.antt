-- A value by its column: the value of a block, the block of a column, and the entry around it.
-- Assumes nothing.
use Rattle.std.specs.Prelude.{Result, Ok, Err, IsOk}
use Rattle.std.proofs.Common.{◌≡◌, ℕ, zero, suc, ◌+◌, ◌-◌, ◌/◌, ◌^◌, ◌<◌, ◌≤◌, Bool, true, false, not, eqb, ltb, w64, Fits, List, length, get_or, take, drop, drop_of_length-le, ℤ, sym, refl, ap, ◌∙◌, add-zero, zero-add, arith, length-drop, ltb-false, ltb-true, le-ltb, lt-ltb}
use lib.Ieee.{Float, of_bits, binary64}
use Rattle.std.proofs.lemmas.List.{take_rest}
use Rattle.paper.specs.Answer.{Answer, gives, refuses, answer_of, and_then, pick}
use Rattle.paper.specs.declared.Refusal.{Refusal}
use Rattle.paper.proofs.Laws.{gives_one, gives_refuses, first}
use Rattle.field.specs.Field.{le}
use Rattle.field.proofs.Laws.{le_drop}
use Rattle.varint.specs.Leb.{read_u64, read_from, taken}
use Rattle.varint.specs.Number.{read_as, read_i64}
use Rattle.varint.specs.Zigzag.{unzigzag}
use Rattle.varint.proofs.Places.{read_as_i64}
use Rattle.utf8.specs.WellFormed.{check_at}
use Rattle.utf8.proofs.Laws.{gives_inside}
use Rattle.cell.specs.Tag.{Tagged, tag_byte}
use Rattle.cell.specs.declared.tag.Tag.{Tag}
use Rattle.cell.specs.Entry.{framed}
use Rattle.cell.specs.Block.{Block, null, integer, real, bool, text, vector, block, block_of, columns, is_null, bitmap_bytes}
use Rattle.cell.specs.Local.{moved, nth, value_from, value_at}
use Rattle.cell.specs.Words.{counted, column_end, columns_end}
use Rattle.cell.specs.Framing.{FrameAt}
use Rattle.cell.specs.LocalRead.{AllRead, ReadsToEnd}
use Rattle.cell.specs.ByColumn.{read_or, block_at, column_at, HasBlock, HasColumn}
use Rattle.cell.specs.declared.inner.columns.Columns.{Columns}
use Rattle.cell.specs.declared.inner.framing.Framed.{Framed}
use Rattle.cell.specs.declared.inner.Local.{Local}
use Rattle.cell.proofs.Accepting.{not_refused, not_other, then_gave}
use Rattle.cell.proofs.Blocks.{counted_inside, unknown}
use Rattle.cell.proofs.Columns.{reading, first_of, columns_step}
use Rattle.cell.proofs.Heads.{columns_length}

-- ---- the value of a block

-- an answer of the code that stands for one that gives something is no refusal
answer_ok : {A : Type 0} {a : A} (r : Result A Refusal) {q : Answer A} → answer_of r ≡ q → gives a ≡ q → IsOk r
answer_ok (Ok x) e g = refl
answer_ok (Err k) e g = absurd (gives_refuses (g ∙ sym e))

answer_is : {A : Type 0} {r : Result A Refusal} {a : A} {q : Answer A} → answer_of r ≡ q → r ≡ Ok a → gives a ≡ q
answer_is e d = rw d at e

pub tag_read : {t : ℕ} {r : Result Tag Refusal} {tag : Tag} → Tagged t r → r ≡ Ok tag → t ≡ tag_byte tag
tag_read w d = rw d at w

tagged_ok : {t : ℕ} (r : Result Tag Refusal) → Tagged t r → t ≤ 4 → IsOk r
tagged_ok (Ok tag) w l = refl
tagged_ok (Err k) w l = absurd (omega (arith, w.1))

counted_by : (unit : ℕ) (body : List ℕ) (at : ℕ) {v n : ℕ} → read_u64 body at ≡ gives (v, n) → v ≤ (length body - (at + n)) / unit
    → gives (at + n, v) ≡ counted unit body at
unfolding and_then pick
counted_by unit body at {v} {n} e l = rw (e, le-ltb ((length body - (at + n)) / unit) v l)

-- what was read behind a tag, and the block that it makes
record Made {A : Type 0} (q : Answer A) (make : A → Block) (block : Block) : Type 0 where
  pair : A
  found : gives pair ≡ q
  is : make pair ≡ block

made : {A : Type 0} {q : Answer A} {make : A → Block} {block : Block} → Made q make block → {p : A} → gives p ≡ q → make p ≡ block
made {make = make} w e = ap make (gives_one (e ∙ sym w.found)) ∙ w.is

block_here : (body : List ℕ) (at : ℕ) {b : Block} {end : ℕ} → gives (b, end) ≡ block body at → at < length body
unfolding block pick
block_here body at g = let (t, f) = not_other (ltb at (length body)) 7 _ (sym g) in ltb-true at (length body) t

module _ (body : List ℕ) (at : ℕ) (b : HasBlock body at) where
  tag_is : {k : ℕ} → get_or body at 0 ≡ k → block_of k body (at + 1) ≡ gives (b.value, b.end)
  unfolding block pick
  tag_is e = let h : at < length body = b.here in rw (lt-ltb at (length body) h, e) at (sym b.read)

  tag_known : get_or body at 0 ≤ 4
  tag_known = by (ltb 4 (get_or body at 0)) refl
    where
      by : (t : Bool) → ltb 4 (get_or body at 0) ≡ t → get_or body at 0 ≤ 4
      by true t =
          let l : 4 < get_or body at 0 = ltb-true 4 (get_or body at 0) t in
          absurd (gives_refuses (sym (tag_is refl) ∙ unknown (get_or body at 0) body (at + 1) l))
      by false t = ltb-false 4 (get_or body at 0) t

  integer_made : get_or body at 0 ≡ 0 → Made (read_as unzigzag body (at + 1)) (λ p. integer p.0) b.value
  unfolding block_of pick
  integer_made e =
      let (v, v-is, v-then) = then_gave (read_i64 body (at + 1)) _ (tag_is e) in
      record { pair = v; found = sym (read_as_i64 body (at + 1) ∙ v-is); is = ap first (gives_one v-then) }

  real_room : get_or body at 0 ≡ 1 → 8 ≤ length body - (at + 1)
  unfolding block_of pick
  real_room e =
      let (t, g) = not_refused (ltb (length body - (at + 1)) 8) 7 _ (tag_is e) in
      ltb-false (length body - (at + 1)) 8 t

  real_is : get_or body at 0 ≡ 1 → real (of_bits binary64 (le 8 (at + 1) body)) (le 8 (at + 1) body) ≡ b.value
  unfolding block_of pick
  real_is e =
      let (t, g) = not_refused (ltb (length body - (at + 1)) 8) 7 _ (tag_is e) in
      ap first (gives_one g)

  text_made : get_or body at 0 ≡ 2 → Made (counted 1 body (at + 1)) (λ p. text p.0 p.1) b.value
  unfolding block_of pick
  text_made e =
      let (v, v-is, v-then) = then_gave (read_u64 body (at + 1)) _ (tag_is e) in
      let (w, w-is, w-then) = then_gave (check_at body (at + 1 + v.1) v.0) _ v-then in
      let l : at + 1 + v.1 + v.0 ≤ length body = gives_inside body (at + 1 + v.1) v.0 w-is in
      record { pair = (at + 1 + v.1, v.0); found = counted_by 1 body (at + 1) v-is (omega arith); is = ap first (gives_one w-then) }

  bool_there : get_or body at 0 ≡ 3 → at + 1 < length body
  unfolding block_of pick
  bool_there e = let (t, g) = not_other (ltb (at + 1) (length body)) 7 _ (tag_is e) in ltb-true (at + 1) (length body) t

  bool_is : get_or body at 0 ≡ 3 → bool (not (eqb (get_or body (at + 1) 0) 0)) ≡ b.value
  unfolding block_of pick
  bool_is e = let (t, g) = not_other (ltb (at + 1) (length body)) 7 _ (tag_is e) in ap first (gives_one g)

  vector_made : get_or body at 0 ≡ 4 → Made (counted 4 body (at + 1)) (λ p. vector p.0 p.1) b.value
  unfolding block_of pick
  vector_made e =
      let (v, v-is, v-then) = then_gave (read_u64 body (at + 1)) _ (tag_is e) in
      let (t, g) = not_refused (ltb ((length body - (at + 1 + v.1)) / 4) v.0) 7 _ v-then in
      let l : v.0 ≤ (length body - (at + 1 + v.1)) / 4 = ltb-false ((length body - (at + 1 + v.1)) / 4) v.0 t in
      record { pair = (at + 1 + v.1, v.0); found = counted_by 4 body (at + 1) v-is l; is = ap first (gives_one g) }

  -- so none of the code's steps refuses
  pub tag_ok : (r : Result Tag Refusal) → Tagged (get_or body at 0) r → IsOk r
  tag_ok r w = tagged_ok r w tag_known

  pub integer_ok : get_or body at 0 ≡ 0 → (r : Result (ℤ × ℕ) Refusal) → answer_of r ≡ read_as unzigzag body (at + 1) → IsOk r
  integer_ok e r a = answer_ok r a (integer_made e).found

  pub text_ok : get_or body at 0 ≡ 2 → (r : Result (ℕ × ℕ) Refusal) → answer_of r ≡ counted 1 body (at + 1) → IsOk r
  text_ok e r a = answer_ok r a (text_made e).found

  pub vector_ok : get_or body at 0 ≡ 4 → (r : Result (ℕ × ℕ) Refusal) → answer_of r ≡ counted 4 body (at + 1) → IsOk r
  vector_ok e r a = answer_ok r a (vector_made e).found

-- the same in the code's words, in the caller's slice
module _ (body : List ℕ) (at shift : ℕ) (b : HasBlock body at) where
  block_is : {x : Block} → x ≡ b.value → moved shift (block_at body at) ≡ moved shift x
  unfolding block_at read_or
  block_is e = rw (← b.read, e)

  pub integer_value : get_or body at 0 ≡ 0 → (r : Result (ℤ × ℕ) Refusal) → answer_of r ≡ read_as unzigzag body (at + 1)
      → {z : ℤ} {p : ℤ × ℕ} → r ≡ Ok p → z ≡ p.0 → integer z ≡ moved shift (block_at body at)
  unfolding moved
  integer_value e r a d f = rw (block_is (made (integer_made body at b e) (answer_is a d)), f)

  module _ (e : get_or body at 0 ≡ 1) where
    pub real_inside : 8 ≤ length (take (length body - (at + 1)) (drop (at + 1) body))
    real_inside = rw (take_rest body (at + 1), length-drop (at + 1) body) (real_room body at b e)

    pub real_value : {float : Float} {bits : ℕ} → bits ≡ le 8 0 (take (length body - (at + 1)) (drop (at + 1) body)) → float ≡ of_bits binary64 bits
        → real float bits ≡ moved shift (block_at body at)
    unfolding moved
    real_value {bits = bits} d q =
        let p : bits ≡ le 8 (at + 1) body = d ∙ ap (le 8 0) (take_rest body (at + 1)) ∙ le_drop 8 0 (at + 1) body ∙ ap (λ (i : ℕ). le 8 i body) (add-zero (at + 1)) in
        rw (q, block_is (real_is body at b e), p)

  module _ (e : get_or body at 0 ≡ 2) (r : Result (ℕ × ℕ) Refusal) (a : answer_of r ≡ counted 1 body (at + 1)) {p : ℕ × ℕ} (d : r ≡ Ok p) where
    pub text_place : shift + length body < 2 ^ 63 → Fits w64 (shift + p.0)
    text_place l = let i = counted_inside 1 body (at + 1) (answer_is a d) in record { fits = omega arith }

    pub text_value : text (shift + p.0) p.1 ≡ moved shift (block_at body at)
    unfolding moved
    text_value = rw (block_is (made (text_made body at b e) (answer_is a d)))

  module _ (e : get_or body at 0 ≡ 3) where
    pub bool_here : at + 1 < length body
    bool_here = bool_there body at b e

    pub bool_value : bool (not (eqb (get_or body (at + 1) 0) 0)) ≡ moved shift (block_at body at)
    unfolding moved
    bool_value = rw (block_is (bool_is body at b e))

  module _ (e : get_or body at 0 ≡ 4) (r : Result (ℕ × ℕ) Refusal) (a : answer_of r ≡ counted 4 body (at + 1)) {p : ℕ × ℕ} (d : r ≡ Ok p) where
    pub vector_place : shift + length body < 2 ^ 63 → Fits w64 (shift + p.0)
    vector_place l = let i = counted_inside 4 body (at + 1) (answer_is a d) in record { fits = omega arith }

    pub vector_value : vector (shift + p.0) p.1 ≡ moved shift (block_at body at)
    unfolding moved
    vector_value = rw (block_is (made (vector_made body at b e) (answer_is a d)))

-- ---- the block of a column

-- where column i from column c on stands, and that b stands there
pub record Located (i c map : ℕ) (body : List ℕ) (at : ℕ) (b : Block) : Type 0 where
  pub place : ℕ
  pub next : ℕ
  pub reached : gives place ≡ columns_end i c map body at
  pub read : gives (b, next) ≡ reading (c + i) map body place

pub located : (i n c map : ℕ) (body : List ℕ) (at : ℕ) {bs : List Block} {end : ℕ} → gives (bs, end) ≡ columns n c map body at → i < n
    → Located i c map body at (nth bs i)
unfolding columns columns_end column_end and_then nth
located i zero c map body at g l = absurd (omega arith)
located zero (suc n) c map body at g l =
    let f = first_of n c map body at g in
    rw (← f.parts) (record { place = at; next = f.next; reached = refl; read = rw (add-zero c) f.read })
located (suc i) (suc n) c map body at g l =
    let f = first_of n c map body at g in
    let r = located i n (c + 1) map body f.next f.more (omega arith) in
    let e : c + suc i ≡ c + 1 + i = omega arith in
    rw (← f.parts)
    (record {
      place = r.place;
      next = r.next;
      reached = rw (columns_step i c map body at, ← f.read) r.reached;
      read = rw e r.read;
    })

column_is : (c : Columns) (column : ℕ) (all : AllRead c) → nth all.blocks column ≡ column_at c column
unfolding column_at read_or
column_is c column all = rw (← all.read)

module _ (c : Columns) (column : ℕ) (h : HasColumn c column) where
  here : Located column 0 c.map c.body.now (c.map + bitmap_bytes c.count) (nth h.all.blocks column)
  here = located column c.count 0 c.map c.body.now (c.map + bitmap_bytes c.count) h.all.read h.one

  pub null_value : is_null c.body.now c.map column ≡ true → (shift : ℕ) → null ≡ moved shift (column_at c column)
  unfolding moved pick
  null_value e shift =
      let p : nth h.all.blocks column ≡ null = ap first (gives_one (rw (zero-add column, e) at here.read)) in
      rw (← column_is c column h.all, p)

  -- the walk reached the column's block
  module _ (r : Result ℕ Refusal) (a : answer_of r ≡ columns_end column 0 c.map c.body.now (c.map + bitmap_bytes c.count)) where
    pub walk_ok : IsOk r
    walk_ok = answer_ok r a here.reached

    module _ {at : ℕ} (d : r ≡ Ok at) (e : is_null c.body.now c.map column ≡ false) where
      there : gives (nth h.all.blocks column, here.next) ≡ block c.body.now at
      unfolding pick
      there =
          let w : here.place ≡ at = gives_one (here.reached ∙ sym (answer_is a d)) in
          rw (zero-add column, e, w) at here.read

      pub block_there : HasBlock c.body.now at
      block_there = record { here = block_here c.body.now at there; value = nth h.all.blocks column; end = here.next; read = there }

      pub block_value : (shift : ℕ) {x : Block} → x ≡ moved shift (block_at c.body.now at) → x ≡ moved shift (column_at c column)
      unfolding block_at read_or
      block_value shift p = rw (← column_is c column h.all) (rw (← there) at p)

-- ---- the entry at the start of a list, which is place pos of the caller's slice
module _ (s : List ℕ) (pos column : ℕ) {f : Framed} {l : Local} (w : FrameAt s f) (r : ReadsToEnd (take (f.end - f.at) (drop f.at s)) l) where
  decides : value_from s pos column ≡ pick (ltb column l.columns.count) (gives (moved (pos + f.at) (column_at l.columns column))) (refuses 12)
  unfolding value_from and_then
  decides =
      let n : length r.all.blocks ≡ l.columns.count = columns_length l.columns.count 0 l.columns.map _ _ r.all.read in
      rw (← w.given, ← r.same, n, column_is l.columns column r.all)

  pub value_above : l.columns.count ≤ column → refuses 12 ≡ value_from s pos column
  unfolding pick
  value_above h = rw (decides, le-ltb column l.columns.count h)

  pub value_given : {b : Block} → column < l.columns.count → b ≡ moved (pos + f.at) (column_at l.columns column) → gives b ≡ value_from s pos column
  unfolding pick
  value_given h e = rw (decides, lt-ltb column l.columns.count h, e)

pub column_of : {body : List ℕ} {l : Local} {column : ℕ} → ReadsToEnd body l → column < l.columns.count → HasColumn l.columns column
column_of r h = record { all = r.all; one = h }

-- ---- at a place
module _ (buf : List ℕ) (pos column : ℕ) where
  pub value_past : length buf ≤ pos → value_at buf pos column ≡ refuses 1
  unfolding value_at value_from framed and_then read_from taken
  value_past l = rw (drop_of_length-le buf l)

  pub value_there : value_at buf pos column ≡ value_from (take (length buf - pos) (drop pos buf)) pos column
  unfolding value_at
  value_there = ap (λ (s : List ℕ). value_from s pos column) (sym (take_rest buf pos))

pub ruleset values = (
  tag_ok,
  integer_ok,
  integer_value,
  real_inside,
  real_value,
  text_ok,
  text_place,
  text_value,
  bool_here,
  bool_value,
  vector_ok,
  vector_place,
  vector_value,
  null_value,
  walk_ok,
  block_there,
  block_value,
  column_of,
  value_above,
  value_given,
  value_past,
  value_there,
)
