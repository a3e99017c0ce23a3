-- An entry that was read and accepted, written again, is the same bytes where it is plain, and only there. So the bytes differ just where
-- a longer varint, a bit above 2 ^ 63 in a varint's tenth byte, a Bool byte above 1 or a spare bit was read.
-- Assumes nothing.
use Rattle.std.proofs.Common.{◌≡◌, ℕ, zero, suc, ◌+◌, ◌-◌, ◌*◌, ◌/◌, ◌%◌, ◌^◌, ◌<◌, ◌≤◌, Bool, true, false, not, eqb, ltb, leb, List, [], ◌∷◌, ◌++◌, map, length, get_or, take, drop, replicate, ℤ, sym, refl, ap, ◌∙◌, append_assoc, append-nil, add-zero, zero-add, div-one, arith, length-append, length-drop, take-append-drop, length-take-le, get_or-drop, drop-cons, get_or-take, drop-drop, take_at, shr-shr, shr_lt, w64, SFits, ltb-false, ltb-true, lt-ltb, eqb-true, leb-true}
use lib.Ieee.{of_bits, binary64}
use lib.ListN.{length-map, get_or-append, get_or-eq_default}
use lib.Seq.{drop-length, take-nil}
use borrow.Author.Tests.{eqb-false}
use Rattle.paper.specs.Answer.{Answer, gives, refuses, and_then, pick}
use Rattle.paper.proofs.Laws.{gives_one, gives_refuses, second}
use Rattle.field.specs.Field.{le, bytes}
use Rattle.field.proofs.Laws.{bytes_le}
use Rattle.varint.specs.Leb.{taken, sum_from, read_from, read_u64, groups, leb_bytes, len_u64}
use Rattle.varint.specs.Number.{read_i64}
use Rattle.varint.specs.Standard.{Bytes, Leb128}
use Rattle.varint.specs.Zigzag.{zigzag, unzigzag}
use Rattle.varint.proofs.Laws.{read_is}
use Rattle.varint.proofs.Standard.{read_sequence, written_sequence, same_length_same, exact_below_ten, exact_tenth}
use Rattle.varint.proofs.Zigzag.{forth, unsigned_fits}
use Rattle.utf8.specs.WellFormed.{check_text, check_at}
use Rattle.cell.specs.Block.{Block, null, integer, real, bool, text, vector, block, block_of, is_null, bitmap_bytes, columns}
use Rattle.cell.specs.Content.{Content, none, whole, float, truth, letters, floats, content_of}
use Rattle.cell.specs.Entry.{framed, body_at, entry, with_length}
use Rattle.cell.specs.Local.{blocks_at, row_of, local_body, cell_from}
use Rattle.cell.specs.Plain.{Shortest, PlainNumber, PlainBlock, PlainColumns, SpareClear, PlainBody, PlainEntry, Plain}
use Rattle.cell.specs.Written.{block_bytes, blocks_bytes, null_bit, null_bits, bitmap, body_bytes, entry_bytes}
use Rattle.cell.proofs.Blocks.{read_inside, unknown}
use Rattle.cell.proofs.Lengths.{bitmap_length}
use Rattle.cell.proofs.Listed.{Sound, AllSound}
use Rattle.cell.proofs.Nulls.{one_bit}
use Rattle.cell.proofs.ReadWritten.{ShortRow, FineRow, body_fine, bytes_take, part_most, framed_fits}
use Rattle.cell.proofs.Reread.{Stands, Nulled, stands_first, stands_second, stands_head, stands_tail, stands_number, bit_small, byte_at, nulled_from, column_read}
use Rattle.cell.proofs.Whole.{part_length, Framing, framing, written_body}
use Rattle.cell.proofs.WrittenRead.{byte_below, bytes_drop}

-- ---- bytes that fill a list from a place up to the next
pub record Fills (s : List ℕ) (at : ℕ) (a : List ℕ) (next : ℕ) : Type 0 where
  pub is : drop at s ≡ a ++ drop next s

pub fills_both : {s a b : List ℕ} {i j k : ℕ} → Fills s i a j → Fills s j b k → Fills s i (a ++ b) k
fills_both {s} {a} {b} {k = k} v w = record { is = v.is ∙ ap (λ (l : List ℕ). a ++ l) w.is ∙ sym (append_assoc a b (drop k s)) }

pub fills_byte : (s : List ℕ) (at : ℕ) {x : ℕ} → at < length s → get_or s at 0 ≡ x → Fills s at (x ∷ []) (at + 1)
fills_byte s at {x} l e =
    let n : suc at ≡ at + 1 = omega arith in
    record { is = drop-cons s at 0 l ∙ rw (e, n) refl }

-- any part is filled by its own bytes
pub fills_part : (s : List ℕ) (at n : ℕ) → Fills s at (take n (drop at s)) (at + n)
fills_part s at n = record { is = rw (← drop-drop n at s) (sym (take-append-drop n (drop at s))) }

-- ---- a number in its shortest form is as it would be written
exact : {bytes : List ℕ} {m : ℕ} → Leb128 bytes m → length bytes ≤ 10 → (length bytes ≡ 10 → get_or bytes 9 0 ≤ 1) → m % 2 ^ 64 ≡ m
exact {bytes} {m} q l t = by (eqb (length bytes) 10) refl
  where
    by : (b : Bool) → eqb (length bytes) 10 ≡ b → m % 2 ^ 64 ≡ m
    by true e = let h : length bytes ≡ 10 = eqb-true (length bytes) 10 e in exact_tenth q h (t h)
    by false e = let h = eqb-false (length bytes) 10 e in exact_below_ten q (omega (arith, h))

pub number_fills : (s : List ℕ) (at : ℕ) {v n : ℕ} → Bytes s → read_u64 s at ≡ gives (v, n) → PlainNumber s at → Fills s at (leb_bytes v) (at + n)
unfolding read_u64
number_fills s at {v} {n} b e p =
    let c : Shortest s at v n = p (v, n) e in
    let w = read_is (drop at s) e in
    let q = read_sequence (drop at s) (bytes_drop at s b) e in
    let k : length (take n (drop at s)) ≡ n = length-take-le n (drop at s) w.inside in
    let t : length (take n (drop at s)) ≡ 10 → get_or (take n (drop at s)) 9 0 ≤ 1
    = λ h. let z : n ≡ 10 = omega arith in
    let y : 9 < n = omega arith in
    rw (get_or-take n (drop at s) 9 0 y, get_or-drop at s 9 0) (c.tenth z) in
    let x : q.value % 2 ^ 64 ≡ q.value = exact q.sequence (rw k w.most) t in
    let h : take n (drop at s) ≡ leb_bytes v
    = same_length_same q.sequence (written_sequence v w.fits) (sym (q.modulo ∙ x)) (k ∙ c.taken) in
    rw h at (fills_part s at n)

-- The tenth byte is a case of its own: of these ten bytes none is too many, and the last is written otherwise.
pub tenth_differs : (read_from (replicate 9 128 ++ 3 ∷ []) ≡ gives (2 ^ 63, 10)) × (leb_bytes (2 ^ 63) ≡ replicate 9 128 ++ 1 ∷ [])
unfolding read_from taken sum_from and_then pick leb_bytes groups
tenth_differs = (refl, refl)

-- ---- a field of n bytes is those bytes
pub field_fills : (n at : ℕ) (s : List ℕ) → Bytes s → at + n ≤ length s → Fills s at (bytes n (le n at s)) (at + n)
field_fills n at s b l = rw (bytes_le n at s (λ i. byte_below s i b) l) (fills_part s at n)

-- ---- one value block: its bytes, and its bit in the bitmap
abbrev SameBlock : List ℕ → ℕ → ℕ → Answer (Block × ℕ) → Type 0
SameBlock body at bit (gives (b, next)) = Fills body at (block_bytes (content_of body b)) next × (null_bit (content_of body b) ≡ bit)
SameBlock body at bit (refuses k) = Unit {0}

-- a Bool byte that is 0 or 1 is as it would be written
byte_back : (x : ℕ) → x ≤ 1 → x ≡ pick (not (eqb x 0)) 1 0
unfolding pick
byte_back zero l = refl
byte_back (suc zero) l = refl
byte_back (suc (suc x)) l = absurd (omega arith)

module _ (body : List ℕ) (at : ℕ) (b : Bytes body) (inside : at < length body) (p : PlainBlock body at) where
  -- what stands behind the tag
  tagged_fills : {tag next : ℕ} {a : List ℕ} → get_or body at 0 ≡ tag → Fills body (at + 1) a next → Fills body at (tag ∷ a) next
  tagged_fills e w = fills_both (fills_byte body at inside e) w

  integer_same : get_or body at 0 ≡ 0 → (a : Answer (ℕ × ℕ)) → read_u64 body (at + 1) ≡ a
      → SameBlock body at 0 (and_then (and_then a (λ (u, n). gives (unzigzag u, n))) (λ (v, n). gives (integer v, at + 1 + n)))
  unfolding and_then content_of block_bytes null_bit
  integer_same t (refuses k) e = tt
  integer_same t (gives (u, n)) e = rw (forth u) (tagged_fills t (number_fills body (at + 1) b e (p.integer t)), refl)

  real_same : get_or body at 0 ≡ 1 → (t : Bool) → ltb (length body - (at + 1)) 8 ≡ t
      → SameBlock body at 0 (pick t (refuses 7) (gives (real (of_bits binary64 (le 8 (at + 1) body)) (le 8 (at + 1) body), at + 1 + 8)))
  unfolding pick content_of block_bytes null_bit
  real_same t true e = tt
  real_same t false e =
      let l : 8 ≤ length body - (at + 1) = ltb-false (length body - (at + 1)) 8 e in
      (tagged_fills t (field_fills 8 (at + 1) body b (omega arith)), refl)

  bool_same : get_or body at 0 ≡ 3 → (t : Bool) → ltb (at + 1) (length body) ≡ t
      → SameBlock body at 0 (pick t (gives (bool (not (eqb (get_or body (at + 1) 0) 0)), at + 1 + 1)) (refuses 7))
  unfolding content_of block_bytes null_bit pick
  bool_same t true e =
      (tagged_fills t (fills_byte body (at + 1) (ltb-true (at + 1) (length body) e) (byte_back (get_or body (at + 1) 0) (p.bool t))), refl)
  bool_same t false e = tt

  text_same : get_or body at 0 ≡ 2 → (a : Answer (ℕ × ℕ)) → read_u64 body (at + 1) ≡ a
      → SameBlock body at 0 (and_then a (λ (len, n). and_then (check_at body (at + 1 + n) len) (λ _. gives (text (at + 1 + n) len, at + 1 + n + len))))
  unfolding and_then check_at pick content_of block_bytes null_bit
  text_same t (refuses k) e = tt
  text_same t (gives (len, n)) e =
      by (leb (at + 1 + n + len) (length body)) refl (check_text (take len (drop (at + 1 + n) body)))
    where
      by : (u : Bool) → leb (at + 1 + n + len) (length body) ≡ u → (a : Answer (Unit {0}))
          → SameBlock body at 0 (and_then (pick u a (refuses 7)) (λ _. gives (text (at + 1 + n) len, at + 1 + n + len)))
      by false f a = tt
      by true f (refuses k) = tt
      by true f (gives u) =
          let i : at + 1 + n + len ≤ length body = leb-true (at + 1 + n + len) (length body) f in
          let k : length (take len (drop (at + 1 + n) body)) ≡ len = part_length len (at + 1 + n) body i in
          rw k (tagged_fills t (fills_both (number_fills body (at + 1) b e (p.text t)) (fills_part body (at + 1 + n) len)), refl)

  vector_same : get_or body at 0 ≡ 4 → (a : Answer (ℕ × ℕ)) → read_u64 body (at + 1) ≡ a
      → SameBlock body at 0 (and_then a (λ (dim, n). pick (ltb ((length body - (at + 1 + n)) / 4) dim) (refuses 7) (gives (vector (at + 1 + n) dim, at + 1 + n + 4 * dim))))
  unfolding and_then pick content_of block_bytes null_bit
  vector_same t (refuses k) e = tt
  vector_same t (gives (dim, n)) e = by (ltb ((length body - (at + 1 + n)) / 4) dim) refl
    where
      by : (u : Bool) → ltb ((length body - (at + 1 + n)) / 4) dim ≡ u
          → SameBlock body at 0 (pick u (refuses 7) (gives (vector (at + 1 + n) dim, at + 1 + n + 4 * dim)))
      by true f = tt
      by false f =
          let i : dim ≤ (length body - (at + 1 + n)) / 4 = ltb-false ((length body - (at + 1 + n)) / 4) dim f in
          let k : length (take (4 * dim) (drop (at + 1 + n) body)) ≡ 4 * dim = part_length (4 * dim) (at + 1 + n) body (omega (arith, read_inside body (at + 1) e)) in
          let d : 4 * dim / 4 ≡ dim = omega arith in
          rw (k, d) (tagged_fills t (fills_both (number_fills body (at + 1) b e (p.vector t)) (fills_part body (at + 1 + n) (4 * dim))), refl)

  tag_same : (tag : ℕ) → get_or body at 0 ≡ tag → SameBlock body at 0 (block_of tag body (at + 1))
  unfolding block_of read_i64 pick
  tag_same zero t = integer_same t (read_u64 body (at + 1)) refl
  tag_same (suc zero) t = real_same t (ltb (length body - (at + 1)) 8) refl
  tag_same (suc (suc zero)) t = text_same t (read_u64 body (at + 1)) refl
  tag_same (suc (suc (suc zero))) t = bool_same t (ltb (at + 1) (length body)) refl
  tag_same (suc (suc (suc (suc zero)))) t = vector_same t (read_u64 body (at + 1)) refl
  tag_same (suc (suc (suc (suc (suc tag))))) t = rw (unknown (suc (suc (suc (suc (suc tag))))) body (at + 1) (omega arith)) tt

module _ (body : List ℕ) (at : ℕ) (b : Bytes body) where
  block_same : PlainBlock body at → SameBlock body at 0 (block body at)
  unfolding block pick
  block_same p = by (ltb at (length body)) refl
    where
      by : (t : Bool) → ltb at (length body) ≡ t → SameBlock body at 0 (pick t (block_of (get_or body at 0) body (at + 1)) (refuses 7))
      by true e = tag_same body at b (ltb-true at (length body) e) p (get_or body at 0) refl
      by false e = tt

  column_same : (t : Bool) → (t ≡ false → PlainBlock body at) → SameBlock body at (pick t 1 0) (pick t (gives (null, at)) (block body at))
  unfolding pick content_of block_bytes null_bit
  column_same true p = (record { is = refl }, refl)
  column_same false p = block_same (p refl)

-- ---- the columns
record SameAll (body : List ℕ) (place n column at : ℕ) (bs : List Block) (end : ℕ) : Type 0 where
  pub fills : Fills body at (blocks_bytes (map (content_of body) bs)) end
  pub count : length bs ≡ n
  pub nulled : Nulled body place column (map (content_of body) bs)

abbrev SameColumns : List ℕ → ℕ → ℕ → ℕ → ℕ → Answer (List Block × ℕ) → Type 0
SameColumns body place n column at (gives (bs, end)) = SameAll body place n column at bs end
SameColumns body place n column at (refuses k) = Unit {0}

bit_told : (t : Bool) → t ≡ eqb (pick t 1 0) 1
unfolding pick
bit_told true = refl
bit_told false = refl

module _ (body : List ℕ) (place : ℕ) (b : Bytes body) where
  columns_same : (n column at : ℕ) → PlainColumns n column place body at → SameColumns body place n column at (columns n column place body at)
  unfolding columns and_then blocks_bytes PlainColumns
  columns_same zero column at p = record { fills = record { is = refl }; count = refl; nulled = tt }
  columns_same (suc n) column at p =
      by (pick (is_null body place column) (gives (null, at)) (block body at)) refl (column_same body at b (is_null body place column) p.0)
      (λ next. columns_same n (column + 1) next)
    where
      joined : (x : Block) (next : ℕ) → SameBlock body at (pick (is_null body place column) 1 0) (gives (x, next)) → (a : Answer (List Block × ℕ))
          → SameColumns body place n (column + 1) next a
          → SameColumns body place (suc n) column at (and_then a (λ (bs, end). gives (x ∷ bs, end)))
      joined x next w (refuses k) v = tt
      joined x next w (gives (bs, end)) v =
          record {
            fills = fills_both w.0 v.fills;
            count = ap suc v.count;
            nulled = (rw w.1 (bit_told (is_null body place column)), v.nulled);
          }

      by : (a : Answer (Block × ℕ)) → pick (is_null body place column) (gives (null, at)) (block body at) ≡ a
          → SameBlock body at (pick (is_null body place column) 1 0) a
          → ((next : ℕ) → PlainColumns n (column + 1) place body next → SameColumns body place n (column + 1) next (columns n (column + 1) place body next))
          → SameColumns body place (suc n) column at (and_then a (λ (x, next). and_then (columns n (column + 1) place body next) (λ (bs, end). gives (x ∷ bs, end))))
      by (refuses k) e w ih = tt
      by (gives (x, next)) e w ih = joined x next w (columns n (column + 1) place body next) (ih next (p.1 (x, next) e))

-- ---- the bitmap: bits that are the same make the same byte, and bytes the same bitmap

-- what stands past the last column counts as no null
abbrev bit_of : List Content → ℕ → ℕ
bit_of cs c = null_bit (get_or cs c (truth false))

bits_step : (k : ℕ) (cs : List Content) → null_bits (take (suc k) cs) ≡ bit_of cs 0 + 2 * null_bits (take k (drop 1 cs))
unfolding null_bits null_bit
bits_step k [] = rw (take-nil {A = Content} k)
bits_step k (c ∷ cs) = refl

bits_same : (k x : ℕ) (cs : List Content) → x < 2 ^ k → ((j : ℕ) → j < k → x / 2 ^ j % 2 ≡ bit_of cs j) → x ≡ null_bits (take k cs)
unfolding null_bits
bits_same zero x cs l h = omega arith
bits_same (suc k) x cs l h =
    let e : suc k ≡ k + 1 = omega arith in
    let half : x / 2 < 2 ^ k = shr_lt k 1 (rw e at l) in
    let o : x / 1 ≡ x = div-one x in
    let lowest : x % 2 ≡ bit_of cs 0 = rw o at (h 0 (omega arith)) in
    let others : (j : ℕ) → j < k → x / 2 / 2 ^ j % 2 ≡ bit_of (drop 1 cs) j
    = λ j m. rw (shr-shr x 1 j, get_or-drop 1 cs j (truth false)) (h (1 + j) (omega arith)) in
    let rest : x / 2 ≡ null_bits (take k (drop 1 cs)) = bits_same k (x / 2) (drop 1 cs) half others in
    rw (bits_step k cs) (omega arith)

map_same : (n : ℕ) (s : List ℕ) (cs : List Content) → Bytes s → n ≤ length s
    → ((c : ℕ) → c < 8 * n → get_or s (c / 8) 0 / 2 ^ (c % 8) % 2 ≡ bit_of cs c) → take n s ≡ bitmap n cs
unfolding bitmap
map_same zero s cs b l h = refl
map_same (suc n) [] cs b l h = absurd (omega arith)
map_same (suc n) (x ∷ s) cs b l h =
    let bit : (j : ℕ) → j < 8 → x / 2 ^ j % 2 ≡ bit_of cs j
    = λ j m. let d : j / 8 ≡ 0 = omega arith in
    let r : j % 8 ≡ j = omega arith in
    rw (d, r) at (h j (omega arith)) in
    let others : (c : ℕ) → c < 8 * n → get_or s (c / 8) 0 / 2 ^ (c % 8) % 2 ≡ bit_of (drop 8 cs) c
    = λ c m. let d : (8 + c) / 8 ≡ suc (c / 8) = omega arith in
    let r : (8 + c) % 8 ≡ c % 8 = omega arith in
    rw (get_or-drop 8 cs c (truth false)) (rw (d, r) at (h (8 + c) (omega arith))) in
    let e : x ≡ null_bits (take 8 cs) = bits_same 8 x cs b.0 bit in
    let f : take n s ≡ bitmap n (drop 8 cs) = map_same n s (drop 8 cs) b.1 (omega arith) others in
    rw (← e, f)

-- two bits are the same where the same one of them is 1
bit_one : (x y : ℕ) → x ≤ 1 → y ≤ 1 → eqb x 1 ≡ eqb y 1 → x ≡ y
bit_one zero zero l m e = refl
bit_one zero (suc zero) l m e = absurd (eqb-false 0 1 refl (eqb-true 0 1 e))
bit_one (suc zero) zero l m e = absurd (eqb-false 0 1 refl (eqb-true 0 1 (sym e)))
bit_one (suc zero) (suc zero) l m e = refl
bit_one (suc (suc x)) y l m e = absurd (omega arith)
bit_one zero (suc (suc y)) l m e = absurd (omega arith)
bit_one (suc zero) (suc (suc y)) l m e = absurd (omega arith)

nulled_at : (body : List ℕ) (place column : ℕ) (cs : List Content) → Nulled body place column cs → (c : ℕ) → c < length cs
    → is_null body place (column + c) ≡ eqb (bit_of cs c) 1
nulled_at body place column [] w c l = absurd (omega arith)
nulled_at body place column (x ∷ cs) w zero l = rw (add-zero column) w.0
nulled_at body place column (x ∷ cs) w (suc c) l =
    let e : column + suc c ≡ column + 1 + c = omega arith in
    rw e (nulled_at body place (column + 1) cs w.1 c (omega arith))

module _ (body : List ℕ) (place : ℕ) (b : Bytes body) (cs : List Content) where
  bit_found : Nulled body place 0 cs → SpareClear (length cs) body place → (c : ℕ) → c < 8 * bitmap_bytes (length cs)
      → is_null body place c ≡ eqb (bit_of cs c) 1
  unfolding SpareClear null_bit
  bit_found w clear c l = by (ltb c (length cs)) refl
    where
      by : (t : Bool) → ltb c (length cs) ≡ t → is_null body place c ≡ eqb (bit_of cs c) 1
      by true t = rw (zero-add c) at (nulled_at body place 0 cs w c (ltb-true c (length cs) t))
      by false t =
          let h : length cs ≤ c = ltb-false c (length cs) t in
          rw (get_or-eq_default cs (truth false) h) (clear c h l)

  bitmap_fills : Nulled body place 0 cs → SpareClear (length cs) body place → bitmap_bytes (length cs) ≤ length body - place
      → Fills body place (bitmap (bitmap_bytes (length cs)) cs) (place + bitmap_bytes (length cs))
  unfolding is_null
  bitmap_fills w clear l =
      let n : ℕ = bitmap_bytes (length cs) in
      let bits : (c : ℕ) → c < 8 * n → get_or (drop place body) (c / 8) 0 / 2 ^ (c % 8) % 2 ≡ bit_of cs c
      = λ c m. let x : ℕ = get_or body (place + c / 8) 0 / 2 ^ (c % 8) % 2 in
      let s : x ≤ 1 = omega arith in
      rw (get_or-drop place body (c / 8) 0) (bit_one x (bit_of cs c) s (bit_small (get_or cs c (truth false))) (bit_found w clear c m)) in
      let e : take n (drop place body) ≡ bitmap n cs
      = map_same n (drop place body) cs (bytes_drop place body b) (rw (length-drop place body) l) bits in
      rw e at (fills_part body place n)

-- ---- the row
abbrev SameRow : List ℕ → Answer (ℤ × List Block) → Type 0
SameRow body (gives (rowid, bs)) = body ≡ body_bytes (rowid, map (content_of body) bs)
SameRow body (refuses k) = Unit {0}

module _ (body : List ℕ) (b : Bytes body) (some : 0 < length body) (kind : get_or body 0 0 ≡ 1) (p : PlainBody body) where
  module _ {u n count m : ℕ} (e : read_u64 body 1 ≡ gives (u, n)) (f : read_u64 body (1 + n) ≡ gives (count, m)) where
    ended_same : SpareClear count body (1 + n + m) → bitmap_bytes count ≤ length body - (1 + n + m)
        → (bs : List Block) (end : ℕ) → SameAll body (1 + n + m) count 0 (1 + n + m + bitmap_bytes count) bs end → (t : Bool) → eqb end (length body) ≡ t
        → SameRow body (and_then (pick t (gives bs) (refuses 10)) (λ bs. gives (unzigzag u, bs)))
    unfolding and_then pick body_bytes PlainBody
    ended_same clear room bs end w false g = tt
    ended_same clear room bs end w true g =
        let cs : List Content = map (content_of body) bs in
        let k : count ≡ length cs = sym (length-map bs (content_of body) ∙ w.count) in
        let h : end ≡ length body = eqb-true end (length body) g in
        let number : Fills body 1 (leb_bytes (zigzag (unzigzag u))) (1 + n) = rw (forth u) (number_fills body 1 b e p.0) in
        let counted : Fills body (1 + n) (leb_bytes (length cs)) (1 + n + m) = rw k at (number_fills body (1 + n) b f (p.1 (u, n) e).0) in
        let mapped : Fills body (1 + n + m) (bitmap (bitmap_bytes (length cs)) cs) (1 + n + m + bitmap_bytes (length cs))
        = bitmap_fills body (1 + n + m) b cs w.nulled (rw k at clear) (rw k at room) in
        let blocks : Fills body (1 + n + m + bitmap_bytes (length cs)) (blocks_bytes cs) (length body) = rw (← k, ← h) w.fills in
        let all = fills_both (fills_byte body 0 some kind) (fills_both number (fills_both counted (fills_both mapped blocks))) in
        all.is ∙ rw (drop-length body) (append-nil (body_bytes (unzigzag u, cs)))

    blocks_same : SameRow body (and_then (blocks_at count body (1 + n + m)) (λ bs. gives (unzigzag u, bs)))
    unfolding blocks_at and_then pick PlainBody
    blocks_same =
        let q = (p.1 (u, n) e).1 (count, m) f in
        by q.0 (ltb (length body - (1 + n + m)) (bitmap_bytes count)) refl (columns count 0 (1 + n + m) body (1 + n + m + bitmap_bytes count))
        (columns_same body (1 + n + m) b count 0 (1 + n + m + bitmap_bytes count) q.1)
      where
        by : SpareClear count body (1 + n + m) → (t : Bool) → ltb (length body - (1 + n + m)) (bitmap_bytes count) ≡ t
            → (a : Answer (List Block × ℕ)) → SameColumns body (1 + n + m) count 0 (1 + n + m + bitmap_bytes count) a
            → SameRow body (and_then (pick t (refuses 6) (and_then a (λ (bs, end). pick (eqb end (length body)) (gives bs) (refuses 10)))) (λ bs. gives (unzigzag u, bs)))
        by clear true t a w = tt
        by clear false t (refuses k) w = tt
        by clear false t (gives (bs, end)) w =
            ended_same clear (ltb-false (length body - (1 + n + m)) (bitmap_bytes count) t) bs end w (eqb end (length body)) refl

  row_same : SameRow body (row_of body)
  unfolding row_of read_i64 and_then
  row_same = by (read_u64 body 1) refl
    where
      next : (u n : ℕ) → read_u64 body 1 ≡ gives (u, n) → (a : Answer (ℕ × ℕ)) → read_u64 body (1 + n) ≡ a
          → SameRow body (and_then a (λ (count, m). and_then (blocks_at count body (1 + n + m)) (λ bs. gives (unzigzag u, bs))))
      next u n e (refuses k) f = tt
      next u n e (gives (count, m)) f = blocks_same e f

      by : (a : Answer (ℕ × ℕ)) → read_u64 body 1 ≡ a
          → SameRow body (and_then (and_then a (λ (u, n). gives (unzigzag u, n)))
          (λ (rowid, n). and_then (read_u64 body (1 + n)) (λ (count, m). and_then (blocks_at count body (1 + n + m)) (λ bs. gives (rowid, bs)))))
      by (refuses k) e = tt
      by (gives (u, n)) e = next u n e (read_u64 body (1 + n)) refl

body_same : (body : List ℕ) → Bytes body → PlainBody body → SameRow body (local_body body)
unfolding local_body pick
body_same body b p = by (eqb (length body) 0) refl (eqb (get_or body 0 0) 1) refl
  where
    by : (s : Bool) → eqb (length body) 0 ≡ s → (t : Bool) → eqb (get_or body 0 0) 1 ≡ t → SameRow body (pick s (refuses 4) (pick t (row_of body) (refuses 5)))
    by true e t f = tt
    by false e true f =
        let z = eqb-false (length body) 0 e in
        row_same body b (omega (arith, z)) (eqb-true (get_or body 0 0) 1 f) p
    by false e false f = tt

-- ---- an entry whose length has its shortest form is its body, written behind its length
pub length_fills : (s : List ℕ) {n len : ℕ} → Bytes s → Framing s n len → PlainNumber s 0 → with_length (body_at s n len) ≡ take (n + len) s
unfolding with_length read_u64
length_fills s {n} {len} b w p =
    let l : length (body_at s n len) ≡ len = part_length len n s w.inside in
    let start : Fills s 0 (leb_bytes len) n = rw (zero-add n) at (number_fills s 0 b w.read p) in
    let all = fills_both start (fills_part s n len) in
    let m : length (leb_bytes len ++ body_at s n len) ≡ n + len
    = length-append (leb_bytes len) (body_at s n len) ∙ rw (l, ← (p (len, n) w.read).taken) in
    let front : take (n + len) s ≡ leb_bytes len ++ body_at s n len = ap (take (n + len)) all.is ∙ take_at (leb_bytes len ++ body_at s n len) (drop (n + len) s) (n + len) m in
    rw (l, front)

-- ---- the theorem: a plain entry is written as it was read
pub plain_written : (s : List ℕ) {n len size : ℕ} {rowid : ℤ} {bs : List Block} → Bytes s → Plain s → framed s ≡ gives (n, len)
    → cell_from s ≡ gives ((rowid, bs), size) → entry_bytes (rowid, map (content_of (body_at s n len)) bs) ≡ take size s
unfolding cell_from entry and_then entry_bytes Plain read_u64
plain_written s {n} {len} {size} {rowid} {bs} b p f e =
    by (local_body (body_at s n len)) (body_same (body_at s n len) (bytes_take len (drop n s) (bytes_drop n s b)) (p.1 (len, n) (framing s f).read)) (rw f at e)
  where
    by : (a : Answer (ℤ × List Block)) → SameRow (body_at s n len) a → and_then {B = (ℤ × List Block) × ℕ} a (λ row. gives (row, n + len)) ≡ gives ((rowid, bs), size)
        → entry_bytes (rowid, map (content_of (body_at s n len)) bs) ≡ take size s
    by (refuses k) h g = absurd (gives_refuses (sym g))
    by (gives (r, xs)) h g =
        let w = framing s f in
        let c : r ≡ rowid = ap (λ (q : (ℤ × List Block) × ℕ). q.0.0) (gives_one g) in
        let d : xs ≡ bs = ap (λ (q : (ℤ × List Block) × ℕ). q.0.1) (gives_one g) in
        let z : n + len ≡ size = ap second (gives_one g) in
        rw (← z, ← c, ← d, ← h) (length_fills s b w p.0)

-- ---- what is written is plain

-- a number below 2 ^ 64 has one bit left for its tenth group
group_small : (n k v : ℕ) → v < 2 ^ (7 * k + 1) → get_or (groups n v) k 0 ≤ 1
unfolding groups pick
group_small zero k v l = omega arith
group_small (suc n) zero v l = let h : v < 128 = omega arith in rw (lt-ltb v 128 h) (omega arith)
group_small (suc n) (suc k) v l =
    let e : 7 * suc k + 1 ≡ 7 * k + 1 + 7 = omega arith in
    by (ltb v 128) (group_small n k (v / 128) (shr_lt (7 * k + 1) 7 (rw e at l)))
  where
    by : (t : Bool) → get_or (groups n (v / 128)) k 0 ≤ 1 → get_or (pick t (v ∷ []) ((128 + v % 128) ∷ groups n (v / 128))) (suc k) 0 ≤ 1
    by true h = omega arith
    by false h = h

module _ {s : List ℕ} {at : ℕ} {b : List ℕ} (v : ℕ) (l : v < 2 ^ 64) (w : Stands s at (leb_bytes v) b) where
  shortest : Shortest s at v (len_u64 v)
  unfolding leb_bytes
  shortest =
      record {
        taken = refl;
        tenth = λ e. let i : 9 < length (leb_bytes v) = omega arith in
            let d : get_or s (at + 9) 0 ≡ get_or (leb_bytes v) 9 0
            = sym (get_or-drop at s 9 0) ∙ ap (λ (x : List ℕ). get_or x 9 0) w.is ∙ get_or-append (leb_bytes v) b 0 9 i in
            rw d (group_small 10 9 v l);
      }

  pub number_plain : PlainNumber s at
  number_plain a e = rw (← gives_one (sym (stands_number v l w) ∙ e)) shortest

module _ {body : List ℕ} {at : ℕ} {t : List ℕ} where
  block_plain : (c : Content) → Sound c → (null_bit c ≡ 1 → ⊥) → Stands body at (block_bytes c) t → PlainBlock body at
  unfolding block_bytes null_bit
  block_plain none s z w = absurd (z refl)
  block_plain (whole v) s z w =
      let h : get_or body at 0 ≡ 0 = stands_head w in
      record {
        integer = λ _. number_plain (zigzag v) (unsigned_fits v s) (stands_tail w);
        text = λ e. absurd (omega arith);
        bool = λ e. absurd (omega arith);
        vector = λ e. absurd (omega arith);
      }
  block_plain (float bits) s z w =
      let h : get_or body at 0 ≡ 1 = stands_head w in
      record { integer = λ e. absurd (omega arith); text = λ e. absurd (omega arith); bool = λ e. absurd (omega arith); vector = λ e. absurd (omega arith) }
  block_plain (truth b) s z w =
      let h : get_or body at 0 ≡ 3 = stands_head w in
      record {
        integer = λ e. absurd (omega arith);
        text = λ e. absurd (omega arith);
        bool = λ _. rw (stands_head (stands_tail w)) (one_bit b);
        vector = λ e. absurd (omega arith);
      }
  block_plain (letters v) s z w =
      let h : get_or body at 0 ≡ 2 = stands_head w in
      record {
        integer = λ e. absurd (omega arith);
        text = λ _. number_plain (length v) s.1 (stands_first (leb_bytes (length v)) v (stands_tail w));
        bool = λ e. absurd (omega arith);
        vector = λ e. absurd (omega arith);
      }
  block_plain (floats v) s z w =
      let h : get_or body at 0 ≡ 4 = stands_head w in
      record {
        integer = λ e. absurd (omega arith);
        text = λ e. absurd (omega arith);
        bool = λ e. absurd (omega arith);
        vector = λ _. number_plain (length v / 4) s.1 (stands_first (leb_bytes (length v / 4)) v (stands_tail w));
      }

columns_plain : {body : List ℕ} (place : ℕ) (cs : List Content) (column at : ℕ) {t : List ℕ} → AllSound cs → Nulled body place column cs
    → Stands body at (blocks_bytes cs) t → PlainColumns (length cs) column place body at
unfolding PlainColumns blocks_bytes
columns_plain place [] column at s n w = tt
columns_plain {body} place (c ∷ cs) column at s n w =
    let f : Stands body at (block_bytes c) (blocks_bytes cs ++ _) = stands_first (block_bytes c) (blocks_bytes cs) w in
    let rest = columns_plain place cs (column + 1) (at + length (block_bytes c)) s.1 n.1 (stands_second (block_bytes c) (blocks_bytes cs) w) in (
      λ e. block_plain c s.0 (λ one. eqb-false (null_bit c) 1 (sym n.0 ∙ e) one) f,
      λ a e. rw (← gives_one (sym (column_read place c column at s.0 n.0 f) ∙ e)) rest,
    )

-- bit j of a byte is that of column j, and 0 past the last
bits_told : (k j : ℕ) (cs : List Content) → j < k → null_bits (take k cs) / 2 ^ j % 2 ≡ bit_of cs j
bits_told zero j cs l = absurd (omega arith)
bits_told (suc k) zero cs l =
    let x : ℕ = bit_of cs 0 + 2 * null_bits (take k (drop 1 cs)) in
    let o : x / 1 ≡ x = div-one x in
    rw (bits_step k cs, o) (omega (arith, bit_small (get_or cs 0 (truth false))))
bits_told (suc k) (suc j) cs l =
    let x : ℕ = bit_of cs 0 + 2 * null_bits (take k (drop 1 cs)) in
    let o : x / 2 ^ 1 ≡ null_bits (take k (drop 1 cs)) = omega (arith, bit_small (get_or cs 0 (truth false))) in
    let d : 1 + j ≡ suc j = omega arith in
    rw (bits_step k cs, ← d, ← shr-shr x 1 j, o) (bits_told k j (drop 1 cs) (omega arith) ∙ rw (get_or-drop 1 cs j (truth false)))

spare_clear : {body : List ℕ} (place : ℕ) {t : List ℕ} (cs : List Content) → Stands body place (bitmap (bitmap_bytes (length cs)) cs) t
    → SpareClear (length cs) body place
unfolding SpareClear is_null null_bit
spare_clear {body} place {t} cs w c past l =
    let n : ℕ = bitmap_bytes (length cs) in
    let i : c / 8 < n = omega arith in
    let k : c / 8 < length (bitmap n cs) = rw (bitmap_length n cs) i in
    let d : 8 * (c / 8) + c % 8 ≡ c = omega arith in
    let m : c % 8 < 8 = omega arith in
    let b : get_or body (place + c / 8) 0 ≡ null_bits (take 8 (drop (8 * (c / 8)) cs))
    = sym (get_or-drop place body (c / 8) 0) ∙ ap (λ (s : List ℕ). get_or s (c / 8) 0) w.is
    ∙ get_or-append (bitmap n cs) t 0 (c / 8) k ∙ byte_at n (c / 8) cs i in
    rw (b, bits_told 8 (c % 8) (drop (8 * (c / 8)) cs) m, get_or-drop (8 * (c / 8)) cs (c % 8) (truth false), d, get_or-eq_default cs (truth false) past)

module _ (rowid : ℤ) (cs : List Content) (f : SFits w64 rowid) (s : AllSound cs) (l : length cs < 2 ^ 64) where
  body_plain : PlainBody (body_bytes (rowid, cs))
  unfolding PlainBody body_bytes
  body_plain =
      let body : List ℕ = body_bytes (rowid, cs) in
      let n : ℕ = len_u64 (zigzag rowid) in
      let m : ℕ = len_u64 (length cs) in
      let place : ℕ = 1 + n + m in
      let size : ℕ = bitmap_bytes (length cs) in
      let nulls : List ℕ = bitmap size cs in
      let tail : List ℕ = nulls ++ blocks_bytes cs in
      let start : Stands body 0 (1 ∷ (leb_bytes (zigzag rowid) ++ (leb_bytes (length cs) ++ tail))) [] = record { within = omega arith; is = sym (append-nil body) } in
      let from-rowid : Stands body 1 (leb_bytes (zigzag rowid) ++ (leb_bytes (length cs) ++ tail)) [] = stands_tail {at = 0} start in
      let at-rowid = stands_first (leb_bytes (zigzag rowid)) (leb_bytes (length cs) ++ tail) from-rowid in
      let from-count : Stands body (1 + n) (leb_bytes (length cs) ++ tail) [] = stands_second (leb_bytes (zigzag rowid)) (leb_bytes (length cs) ++ tail) from-rowid in
      let at_count = stands_first (leb_bytes (length cs)) tail from-count in
      let from-map : Stands body place tail [] = stands_second (leb_bytes (length cs)) tail from-count in
      let at_map = stands_first nulls (blocks_bytes cs) from-map in
      let at-blocks : Stands body (place + size) (blocks_bytes cs) [] = rw (bitmap_length size cs) at (stands_second nulls (blocks_bytes cs) from-map) in
      let spare : SpareClear (length cs) body place = spare_clear place cs at_map in
      let columns : PlainColumns (length cs) 0 place body (place + size)
      = columns_plain place cs 0 (place + size) s (nulled_from cs at_map 0 cs refl) at-blocks in (
        number_plain (zigzag rowid) (unsigned_fits rowid f) at-rowid,
        λ a e. rw (← gives_one (sym (stands_number (zigzag rowid) (unsigned_fits rowid f) at-rowid) ∙ e)) (
          number_plain (length cs) l at_count,
          λ b g. rw (← gives_one (sym (stands_number (length cs) l at_count) ∙ g)) (spare, columns),
        ),
      )

-- a plain body, written behind its length, is a plain entry
pub behind_plain : (Plainly : List ℕ → Type 0) (body : List ℕ) → length body < 2 ^ 64 → Plainly body → (t : List ℕ) → PlainEntry Plainly (with_length body ++ t)
unfolding with_length
behind_plain Plainly body k p t =
    let n : ℕ = length body in
    let w : Stands ((leb_bytes n ++ body) ++ t) 0 (leb_bytes n) (body ++ t) = record { within = omega arith; is = append_assoc (leb_bytes n) body t } in
    (number_plain n k w, λ a e. rw (← gives_one (sym (stands_number n k w) ∙ e), written_body body k t) p)

-- The other direction: an entry that is written as it was read is plain, so the bytes do differ where anything else was read.
pub written_plain : (s : List ℕ) {n len size : ℕ} {rowid : ℤ} {bs : List Block} → Bytes s → framed s ≡ gives (n, len)
    → cell_from s ≡ gives ((rowid, bs), size) → entry_bytes (rowid, map (content_of (body_at s n len)) bs) ≡ take size s → Plain s
unfolding cell_from entry and_then entry_bytes Plain
written_plain s {n} {len} {size} {rowid} {bs} b f e same =
    by (local_body (body_at s n len)) (body_fine (body_at s n len) (bytes_take len (drop n s) (bytes_drop n s b))) (rw f at e)
  where
    by : (a : Answer (ℤ × List Block)) → FineRow (body_at s n len) a → and_then {B = (ℤ × List Block) × ℕ} a (λ row. gives (row, n + len)) ≡ gives ((rowid, bs), size) → Plain s
    by (refuses k) w g = absurd (gives_refuses (sym g))
    by (gives (r, xs)) w g =
        let c : r ≡ rowid = ap (λ (q : (ℤ × List Block) × ℕ). q.0.0) (gives_one g) in
        let d : xs ≡ bs = ap (λ (q : (ℤ × List Block) × ℕ). q.0.1) (gives_one g) in
        let v : ShortRow (body_at s n len) rowid bs = rw (← c, ← d) w in
        let cs : List Content = map (content_of (body_at s n len)) bs in
        let k : length cs < 2 ^ 64 = rw (length-map bs (content_of (body_at s n len))) v.count in
        let o : length (body_bytes (rowid, cs)) < 2 ^ 64 = omega (arith, v.size, part_most len (drop n s), framed_fits s f) in
        let z : entry_bytes (rowid, cs) ++ drop size s ≡ s = rw same (take-append-drop size s) in
        rw z at (behind_plain PlainBody (body_bytes (rowid, cs)) o (body_plain rowid cs v.fits v.sound k) (drop size s))
