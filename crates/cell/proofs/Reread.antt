-- What was written reads back as the same row, value by value, with anything behind it.
-- Assumes nothing.
use Rattle.std.proofs.Common.{◌≡◌, ℕ, zero, suc, ◌+◌, ◌-◌, ◌*◌, ◌/◌, ◌%◌, ◌^◌, ◌<◌, ◌≤◌, Bool, true, false, not, eqb, List, [], ◌∷◌, ◌++◌, map, length, get_or, take, drop, ℤ, sym, refl, ap, ◌∙◌, append_assoc, append-nil, add-zero, div-one, arith, length-append, length-drop, get_or-drop, drop-drop, shr-shr, w64, SFits, le-ltb, lt-ltb, eq-eqb, ne_eqb}
use lib.Ieee.{of_bits, binary64}
use lib.ListN.{get_or-append}
use lib.Seq.{drop-append_seam, take-append_seam}
use Rattle.paper.specs.Answer.{gives, and_then, pick}
use Rattle.field.specs.Field.{le, bytes}
use Rattle.field.proofs.Laws.{le_drop, le_bytes}
use Rattle.field.proofs.Storing.{length_bytes}
use Rattle.varint.specs.Leb.{leb_bytes, len_u64, read_u64}
use Rattle.varint.specs.Number.{read_i64}
use Rattle.varint.specs.Zigzag.{zigzag}
use Rattle.varint.proofs.Standard.{written_read as number_read}
use Rattle.varint.proofs.Zigzag.{back, unsigned_fits}
use Rattle.utf8.proofs.Laws.{at_inside}
use Rattle.cell.specs.Block.{Block, null, integer, real, bool, text, vector, block, block_of, is_null, bitmap_bytes, columns}
use Rattle.cell.specs.Content.{Content, none, whole, float, truth, letters, floats, content_of}
use Rattle.cell.specs.Local.{blocks_at, row_of, local_body, cell_from}
use Rattle.cell.proofs.Whole.{entry_back}
use Rattle.cell.proofs.Listed.{Sound, AllSound}
use Rattle.cell.proofs.Lengths.{bitmap_length}
use Rattle.cell.specs.Written.{block_bytes, blocks_bytes, null_bit, null_bits, bitmap, body_bytes, entry_bytes}

-- ---- the blocks that are read: their places go by what stands before them
unfoldable pub laid_at : ℕ → Content → Block
laid_at at none = null
laid_at at (whole v) = integer v
laid_at at (float bits) = real (of_bits binary64 bits) bits
laid_at at (truth b) = bool b
laid_at at (letters t) = text (at + 1 + len_u64 (length t)) (length t)
laid_at at (floats v) = vector (at + 1 + len_u64 (length v / 4)) (length v / 4)

unfoldable pub laid : ℕ → List Content → List Block
laid at [] = []
laid at (c ∷ cs) = laid_at at c ∷ laid (at + length (block_bytes c)) cs

-- ---- bytes that stand in a list at a place, and what comes behind them to its end
pub record Stands (s : List ℕ) (at : ℕ) (a b : List ℕ) : Type 0 where
  pub within : at ≤ length s
  pub is : drop at s ≡ a ++ b

module _ {s : List ℕ} {at : ℕ} {a b : List ℕ} (w : Stands s at a b) where
  stands_length : at + (length a + length b) ≡ length s
  stands_length =
      let l : length a + length b ≡ length s - at = sym (length-append a b) ∙ ap length (sym w.is) ∙ length-drop at s in
      omega (arith, w.within)

  stands_part : take (length a) (drop at s) ≡ a
  stands_part = rw w.is (take-append_seam a b)

  stands_behind : drop (at + length a) s ≡ b
  stands_behind = sym (drop-drop (length a) at s) ∙ rw w.is (drop-append_seam a b)

  stands_next : (c d : List ℕ) → b ≡ c ++ d → Stands s (at + length a) c d
  stands_next c d e = record { within = omega (arith, stands_length); is = stands_behind ∙ e }

-- the first bytes of those that stand there
pub stands_first : {s : List ℕ} {at : ℕ} (a b : List ℕ) {c : List ℕ} → Stands s at (a ++ b) c → Stands s at a (b ++ c)
stands_first a b {c} w = record { within = w.within; is = w.is ∙ append_assoc a b c }

pub stands_second : {s : List ℕ} {at : ℕ} (a b : List ℕ) {c : List ℕ} → Stands s at (a ++ b) c → Stands s (at + length a) b c
stands_second a b {c} w = stands_next (stands_first a b w) b c refl

module _ {s : List ℕ} {at x : ℕ} {a b : List ℕ} (w : Stands s at (x ∷ a) b) where
  stands_inside : at < length s
  stands_inside = omega (arith, stands_length w)

  pub stands_head : get_or s at 0 ≡ x
  stands_head = let d : at + 0 ≡ at = add-zero at in rw (← d) (sym (get_or-drop at s 0 0) ∙ ap (λ (l : List ℕ). get_or l 0 0) w.is)

  pub stands_tail : Stands s (at + 1) a b
  stands_tail = stands_second (x ∷ []) a w

pub stands_number : {s : List ℕ} {at : ℕ} {b : List ℕ} (v : ℕ) → v < 2 ^ 64 → Stands s at (leb_bytes v) b → read_u64 s at ≡ gives (v, len_u64 v)
unfolding read_u64
stands_number {b = b} v l w = rw w.is (number_read v l b)

stands_signed : {s : List ℕ} {at : ℕ} {b : List ℕ} (v : ℤ) → SFits w64 v → Stands s at (leb_bytes (zigzag v)) b → read_i64 s at ≡ gives (v, len_u64 (zigzag v))
unfolding read_i64 and_then
stands_signed v f w = rw (stands_number (zigzag v) (unsigned_fits v f) w, back v)

-- ---- one value block
bit_back : (b : Bool) → not (eqb (pick b 1 0) 0) ≡ b
unfolding pick
bit_back true = refl
bit_back false = refl

module _ {body : List ℕ} {at : ℕ} {t : List ℕ} where
  tagged : {tag : ℕ} {a : List ℕ} → Stands body at (tag ∷ a) t → block body at ≡ block_of tag body (at + 1)
  unfolding block pick
  tagged w = rw (stands_head w, lt-ltb at (length body) (stands_inside w))

  block_read : (c : Content) → null_bit c ≡ 0 → Sound c → Stands body at (block_bytes c) t → block body at ≡ gives (laid_at at c, at + length (block_bytes c))
  unfolding block_bytes laid_at null_bit block_of pick and_then
  block_read none z s w = absurd (omega arith)
  block_read (whole v) z s w =
      let d : at + 1 + length (leb_bytes (zigzag v)) ≡ at + suc (length (leb_bytes (zigzag v))) = omega arith in
      rw (tagged w, stands_signed v s (stands_tail w), d)
  block_read (float bits) z s w =
      let u : Stands body (at + 1) (bytes 8 bits) t = stands_tail w in
      let k : length (bytes 8 bits) ≡ 8 = length_bytes 8 bits in
      let l : 8 ≤ length body - (at + 1) = omega (arith, stands_length u) in
      let f : le 8 (at + 1) body ≡ bits
      = let z : at + 1 + 0 ≡ at + 1 = add-zero (at + 1) in
      rw z at (sym (le_drop 8 0 (at + 1) body) ∙ ap (λ (l : List ℕ). le 8 0 l) u.is ∙ le_bytes 8 bits t s) in
      let d : at + 1 + 8 ≡ at + suc (length (bytes 8 bits)) = omega arith in
      rw (tagged w, le-ltb (length body - (at + 1)) 8 l, f, d)
  block_read (truth b) z s w =
      let u : Stands body (at + 1) (pick b 1 0 ∷ []) t = stands_tail w in
      let d : at + 1 + 1 ≡ at + 2 = omega arith in
      rw (tagged w, lt-ltb (at + 1) (length body) (stands_inside u), stands_head u, bit_back b, d)
  block_read (letters v) (z) s w =
      let u : Stands body (at + 1) (leb_bytes (length v) ++ v) t = stands_tail w in
      let x : Stands body (at + 1 + length (leb_bytes (length v))) v t = stands_second (leb_bytes (length v)) v u in
      let l : at + 1 + length (leb_bytes (length v)) + length v ≤ length body = omega (arith, stands_length x) in
      let d : at + 1 + length (leb_bytes (length v)) + length v ≡ at + suc (length (leb_bytes (length v) ++ v)) = omega (arith, length-append (leb_bytes (length v)) v) in
      rw (
        tagged w,
        stands_number (length v) s.1 (stands_first (leb_bytes (length v)) v u),
        at_inside body (at + 1 + length (leb_bytes (length v))) (length v) l,
        stands_part x,
        s.0,
        d,
      )
  block_read (floats v) z s w =
      let u : Stands body (at + 1) (leb_bytes (length v / 4) ++ v) t = stands_tail w in
      let x : Stands body (at + 1 + length (leb_bytes (length v / 4))) v t = stands_second (leb_bytes (length v / 4)) v u in
      let m : 4 * (length v / 4) ≡ length v = s.0 in
      let l : length v / 4 ≤ (length body - (at + 1 + length (leb_bytes (length v / 4)))) / 4 = omega (arith, stands_length x) in
      let d : at + 1 + length (leb_bytes (length v / 4)) + 4 * (length v / 4) ≡ at + suc (length (leb_bytes (length v / 4) ++ v)) = omega (arith, length-append (leb_bytes (length v / 4)) v) in
      rw (
        tagged w,
        stands_number (length v / 4) s.1 (stands_first (leb_bytes (length v / 4)) v u),
        le-ltb ((length body - (at + 1 + length (leb_bytes (length v / 4)))) / 4) (length v / 4) l,
        d,
      )

-- ---- the bitmap
pub bit_small : (c : Content) → null_bit c ≤ 1
unfolding null_bit
bit_small none = omega arith
bit_small (whole v) = omega arith
bit_small (float bits) = omega arith
bit_small (truth b) = omega arith
bit_small (letters t) = omega arith
bit_small (floats v) = omega arith

no_column : {c : Content} {ds : List Content} → [] ≡ c ∷ ds → ⊥
no_column e = let z : ◌≡◌ {A = ℕ} 0 1 = cc in omega arith

-- bit j is that of column j
bit_at : (k j : ℕ) (cs : List Content) (c : Content) (ds : List Content) → j < k → drop j cs ≡ c ∷ ds → null_bits (take k cs) / 2 ^ j % 2 ≡ null_bit c
unfolding null_bits
bit_at zero j cs c ds h e = absurd (omega arith)
bit_at (suc k) zero [] c ds h e = absurd (no_column e)
bit_at (suc k) zero (x ∷ cs) c ds h e =
    let d : x ≡ c = cc in
    let o : (null_bit x + 2 * null_bits (take k cs)) / 1 ≡ null_bit x + 2 * null_bits (take k cs) = div-one (null_bit x + 2 * null_bits (take k cs)) in
    rw (o, d) (omega (arith, bit_small c))
bit_at (suc k) (suc j) [] c ds h e = absurd (no_column e)
bit_at (suc k) (suc j) (x ∷ cs) c ds h e =
    let n : ℕ = null_bit x + 2 * null_bits (take k cs) in
    let f : n / 2 ^ 1 / 2 ^ j ≡ n / 2 ^ (1 + j) = shr-shr n 1 j in
    let g : 1 + j ≡ suc j = omega arith in
    let o : n / 2 ^ 1 ≡ null_bits (take k cs) = omega (arith, bit_small x) in
    rw (← g, ← f, o) (bit_at k j cs c ds (omega arith) e)

pub byte_at : (n b : ℕ) (cs : List Content) → b < n → get_or (bitmap n cs) b 0 ≡ null_bits (take 8 (drop (8 * b) cs))
unfolding bitmap
byte_at zero b cs h = absurd (omega arith)
byte_at (suc n) zero cs h = refl
byte_at (suc n) (suc b) cs h =
    let e : 8 * suc b ≡ 8 + 8 * b = omega arith in
    rw (e, ← drop-drop (8 * b) 8 cs) (byte_at n b (drop 8 cs) (omega arith))

-- each column from column c on is null in the bitmap where its content is
abbrev pub Nulled : List ℕ → ℕ → ℕ → List Content → Type 0
Nulled body place c [] = Unit {0}
Nulled body place c (x ∷ ds) = (is_null body place c ≡ eqb (null_bit x) 1) × Nulled body place (c + 1) ds

module _ {body : List ℕ} {place : ℕ} {t : List ℕ} (cs : List Content) (w : Stands body place (bitmap (bitmap_bytes (length cs)) cs) t) where
  null_at : (c : ℕ) (x : Content) (ds : List Content) → drop c cs ≡ x ∷ ds → is_null body place c ≡ eqb (null_bit x) 1
  unfolding is_null bitmap_bytes
  null_at c x ds e =
      let n : length cs - c ≡ suc (length ds) = sym (length-drop c cs) ∙ ap length e in
      let l : c / 8 < (length cs + 7) / 8 = omega arith in
      let k : c / 8 < length (bitmap ((length cs + 7) / 8) cs) = rw (bitmap_length ((length cs + 7) / 8) cs) l in
      let d : 8 * (c / 8) + c % 8 ≡ c = omega arith in
      let j : c % 8 < 8 = omega arith in
      let g : drop (c % 8) (drop (8 * (c / 8)) cs) ≡ x ∷ ds = drop-drop (c % 8) (8 * (c / 8)) cs ∙ ap (λ (m : ℕ). drop m cs) d ∙ e in
      let b : get_or body (place + c / 8) 0 ≡ null_bits (take 8 (drop (8 * (c / 8)) cs))
      = sym (get_or-drop place body (c / 8) 0) ∙ ap (λ (s : List ℕ). get_or s (c / 8) 0) w.is
      ∙ get_or-append (bitmap ((length cs + 7) / 8) cs) t 0 (c / 8) k ∙ byte_at ((length cs + 7) / 8) (c / 8) cs l in
      rw (b, bit_at 8 (c % 8) (drop (8 * (c / 8)) cs) x ds j g)

  pub nulled_from : (c : ℕ) (ds : List Content) → drop c cs ≡ ds → Nulled body place c ds
  nulled_from c [] e = tt
  nulled_from c (x ∷ ds) e =
      (null_at c x ds e, nulled_from (c + 1) ds (sym (drop-drop 1 c cs) ∙ ap (λ (s : List Content). drop 1 s) e))

-- ---- the columns
module _ {body : List ℕ} (place : ℕ) where
  pub column_read : (c : Content) (column at : ℕ) {t : List ℕ} → Sound c → is_null body place column ≡ eqb (null_bit c) 1 → Stands body at (block_bytes c) t
      → pick (is_null body place column) (gives (null, at)) (block body at) ≡ gives (laid_at at c, at + length (block_bytes c))
  unfolding null_bit pick block_bytes laid_at
  column_read none column at s e w = let d : at + 0 ≡ at = add-zero at in rw (e, d)
  column_read (whole v) column at s e w = rw e (block_read (whole v) refl s w)
  column_read (float bits) column at s e w = rw e (block_read (float bits) refl s w)
  column_read (truth b) column at s e w = rw e (block_read (truth b) refl s w)
  column_read (letters v) column at s e w = rw e (block_read (letters v) refl s w)
  column_read (floats v) column at s e w = rw e (block_read (floats v) refl s w)

  columns_read : (cs : List Content) (column at : ℕ) {t : List ℕ} → AllSound cs → Nulled body place column cs → Stands body at (blocks_bytes cs) t
      → columns (length cs) column place body at ≡ gives (laid at cs, at + length (blocks_bytes cs))
  unfolding columns blocks_bytes laid and_then
  columns_read [] column at s n w = let d : at + 0 ≡ at = add-zero at in rw d
  columns_read (c ∷ cs) column at s n w =
      let f = column_read c column at s.0 n.0 (stands_first (block_bytes c) (blocks_bytes cs) w) in
      let g = columns_read cs (column + 1) (at + length (block_bytes c)) s.1 n.1 (stands_second (block_bytes c) (blocks_bytes cs) w) in
      let d : at + length (block_bytes c) + length (blocks_bytes cs) ≡ at + length (block_bytes c ++ blocks_bytes cs) = omega (arith, length-append (block_bytes c) (blocks_bytes cs)) in
      rw (f, g, d)

-- each block holds its content
module _ {body : List ℕ} where
  content_back : (c : Content) (at : ℕ) {t : List ℕ} → Sound c → Stands body at (block_bytes c) t → content_of body (laid_at at c) ≡ c
  unfolding content_of laid_at block_bytes
  content_back none at s w = refl
  content_back (whole v) at s w = refl
  content_back (float bits) at s w = refl
  content_back (truth b) at s w = refl
  content_back (letters v) at s w = rw (stands_part (stands_second (leb_bytes (length v)) v (stands_tail w)))
  content_back (floats v) at s w = rw (s.0, stands_part (stands_second (leb_bytes (length v / 4)) v (stands_tail w)))

  contents_back : (cs : List Content) (at : ℕ) {t : List ℕ} → AllSound cs → Stands body at (blocks_bytes cs) t → map (content_of body) (laid at cs) ≡ cs
  unfolding laid blocks_bytes
  contents_back [] at s w = refl
  contents_back (c ∷ cs) at s w =
      let f = content_back c at s.0 (stands_first (block_bytes c) (blocks_bytes cs) w) in
      let g = contents_back cs (at + length (block_bytes c)) s.1 (stands_second (block_bytes c) (blocks_bytes cs) w) in
      rw (f, g)

-- ---- the row
module _ (rowid : ℤ) (cs : List Content) (f : SFits w64 rowid) (s : AllSound cs) (l : length cs < 2 ^ 64) where
  -- where the bitmap stands in the body, and where the value blocks do
  map_place : ℕ
  map_place = 1 + len_u64 (zigzag rowid) + len_u64 (length cs)

  blocks_place : ℕ
  blocks_place = map_place + bitmap_bytes (length cs)

  body : List ℕ
  body = body_bytes (rowid, cs)

  tail : List ℕ
  tail = bitmap (bitmap_bytes (length cs)) cs ++ blocks_bytes cs

  rowid_stands : Stands body 1 (leb_bytes (zigzag rowid) ++ (leb_bytes (length cs) ++ tail)) []
  unfolding body tail body_bytes
  rowid_stands =
      let w : Stands body 0 (1 ∷ (leb_bytes (zigzag rowid) ++ (leb_bytes (length cs) ++ tail))) []
      = record { within = omega arith; is = sym (append-nil (body_bytes (rowid, cs))) } in
      stands_tail {at = 0} w

  count_stands : Stands body (1 + len_u64 (zigzag rowid)) (leb_bytes (length cs) ++ tail) []
  count_stands = stands_second (leb_bytes (zigzag rowid)) (leb_bytes (length cs) ++ tail) rowid_stands

  tail_stands : Stands body map_place tail []
  unfolding map_place
  tail_stands = stands_second (leb_bytes (length cs)) tail count_stands

  blocks_stand : Stands body blocks_place (blocks_bytes cs) []
  unfolding tail blocks_place
  blocks_stand =
      rw (bitmap_length (bitmap_bytes (length cs)) cs) at (stands_second (bitmap (bitmap_bytes (length cs)) cs) (blocks_bytes cs) tail_stands)

  blocks_back : blocks_at (length cs) body map_place ≡ gives (laid blocks_place cs)
  unfolding blocks_at pick and_then tail blocks_place
  blocks_back =
      let m : Stands body map_place (bitmap (bitmap_bytes (length cs)) cs) (blocks_bytes cs ++ []) = stands_first (bitmap (bitmap_bytes (length cs)) cs) (blocks_bytes cs) tail_stands in
      let k : length (bitmap (bitmap_bytes (length cs)) cs) ≡ bitmap_bytes (length cs) = bitmap_length (bitmap_bytes (length cs)) cs in
      let n : bitmap_bytes (length cs) ≤ length body - map_place = omega (arith, stands_length m) in
      let c : columns (length cs) 0 map_place body blocks_place ≡ gives (laid blocks_place cs, blocks_place + length (blocks_bytes cs))
      = columns_read map_place cs 0 blocks_place s (nulled_from cs m 0 cs refl) blocks_stand in
      let e : blocks_place + length (blocks_bytes cs) ≡ length body = omega (arith, stands_length blocks_stand) in
      rw (le-ltb (length body - map_place) (bitmap_bytes (length cs)) n, c, eq-eqb (blocks_place + length (blocks_bytes cs)) (length body) e)

  row_back : local_body body ≡ gives (rowid, laid blocks_place cs)
  unfolding local_body row_of pick and_then body body_bytes map_place
  row_back =
      let r : read_i64 body 1 ≡ gives (rowid, len_u64 (zigzag rowid))
      = stands_signed rowid f (stands_first (leb_bytes (zigzag rowid)) (leb_bytes (length cs) ++ tail) rowid_stands) in
      let c : read_u64 body (1 + len_u64 (zigzag rowid)) ≡ gives (length cs, len_u64 (length cs))
      = stands_number (length cs) l (stands_first (leb_bytes (length cs)) tail count_stands) in
      let n : eqb (length body) 0 ≡ false = ne_eqb (length body) 0 (λ e. omega (arith, e)) in
      rw (n, r, c, blocks_back)

  -- ---- the entry, with any bytes behind it
  row_same : map (content_of body) (laid blocks_place cs) ≡ cs
  row_same = contents_back cs blocks_place s blocks_stand

  module _ (b : length body < 2 ^ 64) (t : List ℕ) where
    cell_back : cell_from (entry_bytes (rowid, cs) ++ t) ≡ gives ((rowid, laid blocks_place cs), length (entry_bytes (rowid, cs)))
    unfolding cell_from entry_bytes body
    cell_back = entry_back local_body body b row_back t

-- a row that was written, with any bytes behind it: it reads back whole, and each block holds its content
pub record Reread (rowid : ℤ) (cs : List Content) (t : List ℕ) : Type 0 where
  pub blocks : List Block
  pub read : cell_from (entry_bytes (rowid, cs) ++ t) ≡ gives ((rowid, blocks), length (entry_bytes (rowid, cs)))
  pub same : map (content_of (body_bytes (rowid, cs))) blocks ≡ cs
  pub small : length (body_bytes (rowid, cs)) < 2 ^ 64

pub row_reread : (rowid : ℤ) (cs : List Content) → SFits w64 rowid → AllSound cs → length cs < 2 ^ 64 → length (body_bytes (rowid, cs)) < 2 ^ 64
    → (t : List ℕ) → Reread rowid cs t
unfolding body
row_reread rowid cs f s l b t =
    record { blocks = laid (blocks_place rowid cs f s l) cs; read = cell_back rowid cs f s l b t; same = row_same rowid cs f s l; small = b }
