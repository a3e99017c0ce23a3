-- The end of a value block, by its tag.
-- Assumes nothing.
use Rattle.std.proofs.Common.{◌≡◌, ℕ, ◌+◌, ◌-◌, ◌*◌, ◌/◌, ◌<◌, ◌≤◌, Bool, true, false, not, eqb, ltb, leb, List, length, get_or, take, drop, ℤ, sym, refl, ap, arith, ltb-false, ltb-true, le-ltb, lt-ltb, ne_eqb, le-leb}
use Rattle.std.proofs.Math.Nat.{mul-div-le, mul-le-mul_left}
use native.Mathlib.Nat.{add-sub_cancel_left}
use lib.Ieee.{of_bits, binary64}
use borrow.Author.Tests.{lt-leb}
use Rattle.paper.specs.Answer.{Answer, gives, refuses, and_then, pick}
use Rattle.paper.proofs.Laws.{gives_one, first, second}
use Rattle.field.specs.Field.{le}
use Rattle.varint.specs.Leb.{read_u64, end_u64}
use Rattle.varint.specs.Number.{read_i64}
use Rattle.varint.specs.Zigzag.{unzigzag}
use Rattle.varint.proofs.Places.{at_inside}
use Rattle.utf8.specs.WellFormed.{check_text, check_at}
use Rattle.cell.specs.Block.{Block, block, block_of}
use Rattle.cell.specs.Words.{fixed_end, counted, text_end, vector_end, block_end}
use Rattle.cell.proofs.Accepting.{not_refused, then_gave}

-- ---- a number that was read lies inside the body, and so does what it counts
pub read_inside : (body : List ℕ) (at : ℕ) {v n : ℕ} → read_u64 body at ≡ gives (v, n) → at + n ≤ length body
read_inside body at e = at_inside body at (sym e)

pub counted_inside : (unit : ℕ) (body : List ℕ) (at : ℕ) {start count : ℕ} → gives (start, count) ≡ counted unit body at
    → (at ≤ start) × (start + unit * count ≤ length body)
counted_inside unit body at {start} {count} g =
    let (v, v-is, v-then) = then_gave (read_u64 body at) _ (sym g) in
    let room : ℕ = (length body - (at + v.1)) / unit in
    let (t, f) = not_refused (ltb room v.0) 7 _ v-then in
    let l : v.0 ≤ room = ltb-false room v.0 t in
    let i : at + v.1 ≤ length body = read_inside body at v-is in
    let e : at + v.1 ≡ start = ap first (gives_one f) in
    let d : v.0 ≡ count = ap second (gives_one f) in
    let c : count ≤ room = omega arith in
    let m : unit * count ≤ unit * room = mul-le-mul_left unit c in
    let k : unit * room ≤ length body - (at + v.1) = mul-div-le (length body - (at + v.1)) unit in
    (omega arith, omega arith)

-- the part that the code takes for a text
pub text_part : (body : List ℕ) (start len : ℕ) → take (start + len - start) (drop start body) ≡ take len (drop start body)
text_part body start len = ap (λ (n : ℕ). take n (drop start body)) (add-sub_cancel_left start len)

-- ---- the block, by its tag

-- the part lies inside, by the code's test and by the definition's
inside_test : (l a len : ℕ) → a ≤ l → leb (a + len) l ≡ not (ltb ((l - a) / 1) len)
inside_test l a len h = by (ltb ((l - a) / 1) len) refl
  where
    by : (t : Bool) → ltb ((l - a) / 1) len ≡ t → leb (a + len) l ≡ not t
    by true t = let c : (l - a) / 1 < len = ltb-true ((l - a) / 1) len t in lt-leb (a + len) l (omega arith)
    by false t = let c : len ≤ (l - a) / 1 = ltb-false ((l - a) / 1) len t in le-leb (a + len) l (omega arith)

module _ (body : List ℕ) (at : ℕ) where
  unfoldable pub end_of : Answer (Block × ℕ) → Answer ℕ
  end_of q = and_then q (λ (b, end). gives end)

  pub integer_end : end_of (block_of 0 body at) ≡ end_u64 body at
  unfolding end_of block_of pick and_then read_i64 end_u64
  integer_end = by (read_u64 body at)
    where
      by : (a : Answer (ℕ × ℕ)) →
          end_of (and_then (and_then {B = ℤ × ℕ} a (λ (u, n). gives (unzigzag u, n))) (λ (v, n). gives (Block.integer v, at + n)))
          ≡ and_then a (λ (v, n). gives (at + n))
      by (gives p) = refl
      by (refuses k) = refl

  pub real_end : end_of (block_of 1 body at) ≡ fixed_end body at 8
  unfolding end_of block_of pick and_then
  real_end = by (ltb (length body - at) 8)
    where
      by : (t : Bool) →
          end_of (pick t (refuses 7) (gives (Block.real (of_bits binary64 (le 8 at body)) (le 8 at body), at + 8)))
          ≡ pick t (refuses 7) (gives (at + 8))
      by true = refl
      by false = refl

  pub text_link : end_of (block_of 2 body at) ≡ text_end body at
  unfolding end_of block_of pick and_then check_at
  text_link = by (read_u64 body at) refl
    where
      well : (start len : ℕ) (w : Answer (Unit {0})) →
          end_of (and_then w (λ _. gives (Block.text start len, start + len))) ≡ and_then w (λ _. gives (start + len))
      well start len (gives u) = refl
      well start len (refuses k) = refl

      room : (len n : ℕ) (t : Bool) →
          end_of (and_then (pick (not t) (check_text (take len (drop (at + n) body))) (refuses 7)) (λ _. gives (Block.text (at + n) len, at + n + len)))
          ≡ and_then (pick t (refuses 7) (gives (at + n, len))) (λ (start, l). and_then (check_text (take l (drop start body))) (λ _. gives (start + l)))
      room len n true = refl
      room len n false = well (at + n) len (check_text (take len (drop (at + n) body)))

      by : (a : Answer (ℕ × ℕ)) → read_u64 body at ≡ a →
          end_of (and_then a (λ (len, n). and_then (check_at body (at + n) len) (λ _. gives (Block.text (at + n) len, at + n + len))))
          ≡ and_then (and_then a (λ (len, n). pick (ltb ((length body - (at + n)) / 1) len) (refuses 7) (gives (at + n, len))))
          (λ (start, l). and_then (check_text (take l (drop start body))) (λ _. gives (start + l)))
      by (gives p) h =
          rw (inside_test (length body) (at + p.1) p.0 (read_inside body at h)) (room p.0 p.1 (ltb ((length body - (at + p.1)) / 1) p.0))
      by (refuses k) h = refl

  pub bool_end : at ≤ length body → end_of (block_of 3 body at) ≡ fixed_end body at 1
  unfolding end_of block_of pick and_then
  bool_end h = by (ltb at (length body)) refl
    where
      by : (t : Bool) → ltb at (length body) ≡ t →
          end_of (pick t (gives (Block.bool (not (eqb (get_or body at 0) 0)), at + 1)) (refuses 7))
          ≡ pick (ltb (length body - at) 1) (refuses 7) (gives (at + 1))
      by true t = let c : at < length body = ltb-true at (length body) t in rw (le-ltb (length body - at) 1 (omega arith))
      by false t = let c : length body ≤ at = ltb-false at (length body) t in rw (lt-ltb (length body - at) 1 (omega arith))

  pub vector_link : end_of (block_of 4 body at) ≡ vector_end body at
  unfolding end_of block_of pick and_then
  vector_link = by (read_u64 body at)
    where
      by2 : (dim n : ℕ) (t : Bool) → end_of (pick t (refuses 7) (gives (Block.vector (at + n) dim, at + n + 4 * dim)))
          ≡ and_then (pick t (refuses 7) (gives (at + n, dim))) (λ (start, d). gives (start + 4 * d))
      by2 dim n true = refl
      by2 dim n false = refl

      by : (a : Answer (ℕ × ℕ)) →
          end_of (and_then a (λ (dim, n). pick (ltb ((length body - (at + n)) / 4) dim) (refuses 7) (gives (Block.vector (at + n) dim, at + n + 4 * dim))))
          ≡ and_then (and_then a (λ (dim, n). pick (ltb ((length body - (at + n)) / 4) dim) (refuses 7) (gives (at + n, dim)))) (λ (start, d). gives (start + 4 * d))
      by (gives p) = by2 p.0 p.1 (ltb ((length body - (at + p.1)) / 4) p.0)
      by (refuses k) = refl

-- only a tag of 0 to 4 begins one
pub unknown : (tag : ℕ) (body : List ℕ) (at : ℕ) → 4 < tag → block_of tag body at ≡ refuses 9
unfolding block_of pick
unknown tag body at l =
    rw (ne_eqb tag 0 (omega arith), ne_eqb tag 1 (omega arith), ne_eqb tag 2 (omega arith), ne_eqb tag 3 (omega arith), ne_eqb tag 4 (omega arith))

module _ (body : List ℕ) (at : ℕ) where
  pub block_missing : length body ≤ at → block_end body at ≡ refuses 7
  unfolding block_end block pick and_then
  block_missing l = rw (le-ltb at (length body) l)

  module _ (h : at < length body) where
    pub tagged : {k : ℕ} → get_or body at 0 ≡ k → block_end body at ≡ end_of body (at + 1) (block_of k body (at + 1))
    unfolding block_end block pick end_of
    tagged e = rw (lt-ltb at (length body) h, e)

    pub block_integer : get_or body at 0 ≡ 0 → block_end body at ≡ end_u64 body (at + 1)
    block_integer e = rw (tagged e) (integer_end body (at + 1))

    pub block_real : get_or body at 0 ≡ 1 → block_end body at ≡ fixed_end body (at + 1) 8
    block_real e = rw (tagged e) (real_end body (at + 1))

    pub block_text : get_or body at 0 ≡ 2 → block_end body at ≡ text_end body (at + 1)
    block_text e = rw (tagged e) (text_link body (at + 1))

    pub block_bool : get_or body at 0 ≡ 3 → block_end body at ≡ fixed_end body (at + 1) 1
    block_bool e = rw (tagged e) (bool_end body (at + 1) (omega arith))

    pub block_vector : get_or body at 0 ≡ 4 → block_end body at ≡ vector_end body (at + 1)
    block_vector e = rw (tagged e) (vector_link body (at + 1))

    pub block_unknown : 4 < get_or body at 0 → block_end body at ≡ refuses 9
    unfolding end_of and_then
    block_unknown l = rw (tagged refl, unknown (get_or body at 0) body (at + 1) l)

pub ruleset blocks = (
  at_inside,
  counted_inside,
  text_part,
  block_missing,
  block_integer,
  block_real,
  block_text,
  block_bool,
  block_vector,
  block_unknown,
)
