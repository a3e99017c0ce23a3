-- The walk over the columns, and what it says of a whole body.
-- Assumes nothing.
use Rattle.std.proofs.Common.{◌≡◌, ℕ, zero, suc, ◌+◌, ◌-◌, ◌*◌, ◌<◌, ◌≤◌, Bool, true, false, ltb, List, ◌∷◌, length, get_or, take, drop, sym, refl, ap, ◌∙◌, arith, ltb-false, ltb-true}
use Rattle.paper.specs.Answer.{Answer, gives, refuses, and_then, pick}
use Rattle.paper.proofs.Laws.{gives_one, gives_refuses, first, second}
use Rattle.varint.proofs.Places.{end_inside}
use Rattle.utf8.specs.WellFormed.{check_text}
use Rattle.cell.specs.Block.{Block, null, block, block_of, columns, is_null}
use Rattle.cell.specs.Words.{fixed_end, counted, text_end, vector_end, block_end, column_end, columns_end}
use Rattle.cell.proofs.Accepting.{not_refused, then_gave}
use Rattle.cell.proofs.Blocks.{counted_inside, end_of, integer_end, real_end, text_link, bool_end, vector_link, unknown, tagged, block_missing}

-- ---- the place behind a block lies inside the body, past its own place

fixed_inside : (body : List ℕ) (at size : ℕ) {e : ℕ} → at ≤ length body → gives e ≡ fixed_end body at size → (at ≤ e) × (e ≤ length body)
fixed_inside body at size {e} h g =
    let (t, f) = not_refused (ltb (length body - at) size) 7 _ (sym g) in
    let c : size ≤ length body - at = ltb-false (length body - at) size t in
    let d : at + size ≡ e = gives_one f in
    (omega arith, omega arith)

text_inside : (body : List ℕ) (at : ℕ) {e : ℕ} → gives e ≡ text_end body at → (at ≤ e) × (e ≤ length body)
text_inside body at {e} g =
    let (v, v-is, v-then) = then_gave (counted 1 body at) _ (sym g) in
    let (u, u-is, k) = then_gave (check_text (take v.1 (drop v.0 body))) _ v-then in
    let (s, i) = counted_inside 1 body at (sym v-is) in
    let d : v.0 + v.1 ≡ e = gives_one k in
    (omega arith, omega arith)

vector_inside : (body : List ℕ) (at : ℕ) {e : ℕ} → gives e ≡ vector_end body at → (at ≤ e) × (e ≤ length body)
vector_inside body at {e} g =
    let (v, v-is, v-then) = then_gave (counted 4 body at) _ (sym g) in
    let (s, i) = counted_inside 4 body at (sym v-is) in
    let d : v.0 + 4 * v.1 ≡ e = gives_one v-then in
    (omega arith, omega arith)

block_of_inside : (tag : ℕ) (body : List ℕ) (at : ℕ) {e : ℕ} → at ≤ length body → gives e ≡ end_of body at (block_of tag body at) → (at ≤ e) × (e ≤ length body)
unfolding end_of and_then
block_of_inside zero body at h g =
    let (l, m) = end_inside body at (g ∙ integer_end body at) in (omega arith, m)
block_of_inside (suc zero) body at h g = fixed_inside body at 8 h (g ∙ real_end body at)
block_of_inside (suc (suc zero)) body at h g = text_inside body at (g ∙ text_link body at)
block_of_inside (suc (suc (suc zero))) body at h g = fixed_inside body at 1 h (g ∙ bool_end body at h)
block_of_inside (suc (suc (suc (suc zero)))) body at h g = vector_inside body at (g ∙ vector_link body at)
block_of_inside (suc (suc (suc (suc (suc tag))))) body at h g =
    absurd (gives_refuses (rw (unknown (suc (suc (suc (suc (suc tag))))) body at (omega arith)) at g))

pub block_inside : (body : List ℕ) (at : ℕ) {e : ℕ} → gives e ≡ block_end body at → (at < e) × (e ≤ length body)
block_inside body at {e} g = by (ltb at (length body)) refl
  where
    past : length body ≤ at → block_end body at ≡ refuses 7
    past l = block_missing body at l

    by : (t : Bool) → ltb at (length body) ≡ t → (at < e) × (e ≤ length body)
    by true t =
        let h : at < length body = ltb-true at (length body) t in
        let (l, m) = block_of_inside (get_or body at 0) body (at + 1) (omega arith) (g ∙ tagged body at h refl) in
        (omega arith, m)
    by false t = absurd (gives_refuses (g ∙ past (ltb-false at (length body) t)))

-- ---- the first of some columns, and the others

-- what is read at a place for a column
abbrev pub reading : ℕ → ℕ → List ℕ → ℕ → Answer (Block × ℕ)
reading c map body at = pick (is_null body map c) (gives (null, at)) (block body at)

pub record First (n c map : ℕ) (body : List ℕ) (at : ℕ) (bs : List Block) (end : ℕ) : Type 0 where
  pub head : Block
  pub next : ℕ
  pub tail : List Block
  pub read : gives (head, next) ≡ reading c map body at
  pub more : gives (tail, end) ≡ columns n (c + 1) map body next
  pub parts : head ∷ tail ≡ bs

pub first_of : (n c map : ℕ) (body : List ℕ) (at : ℕ) {bs : List Block} {end : ℕ} → gives (bs, end) ≡ columns (suc n) c map body at
    → First n c map body at bs end
unfolding columns
first_of n c map body at g =
    let (v, v-is, v-then) = then_gave (reading c map body at) _ (sym g) in
    let (w, w-is, w-then) = then_gave (columns n (c + 1) map body v.1) _ v-then in
    record {
      head = v.0;
      next = v.1;
      tail = w.0;
      read = sym v-is;
      more = ap (λ (e : ℕ). gives (w.0, e)) (sym (ap second (gives_one w-then))) ∙ sym w-is;
      parts = ap first (gives_one w-then);
    }

-- ---- one column
pub column_inside : (body : List ℕ) (map c at : ℕ) {e : ℕ} → at ≤ length body → gives e ≡ column_end body map c at → (at ≤ e) × (e ≤ length body)
unfolding column_end block_end pick and_then
column_inside body map c at {e} h g = by (is_null body map c) g
  where
    by : (t : Bool) → gives e ≡ and_then (pick t (gives (null, at)) (block body at)) (λ (b, end). gives end) → (at ≤ e) × (e ≤ length body)
    by true g = let z : e ≡ at = gives_one g in (omega arith, omega arith)
    by false g = let (l, m) = block_inside body at {e = e} g in (omega arith, m)

-- ---- the columns, one after another
pub columns_step : (n c map : ℕ) (body : List ℕ) (at : ℕ) → columns_end (suc n) c map body at ≡ and_then (column_end body map c at) (λ next. columns_end n (c + 1) map body next)
unfolding columns_end column_end columns and_then
columns_step n c map body at = by (pick (is_null body map c) (gives (null, at)) (block body at))
  where
    by2 : (b : Block) (a : Answer (List Block × ℕ)) →
        and_then {B = ℕ} (and_then {B = List Block × ℕ} a (λ (bs, end). gives (b ∷ bs, end))) (λ (bs, end). gives end) ≡ and_then a (λ (bs, end). gives end)
    by2 b (gives p) = refl
    by2 b (refuses k) = refl

    by : (a : Answer (Block × ℕ)) →
        and_then {B = ℕ} (and_then {B = List Block × ℕ} a (λ (b, next). and_then (columns n (c + 1) map body next) (λ (bs, end). gives (b ∷ bs, end)))) (λ (bs, end). gives end)
        ≡ and_then (and_then a (λ (b, end). gives end)) (λ next. and_then (columns n (c + 1) map body next) (λ (bs, end). gives end))
    by (gives p) = by2 p.0 (columns n (c + 1) map body p.1)
    by (refuses k) = refl

module _ (n c map : ℕ) (body : List ℕ) (at : ℕ) where
  pub columns_all : n ≤ c → columns_end (n - c) c map body at ≡ gives at
  unfolding columns_end columns and_then
  columns_all l = let e : n - c ≡ 0 = omega arith in rw e

  pub columns_next : c < n → columns_end (n - c) c map body at ≡ and_then (column_end body map c at) (λ next. columns_end (n - (c + 1)) (c + 1) map body next)
  columns_next l = let e : n - c ≡ suc (n - (c + 1)) = omega arith in rw e (columns_step (n - (c + 1)) c map body at)

pub ruleset walks = (columns_all, columns_next)
