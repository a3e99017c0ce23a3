-- The peeks, which look at no more than they name.
-- Assumes nothing.
use Rattle.std.proofs.Common.{◌≡◌, ℕ, ◌+◌, ◌-◌, ◌<◌, ◌≤◌, Bool, true, false, ltb, List, length, get_or, drop, sym, refl, ap, arith, length-drop, get_or-drop, drop-drop, ltb-true, ltb-false, le-ltb, lt-ltb}
use Rattle.paper.specs.Answer.{Answer, gives, refuses, and_then, pick}
use Rattle.paper.proofs.Laws.{gives_one}
use Rattle.varint.specs.Leb.{read_u64}
use Rattle.varint.specs.Number.{read_i64}
use Rattle.varint.proofs.Places.{at_inside, read_as_i64}
use Rattle.cell.specs.Entry.{peek_kind, peek_rowid, rowid_at}
use Rattle.cell.specs.Words.{kind_place}
use Rattle.cell.proofs.Accepting.{not_other, then_gave}

-- the kind byte is inside
pub kind_inside : (s : List ℕ) (pos : ℕ) {at : ℕ} → gives at ≡ kind_place s pos → at < length s
kind_inside s pos g =
    let (v, v-is, v-then) = then_gave (read_u64 s pos) _ (sym g) in
    let (t, f) = not_other (ltb (pos + v.1) (length s)) 4 _ v-then in
    rw (← gives_one f) (ltb-true (pos + v.1) (length s) t)

-- ---- what the peeks say of the entry at a place, by the place of its kind byte
module _ (s : List ℕ) (pos : ℕ) where
  there : (n : ℕ) → ltb n (length (drop pos s)) ≡ ltb (pos + n) (length s)
  there n = by (ltb (pos + n) (length s)) refl
    where
      by : (t : Bool) → ltb (pos + n) (length s) ≡ t → ltb n (length (drop pos s)) ≡ t
      by true t =
          let l : pos + n < length s = ltb-true (pos + n) (length s) t in
          rw (length-drop pos s) (lt-ltb n (length s - pos) (omega arith))
      by false t =
          let l : length s ≤ pos + n = ltb-false (pos + n) (length s) t in
          rw (length-drop pos s) (le-ltb n (length s - pos) (omega arith))

  -- whatever is done at the kind byte
  at_kind : {A : Type 0} (here : ℕ → Answer A) (go : ℕ → Answer A) → ((n : ℕ) → go n ≡ here (pos + n))
      → and_then (read_u64 s pos) (λ (len, n). pick (ltb n (length (drop pos s))) (go n) (refuses 4)) ≡ and_then (kind_place s pos) here
  unfolding and_then pick
  at_kind {A} here go same = by (read_u64 s pos)
    where
      by2 : (n : ℕ) (t : Bool) → pick t (go n) (refuses 4) ≡ and_then (pick t (gives (pos + n)) (refuses 4)) here
      by2 n true = same n
      by2 n false = refl

      by : (a : Answer (ℕ × ℕ)) → and_then a (λ (len, n). pick (ltb n (length (drop pos s))) (go n) (refuses 4))
          ≡ and_then (and_then a (λ (len, n). pick (ltb (pos + n) (length s)) (gives (pos + n)) (refuses 4))) here
      by (gives p) = rw (there p.1) (by2 p.1 (ltb (pos + p.1) (length s)))
      by (refuses k) = refl

  pub peek_kind_is : peek_kind (drop pos s) ≡ and_then (kind_place s pos) (λ at. gives (get_or s at 0))
  unfolding peek_kind read_u64
  peek_kind_is = at_kind (λ at. gives (get_or s at 0)) (λ n. gives (get_or (drop pos s) n 0)) (λ n. ap gives (get_or-drop pos s n 0))

  rowid_moved : (n : ℕ) → rowid_at (drop pos s) (n + 1) ≡ rowid_at s (pos + n + 1)
  unfolding rowid_at read_i64 read_u64
  rowid_moved n = let e : pos + (n + 1) ≡ pos + n + 1 = omega arith in rw (drop-drop (n + 1) pos s, e)

  pub peek_rowid_is : peek_rowid (drop pos s) ≡ and_then (kind_place s pos) (λ at. rowid_at s (at + 1))
  unfolding peek_rowid read_u64
  peek_rowid_is = at_kind (λ at. rowid_at s (at + 1)) (λ n. rowid_at (drop pos s) (n + 1)) rowid_moved

pub ruleset peeks = (at_inside, kind_inside, peek_kind_is, peek_rowid_is, read_as_i64)
