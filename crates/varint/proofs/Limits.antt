-- The table of nine limits has one rule, and the length of a number goes by it.
-- Assumes nothing.
use Rattle.std.proofs.Common.{◌≡◌, ℕ, zero, suc, ◌+◌, ◌-◌, ◌*◌, ◌/◌, ◌%◌, ◌^◌, ◌<◌, ◌≤◌, Bool, true, false, ltb, List, [], ◌∷◌, length, get_or, sym, refl, suc-le-suc, zero-le, le_of_suc-le-suc, not-suc-le-zero, div-lt_iff_lt-mul, le-div_iff_mul-le, zero-add, div-one, arith, pow_pos, pow-add, shr-shr, le-ltb, lt-ltb}
use Rattle.paper.specs.Answer.{pick}
use Rattle.varint.specs.Leb.{groups, leb_bytes, len_u64}

-- n limits from the one that i groups of seven bits pass
unfoldable pub limits_from : ℕ → ℕ → List ℕ
limits_from i zero = []
limits_from i (suc n) = 2 ^ (7 * (i + 1)) ∷ limits_from (i + 1) n

pub limit_at : (k i n : ℕ) → k < n → get_or (limits_from i n) k 0 ≡ 2 ^ (7 * (i + k + 1))
unfolding limits_from
limit_at k i zero h = absurd (not-suc-le-zero h)
limit_at zero i (suc n) h = let e : i + 1 ≡ i + 0 + 1 = omega arith in rw e
limit_at (suc k) i (suc n) h =
    let e : i + suc k + 1 ≡ i + 1 + k + 1 = omega arith in
    rw e (limit_at k (i + 1) n (le_of_suc-le-suc h))

-- the rule of the code's table
pub table_limit : (table : List ℕ) → table ≡ limits_from 0 9 → (k : ℕ) → k < 9 → get_or table k 0 ≡ 2 ^ (7 * (k + 1))
table_limit table is k h = rw (is, limit_at k 0 9 h, zero-add k)

-- ---- groups of seven bits
pub groups_last : (n v : ℕ) → v < 128 → groups (suc n) v ≡ v ∷ []
unfolding groups pick
groups_last n v h = rw (lt-ltb v 128 h)

pub groups_more : (n v : ℕ) → 128 ≤ v → groups (suc n) v ≡ (128 + v % 128) ∷ groups n (v / 128)
unfolding groups pick
groups_more n v h = rw (le-ltb v 128 h)

pub groups_some : (n v : ℕ) → 1 ≤ length (groups (suc n) v)
unfolding groups pick
groups_some n v = by (ltb v 128) refl
  where
    by : (t : Bool) → ltb v 128 ≡ t → 1 ≤ length (groups (suc n) v)
    by true e = rw e (suc-le-suc zero-le)
    by false e = rw e (suc-le-suc zero-le)

pub groups_one : (v : ℕ) → length (groups 1 v) ≡ 1
unfolding groups pick
groups_one v = by (ltb v 128) refl
  where
    by : (t : Bool) → ltb v 128 ≡ t → length (groups 1 v) ≡ 1
    by true e = rw e
    by false e = rw e

-- at most as many as are allowed
pub groups_most : (n v : ℕ) → length (groups n v) ≤ n
unfolding groups pick
groups_most zero v = zero-le
groups_most (suc n) v = by (ltb v 128) refl (groups_most n (v / 128))
  where
    by : (t : Bool) → ltb v 128 ≡ t → length (groups n (v / 128)) ≤ n → length (groups (suc n) v) ≤ suc n
    by true t ih = rw t (suc-le-suc zero-le)
    by false t ih = rw t (suc-le-suc ih)

-- ---- the length: n limits are passed, and the rest of the number has the rest of the groups
pub record Passed (v n : ℕ) : Type 0 where
  pub most : n ≤ 9
  pub same : n + length (groups (10 - n) (v / 2 ^ (7 * n))) ≡ len_u64 v

pub passed_none : (v : ℕ) → Passed v 0
unfolding leb_bytes
passed_none v =
    record { most = zero-le; same = rw (div-one v, zero-add (length (groups 10 v))) }

module _ {v n l : ℕ} (p : Passed v n) (t : n < 9) (e : l ≡ 2 ^ (7 * (n + 1))) where
  limit_split : l ≡ 128 * 2 ^ (7 * n)
  limit_split = let f : 7 * (n + 1) ≡ 7 + 7 * n = omega arith in rw (e, f) (pow-add 2 7 (7 * n))

  pub passed_last : v < l → n + 1 ≡ len_u64 v
  passed_last h =
      let f : 10 - n ≡ suc (9 - n) = omega arith in
      let g : v / 2 ^ (7 * n) < 128 = (div-lt_iff_lt-mul (pow_pos (7 * n))).1 (rw limit_split at h) in
      rw (f, groups_last (9 - n) (v / 2 ^ (7 * n)) g) at p.same

  pub passed_more : l ≤ v → Passed v (n + 1)
  passed_more h =
      let f : 10 - n ≡ suc (10 - (n + 1)) = omega arith in
      let g : 128 ≤ v / 2 ^ (7 * n) = (le-div_iff_mul-le (pow_pos (7 * n))).1 (rw limit_split at h) in
      let d : v / 2 ^ (7 * n) / 128 ≡ v / 2 ^ (7 * (n + 1))
      = let f : 7 * (n + 1) ≡ 7 * n + 7 = omega arith in rw f (shr-shr v (7 * n) 7) in
      let m : len_u64 v ≡ n + suc (length (groups (10 - (n + 1)) (v / 2 ^ (7 * (n + 1)))))
      = rw (f, groups_more (10 - (n + 1)) (v / 2 ^ (7 * n)) g, d) at (sym p.same) in
      record { most = omega arith; same = omega arith }

pub passed_all : {v n : ℕ} → Passed v n → 9 ≤ n → 10 ≡ len_u64 v
passed_all {v} {n} p h =
    let l : n ≤ 9 = p.most in
    let e : n ≡ 9 = omega arith in
    rw (e, groups_one (v / 2 ^ 63)) at p.same
