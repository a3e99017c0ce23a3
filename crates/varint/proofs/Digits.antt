-- The length of a number by its binary digits: a group for each seven of them.
-- Assumes nothing.
use Rattle.std.proofs.Common.{◌≡◌, ℕ, zero, suc, ◌+◌, ◌-◌, ◌*◌, ◌/◌, ◌^◌, ◌<◌, ◌≤◌, Bool, true, false, ltb, refl, ◌∙◌, le_trans, lt_of_lt_of_le, pow-suc, arith, pow_mono, w64, Fits, ltb-false, ltb-true}
use lib.Bits.{bit_or, or_step, or_zero_r}
use lib.Count.{count_leading_zeros, leading_le, leading_top}
use Rattle.varint.specs.Leb.{len_u64}
use Rattle.varint.proofs.Limits.{Passed, passed_none, passed_last, passed_more, passed_all}

-- with its lowest digit set: the number itself, or one more where it is even
odd : (v : ℕ) → bit_or v 1 ≡ v / 2 * 2 + 1
odd v = or_step v 1 ∙ rw (or_zero_r (v / 2)) (omega arith)

module _ (v j : ℕ) (low : 2 ^ j ≤ v / 2 * 2 + 1) where
  -- a limit is even, so it passes no odd number that it is not below
  reached : (n : ℕ) → 7 * (n + 1) ≤ j → 2 ^ (7 * (n + 1)) ≤ v
  reached n l =
      let h : 2 ^ (7 * (n + 1)) ≤ v / 2 * 2 + 1 = le_trans (pow_mono l) low in
      let e : 7 * (n + 1) ≡ suc (7 * n + 6) = omega arith in
      let f : 2 ^ (7 * (n + 1)) ≡ 2 ^ (7 * n + 6) * 2 = rw e (pow-suc 2 (7 * n + 6)) in
      omega arith

  passed : (n : ℕ) → 7 * n ≤ j → n ≤ 9 → Passed v n
  passed zero l m = passed_none v
  passed (suc n) l m =
      let e : n + 1 ≡ suc n = omega arith in
      rw e at (passed_more (passed n (omega arith) (omega arith)) (omega arith) refl (reached n (omega arith)))

  module _ (high : v / 2 * 2 + 1 < 2 ^ suc j) (most : j ≤ 63) where
    below : j / 7 < 9 → v < 2 ^ (7 * (j / 7 + 1))
    below l =
        let h : v / 2 * 2 + 1 < 2 ^ (7 * (j / 7 + 1)) = lt_of_lt_of_le high (pow_mono (omega arith)) in
        omega arith

    groups_of_seven : j / 7 + 1 ≡ len_u64 v
    groups_of_seven =
        let p : Passed v (j / 7) = passed (j / 7) (omega arith) (omega arith) in
        by p (ltb (j / 7) 9) refl
      where
        by : Passed v (j / 7) → (t : Bool) → ltb (j / 7) 9 ≡ t → j / 7 + 1 ≡ len_u64 v
        by p true e = let l : j / 7 < 9 = ltb-true (j / 7) 9 e in passed_last p l refl (below l)
        by p false e =
            let l : 9 ≤ j / 7 = ltb-false (j / 7) 9 e in
            let f : j / 7 + 1 ≡ 10 = omega arith in
            f ∙ passed_all p l

-- what the count of leading zeros makes of it
module _ (v : ℕ) where
  pub by_digits : Fits w64 v → (9 * (64 - count_leading_zeros 64 (bit_or v 1)) + 64) / 64 ≡ len_u64 v
  by_digits f =
      let h : v < 2 ^ 64 = f.fits in
      let (j, sum, low, high) = leading_top 64 (v / 2 * 2 + 1) (omega arith) (omega arith) in
      let q : (9 * (64 - count_leading_zeros 64 (v / 2 * 2 + 1)) + 64) / 64 ≡ j / 7 + 1 = omega arith in
      rw (odd v) (q ∙ groups_of_seven v j low high (omega arith))

pub ruleset digits = (leading_le, by_digits)
