-- A number of at most three bytes, written by three stores.
-- Assumes nothing.
use Rattle.std.proofs.Common.{◌≡◌, ℕ, ◌+◌, ◌*◌, ◌/◌, ◌%◌, ◌^◌, ◌<◌, ◌≤◌, Bool, true, false, leb, List, length, set, refl, div-one, arith, length-set, set-set, w8, Fits, leb-false, leb-true}
use Rattle.std.specs.Int.{from_bool}
use Rattle.paper.specs.Answer.{over}
use Rattle.varint.specs.Leb.{leb_bytes, len_u64}
use Rattle.varint.proofs.Writing.{Filling, filling_start, filling_more, filling_count, filling_done}

module _ (value : ℕ) (P : ℕ → ℕ → Type 0) (one : value < 128 → P 0 0) (two : 128 ≤ value → value < 16384 → P 1 1) (three : 16384 ≤ value → P 1 2) where
  by_length : (s t : Bool) → leb 128 value ≡ s → leb 16384 value ≡ t → P (from_bool s) (from_bool s + from_bool t)
  by_length true true e f = three (leb-true 16384 value f)
  by_length true false e f = two (leb-true 128 value e) (leb-false 16384 value f)
  by_length false true e f = absurd (let l : value < 128 = leb-false 128 value e in let g : 16384 ≤ value = leb-true 16384 value f in omega arith)
  by_length false false e f = one (leb-false 128 value e)

-- the place of the second byte, and how far the last is from it
module _ (value : ℕ) {m k : ℕ} (em : m ≡ from_bool (leb 128 value)) (ek : k ≡ from_bool (leb 16384 value)) where
  so : (P : ℕ → ℕ → Type 0) → (value < 128 → P 0 0) → (128 ≤ value → value < 16384 → P 1 1) → (16384 ≤ value → P 1 2) → P m (m + k)
  so P one two three = rw (em, ek) (by_length value P one two three (leb 128 value) (leb 16384 value) refl refl)

  module _ (small : value < 2 ^ 21) where
    pub short_byte : Fits w8 (value / 2 ^ (7 * (m + k)))
    short_byte =
        let b : value / 2 ^ (7 * (m + k)) < 128
        = so (λ m l. value / 2 ^ (7 * l) < 128) (λ a. rw (div-one value) a) (λ a b. omega arith) (λ a. omega arith) in
        record { fits = omega arith }

    module _ (out : List ℕ) (room : len_u64 value ≤ length out) where
      begun : Filling out value out value 0
      begun = filling_start (omega arith) room

      pub short_count : m + k + 1 ≡ len_u64 value
      short_count =
          so (λ m l. l + 1 ≡ len_u64 value)
          (λ a. filling_count begun a)
          (λ a b. filling_count (filling_more begun a) (omega arith))
          (λ a. filling_count (filling_more (filling_more begun (omega arith)) (omega arith)) (omega arith))

      pub short_second : (a : ℕ) → m < length (set out 0 a)
      short_second a = rw (length-set out 0 a) (omega (arith, short_count))

      pub short_last : (a b : ℕ) → m + k < length (set (set out 0 a) m b)
      short_last a b = rw (length-set (set out 0 a) m b, length-set out 0 a) (omega (arith, short_count))

      pub short_done : set (set (set out 0 (128 + value % 128)) m (128 + value / 128 % 128)) (m + k) (value / 2 ^ (7 * (m + k))) ≡ over out (leb_bytes value)
      short_done =
          so (λ m l. set (set (set out 0 (128 + value % 128)) m (128 + value / 128 % 128)) l (value / 2 ^ (7 * l)) ≡ over out (leb_bytes value))
          (λ a. rw (set-set out 0 (128 + value % 128) (128 + value / 128 % 128), set-set out 0 (128 + value / 128 % 128) (value / 1), div-one value) (filling_done begun a))
          (λ a b. rw (set-set (set out 0 (128 + value % 128)) 1 (128 + value / 128 % 128) (value / 128)) (filling_done (filling_more begun a) (omega arith)))
          (λ a.
          let e : value / 16384 ≡ value / 128 / 128 = omega arith in
          rw e (filling_done (filling_more (filling_more begun (omega arith)) (omega arith)) (omega arith)))

pub ruleset short = (short_byte, short_count, short_second, short_last, short_done)
