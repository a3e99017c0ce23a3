-- Reading from a part, reading after writing, and writing after reading, for every width.
-- Assumes nothing.
use mathlib.Core.Path.{◌≡◌, refl, sym, ap, ◌∙◌}
use mathlib.Core.List.{List, ◌∷◌, ◌++◌}
use Prim.Native.Nat.{ℕ, zero, suc, ◌+◌, ◌*◌, ◌/◌, ◌%◌, ◌^◌, ◌≤◌, ◌<◌}
use native.Mathlib.Omega.{arith}
use lib.ListN.{length, take, drop, get_or}
use lib.Seq.{get_or-take, get_or-drop, drop-cons}
use lib.Pow.{shr_lt}
use Rattle.field.specs.Field.{le, bytes}

-- a field depends on its own bytes, and no others: none before its place
pub le_drop : (n i j : ℕ) (s : List ℕ) → le n i (drop j s) ≡ le n (j + i) s
le_drop zero i j s = refl
le_drop (suc n) i j s =
    let e : j + suc i ≡ suc (j + i) = omega arith in
    rw (get_or-drop j s i 0, le_drop n (suc i) j s, e)

-- and none behind its end
pub le_take : (n i m : ℕ) (s : List ℕ) → i + n ≤ m → le n i (take m s) ≡ le n i s
le_take zero i m s l = refl
le_take (suc n) i m s l = rw (get_or-take m s i 0 (omega arith), le_take n (suc i) m s (omega arith))

-- what is written is read back, with anything behind it
pub le_bytes : (n v : ℕ) (t : List ℕ) → v < 2 ^ (8 * n) → le n 0 (bytes n v ++ t) ≡ v
unfolding bytes
le_bytes zero v t h = omega arith
le_bytes (suc n) v t h =
    let f : 8 * suc n ≡ 8 * n + 8 = omega arith in
    let l : v / 256 < 2 ^ (8 * n) = shr_lt (8 * n) 8 (rw f at h) in
    let d : le n 1 (v % 256 ∷ (bytes n (v / 256) ++ t)) ≡ v / 256
    = sym (le_drop n 0 1 (v % 256 ∷ (bytes n (v / 256) ++ t))) ∙ le_bytes n (v / 256) t l in
    rw d (omega arith)

-- what is read and written again is the bytes that were read
pub bytes_le : (n at : ℕ) (s : List ℕ) → ((i : ℕ) → get_or s i 0 < 256) → at + n ≤ length s → bytes n (le n at s) ≡ take n (drop at s)
unfolding bytes
bytes_le zero at s b l = refl
bytes_le (suc n) at s b l =
    let x : ℕ = get_or s at 0 in
    let y : ℕ = le n (suc at) s in
    let low : (x + 256 * y) % 256 ≡ x = omega (arith, b at) in
    let high : (x + 256 * y) / 256 ≡ y = omega (arith, b at) in
    rw (drop-cons s at 0 (omega arith), low, high) (ap (λ (r : List ℕ). x ∷ r) (bytes_le n (suc at) s b (omega arith)))
