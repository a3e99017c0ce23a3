-- ZigZag there and back on the 64-bit patterns, and what the generic calls promise of each integer.
-- Assumes nothing.
use Rattle.std.proofs.Common.{◌≡◌, ℕ, suc, ◌+◌, ◌-◌, ◌/◌, ◌%◌, ◌^◌, ◌<◌, ◌≤◌, ℤ, negsuc, refl, ap, ◌∙◌, arith, w64, Fits, SFits, to_z, of_z, eq-eqb, ne_eqb}
use mir.ValLaws.{to_z_pos, to_z-neg, to_z-of_z}
use Rattle.paper.specs.Answer.{pick}
use Rattle.varint.specs.Leb.{len_u64, write_u64}
use Rattle.varint.specs.Zigzag.{zigzag, unzigzag}
use Rattle.varint.specs.Number.{len_i64, write_i64}

-- ---- the pattern doubled modulo 2 ^ 64, complemented from 2 ^ 63 on
pub doubled_plus : {bits r : ℕ} → bits < 2 ^ 63 → r ≡ (bits + bits) % 2 ^ 64 → r ≡ zigzag (to_z w64 bits)
unfolding zigzag
doubled_plus {bits} {r} l e = rw (to_z_pos w64 bits l) (omega arith)

pub doubled_minus : {bits r : ℕ} → Fits w64 bits → 2 ^ 63 ≤ bits → r ≡ (bits + bits) % 2 ^ 64 → 2 ^ 64 - 1 - r ≡ zigzag (to_z w64 bits)
unfolding zigzag
doubled_minus {bits} {r} f l e =
    let d : bits ≡ 2 ^ 64 - suc (2 ^ 64 - suc bits) = omega arith in
    let z : to_z w64 bits ≡ negsuc (2 ^ 64 - suc bits) = ap (to_z w64) d ∙ to_z-neg w64 (2 ^ 64 - suc bits) (omega arith) in
    rw z (omega arith)

-- the pattern of a signed number stands for it
pub of_pattern : (z : ℤ) → SFits w64 z → {p r : ℕ} → p ≡ of_z w64 (to_z w64 (of_z w64 z)) → r ≡ zigzag (to_z w64 p) → r ≡ zigzag z
of_pattern z f {p} {r} q e = rw (q, to_z-of_z w64 z f, to_z-of_z w64 z f) at e

-- ---- ZigZag back
pub half_even : (u : ℕ) → u < 2 ^ 64 → u % 2 ≡ 0 → to_z w64 (u / 2) ≡ unzigzag u
unfolding unzigzag pick
half_even u l e = rw (eq-eqb (u % 2) 0 e) (to_z_pos w64 (u / 2) (omega arith))

pub half_odd : (u : ℕ) → u < 2 ^ 64 → (u % 2 ≡ 0 → ⊥) → to_z w64 (2 ^ 64 - 1 - u / 2) ≡ unzigzag u
unfolding unzigzag pick
half_odd u l e =
    let d : 2 ^ 64 - 1 - u / 2 ≡ 2 ^ 64 - suc (u / 2) = omega arith in
    rw (ne_eqb (u % 2) 0 e, d) (to_z-neg w64 (u / 2) (omega arith))

-- ---- the generic calls at i64
pub write_as_i64 : (z : ℤ) (room : ℕ) → write_u64 (zigzag z) room ≡ write_i64 z room
unfolding write_i64
write_as_i64 z room = refl

pub len_as_i64 : (z : ℤ) → len_u64 (zigzag z) ≡ len_i64 z
unfolding len_i64
len_as_i64 z = refl

pub ruleset patterns = (doubled_plus, doubled_minus, half_even, half_odd)
