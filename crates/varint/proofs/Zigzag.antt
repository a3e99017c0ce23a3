-- ZigZag against the Protocol Buffers encoding page: "positive integers p are encoded as 2 * p, negative integers n as 2 * |n| - 1";
-- a bijection between the signed and the unsigned 64-bit numbers.
-- Assumes nothing.
use Rattle.std.proofs.Common.{◌≡◌, ℕ, suc, ◌+◌, ◌*◌, ◌/◌, ◌%◌, ◌^◌, ◌<◌, Bool, true, false, eqb, List, ◌++◌, length, ℤ, pos, negsuc, ◌-ℤ◌, ◌*ℤ◌, neg_ℤ, sym, refl, arith, w64, SFits, eqb-true}
use lib.IntN.{neg_ℤ-neg_ℤ, -ℤ_one}
use lib.Seq.{drop-append_seam}
use borrow.Author.Tests.{eqb-false}
use Rattle.paper.specs.Answer.{gives, and_then, pick}
use Rattle.varint.specs.Leb.{read_u64, leb_bytes}
use Rattle.varint.specs.Number.{read_i64, len_i64}
use Rattle.varint.specs.Zigzag.{zigzag, unzigzag, undone}
use Rattle.varint.proofs.Standard.{written_read}

-- the two rules, as integers
pub from_zero_on : (n : ℕ) → pos (zigzag (pos n)) ≡ pos 2 *ℤ pos n
unfolding zigzag
from_zero_on n = refl

pub below_zero : (n : ℕ) → pos (zigzag (negsuc n)) ≡ neg_ℤ (pos 2 *ℤ negsuc n) -ℤ pos 1
unfolding zigzag
below_zero n =
    let e : 2 * suc n ≡ suc (2 * n + 1) = omega arith in
    rw (neg_ℤ-neg_ℤ (pos (2 * suc n)), e) (sym (-ℤ_one (pos (suc (2 * n + 1)))))

-- each undoes the other
pub back : (z : ℤ) → unzigzag (zigzag z) ≡ z
back = undone

pub forth : (u : ℕ) → zigzag (unzigzag u) ≡ u
unfolding zigzag unzigzag pick
forth u = by (eqb (u % 2) 0) refl
  where
    by : (t : Bool) → eqb (u % 2) 0 ≡ t → zigzag (pick t (pos (u / 2)) (negsuc (u / 2))) ≡ u
    by true t = let e : u % 2 ≡ 0 = eqb-true (u % 2) 0 t in omega arith
    by false t = let e : u % 2 ≡ 0 → ⊥ = eqb-false (u % 2) 0 t in omega arith

-- and the 64-bit numbers are the 64-bit numbers
pub unsigned_fits : (z : ℤ) → SFits w64 z → zigzag z < 2 ^ 64
unfolding zigzag
unsigned_fits (pos n) f = let l : n < 2 ^ 63 = f.sfits in omega arith
unsigned_fits (negsuc n) f = let l : n < 2 ^ 63 = f.sfits in omega arith

pub signed_fits : (u : ℕ) → u < 2 ^ 64 → SFits w64 (unzigzag u)
unfolding unzigzag pick
signed_fits u h = by (eqb (u % 2) 0)
  where
    by : (t : Bool) → SFits w64 (pick t (pos (u / 2)) (negsuc (u / 2)))
    by true = record { sfits = omega arith }
    by false = record { sfits = omega arith }

-- ---- the round trip of a signed number
pub signed_written_read : (z : ℤ) → SFits w64 z → (before after : List ℕ) →
    read_i64 (before ++ (leb_bytes (zigzag z) ++ after)) (length before) ≡ gives (z, len_i64 z)
unfolding read_i64 read_u64 and_then len_i64
signed_written_read z f before after =
    rw (drop-append_seam before (leb_bytes (zigzag z) ++ after), written_read (zigzag z) (unsigned_fits z f) after, back z)
