-- The null bitmap, from the kinds.
-- Assumes nothing.
use Rattle.std.proofs.Common.{◌≡◌, ℕ, zero, suc, ◌+◌, ◌*◌, ◌/◌, ◌%◌, ◌^◌, ◌<◌, ◌≤◌, Bool, true, false, eqb, List, [], ◌∷◌, length, get_or, take, drop, set, sym, refl, ap, ◌∙◌, pow-suc, arith, length-drop, take_all, drop-drop, pow_mono, fold, reverse}
use Rattle.std.proofs.lemmas.Grind.{fold-append, reverse_onto}
use Rattle.std.specs.Simd.{first_chunks}
use Rattle.paper.specs.Answer.{over, pick}
use Rattle.cell.specs.Block.{bitmap_bytes}
use Rattle.cell.specs.Listing.{kind_bit, kind_bits, kind_map}
use Rattle.cell.proofs.Placing.{Storing, storing_start, storing_inside, storing_more, storing_done}

-- ---- a byte: the last column first
pub one_bit : (b : Bool) → pick b 1 0 ≤ 1
unfolding pick
one_bit true = omega arith
one_bit false = omega arith

bit_most : (kind : ℕ) → kind_bit kind ≤ 1
unfolding kind_bit
bit_most kind = one_bit (eqb kind 255)

bits_below : (kinds : List ℕ) → kind_bits kinds < 2 ^ length kinds
unfolding kind_bits
bits_below [] = omega arith
bits_below (kind ∷ kinds) =
    let h : kind_bits kinds < 2 ^ length kinds = bits_below kinds in
    let p : 2 ^ suc (length kinds) ≡ 2 ^ length kinds * 2 = pow-suc 2 (length kinds) in
    omega (arith, bit_most kind)

-- a byte with a column before those in it
abbrev pub doubled : ℕ → ℕ → ℕ
doubled byte kind = byte * 2 % 2 ^ 8 + kind_bit kind

fold_bits : (kinds : List ℕ) → length kinds ≤ 8 → fold doubled 0 (reverse kinds) ≡ kind_bits kinds
unfolding kind_bits
fold_bits [] l = refl
fold_bits (kind ∷ kinds) l =
    let h : fold doubled 0 (reverse kinds) ≡ kind_bits kinds = fold_bits kinds (omega arith) in
    let b : kind_bits kinds < 2 ^ length kinds = bits_below kinds in
    let l : length kinds ≤ 7 = omega arith in
    let p : 2 ^ length kinds ≤ 2 ^ 7 = pow_mono l in
    rw (reverse_onto kinds kind [], fold-append doubled 0 (reverse kinds) (kind ∷ []), h) (omega arith)

pub bits_folded : (kinds : List ℕ) → length kinds ≤ 8 → {r : ℕ} → r ≡ fold doubled 0 (reverse kinds) → r ≡ kind_bits kinds
bits_folded kinds l e = e ∙ fold_bits kinds l

-- ---- the bitmap
pub map_length : (n : ℕ) (kinds : List ℕ) → length (kind_map n kinds) ≡ n
unfolding kind_map
map_length zero kinds = refl
map_length (suc n) kinds = ap suc (map_length n (drop 8 kinds))

map_at : (n b : ℕ) (kinds : List ℕ) → b < n → get_or (kind_map n kinds) b 0 ≡ kind_bits (take 8 (drop (8 * b) kinds))
unfolding kind_map
map_at zero b kinds h = absurd (omega arith)
map_at (suc n) zero kinds h = refl
map_at (suc n) (suc b) kinds h =
    let e : 8 * suc b ≡ 8 + 8 * b = omega arith in
    rw (e, ← drop-drop (8 * b) 8 kinds) (map_at n b (drop 8 kinds) (omega arith))

chunk_at : (n b : ℕ) (kinds : List ℕ) (d : List ℕ) → b < n → get_or (first_chunks 8 n kinds) b d ≡ take 8 (drop (8 * b) kinds)
chunk_at zero b kinds d h = absurd (omega arith)
chunk_at (suc n) zero kinds d h = refl
chunk_at (suc n) (suc b) kinds d h =
    let e : 8 * suc b ≡ 8 + 8 * b = omega arith in
    rw (e, ← drop-drop (8 * b) 8 kinds) (chunk_at n b (drop 8 kinds) d (omega arith))

-- b bytes are stored
pub record Mapping (old kinds out : List ℕ) (b : ℕ) : Type 0 where
  pub storing : Storing old (kind_map (bitmap_bytes (length kinds)) kinds) out b

pub mapping_start : (out kinds : List ℕ) → bitmap_bytes (length kinds) ≤ length out → Mapping out kinds out 0
mapping_start out kinds l =
    record { storing = storing_start out (kind_map (bitmap_bytes (length kinds)) kinds) (rw (map_length (bitmap_bytes (length kinds)) kinds) l) }

module _ {old kinds out : List ℕ} {b : ℕ} (w : Mapping old kinds out b) (whole : List (List ℕ)) (m : length whole ≡ length kinds / 8) where
  inside : b < bitmap_bytes (length kinds) → b < length (kind_map (bitmap_bytes (length kinds)) kinds)
  inside h = rw (map_length (bitmap_bytes (length kinds)) kinds) h

  done : {new : List ℕ} {n : ℕ} → Storing old (kind_map (bitmap_bytes (length kinds)) kinds) new n → bitmap_bytes (length kinds) ≤ n
      → new ≡ over old (kind_map (bitmap_bytes (length kinds)) kinds)
  done s l = storing_done s (rw (map_length (bitmap_bytes (length kinds)) kinds) l)

  module _ (h : b < length whole) where
    more : b < bitmap_bytes (length kinds)
    unfolding bitmap_bytes
    more = omega arith

    pub mapping_inside : b < length out
    mapping_inside = storing_inside w.storing (inside more)

    pub mapping_more : {v : ℕ} → whole ≡ first_chunks 8 (length kinds / 8) kinds → v ≡ kind_bits (get_or whole b []) → Mapping old kinds (set out b v) (b + 1)
    mapping_more {v} f e =
        let c : v ≡ kind_bits (take 8 (drop (8 * b) kinds)) = e ∙ rw f (ap kind_bits (chunk_at (length kinds / 8) b kinds [] (rw m at h))) in
        record { storing = storing_more w.storing (inside more) (c ∙ sym (map_at (bitmap_bytes (length kinds)) b kinds more)) }

  module _ (h : length whole ≤ b) (k : b ≤ length whole) where
    pub mapping_done : length kinds % 8 ≡ 0 → out ≡ over old (kind_map (bitmap_bytes (length kinds)) kinds)
    unfolding bitmap_bytes
    mapping_done l = done w.storing (omega arith)

    module _ (l : 0 < length kinds % 8) where
      last_more : b < bitmap_bytes (length kinds)
      unfolding bitmap_bytes
      last_more = omega arith

      here : length whole ≡ b
      here = omega arith

      pub last_inside : length whole < length out
      last_inside = rw here (storing_inside w.storing (inside last_more))

      pub mapping_last : {v : ℕ} {last : List ℕ} → last ≡ drop (length kinds / 8 * 8) kinds → v ≡ kind_bits last
          → set out (length whole) v ≡ over old (kind_map (bitmap_bytes (length kinds)) kinds)
      unfolding bitmap_bytes
      mapping_last {v} d e =
          let n : length kinds / 8 * 8 ≡ 8 * b = omega arith in
          let t : take 8 (drop (8 * b) kinds) ≡ drop (8 * b) kinds = take_all 8 (drop (8 * b) kinds) (rw (length-drop (8 * b) kinds) (omega arith)) in
          let f : v ≡ kind_bits (take 8 (drop (8 * b) kinds)) = rw (t, ← n, ← d) e in
          rw here (done (storing_more w.storing (inside last_more) (f ∙ sym (map_at (bitmap_bytes (length kinds)) b kinds last_more))) (omega arith))

pub ruleset nulls = (mapping_start, mapping_inside, mapping_more, mapping_done, last_inside, mapping_last)
