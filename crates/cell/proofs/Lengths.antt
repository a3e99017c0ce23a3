-- The lengths of what is written, for callers.
-- Assumes nothing.
use Rattle.std.proofs.Common.{◌≡◌, ℕ, zero, suc, ◌+◌, ◌-◌, ◌*◌, ◌/◌, ◌≤◌, List, [], ◌∷◌, ◌++◌, length, drop, ℤ, refl, ap, arith, length-append, length-drop, w64, to_z}
use Rattle.paper.specs.Answer.{pick}
use Rattle.varint.specs.Leb.{leb_bytes}
use Rattle.varint.specs.Zigzag.{zigzag}
use Rattle.cell.specs.Block.{bitmap_bytes}
use Rattle.cell.specs.Content.{Content}
use Rattle.cell.specs.Written.{block_bytes, blocks_bytes, bitmap, body_bytes}
use Rattle.cell.specs.Listing.{used, held, block_len, used_all, held_all}
use Rattle.cell.proofs.Numbers.{leb_most}
use Rattle.cell.proofs.Judging.{block_length, len_none}

pub bitmap_length : (n : ℕ) (cs : List Content) → length (bitmap n cs) ≡ n
unfolding bitmap
bitmap_length zero cs = refl
bitmap_length (suc n) cs = ap suc (bitmap_length n (drop 8 cs))

-- ---- a row that was listed is short: eleven bytes a column, and its data
block_most : (kind word : ℕ) → block_len kind word ≤ 11 + used kind word
unfolding block_len used pick
block_most zero word = omega (arith, leb_most (zigzag (to_z w64 word)))
block_most (suc zero) word = omega arith
block_most (suc (suc zero)) word = omega (arith, leb_most word)
block_most (suc (suc (suc zero))) word = omega arith
block_most (suc (suc (suc (suc zero)))) word = omega (arith, leb_most word)
block_most (suc (suc (suc (suc (suc kind))))) word = omega (arith, len_none (suc (suc (suc (suc (suc kind))))) word (omega arith))

pub blocks_most : (kinds words rest : List ℕ) → used_all kinds words ≤ length rest → length (blocks_bytes (held_all kinds words rest)) ≤ 11 * length kinds + used_all kinds words
unfolding blocks_bytes held_all used_all
blocks_most [] words rest l = omega arith
blocks_most (kind ∷ kinds) [] rest l = omega arith
blocks_most (kind ∷ kinds) (word ∷ words) rest l =
    let left : List ℕ = drop (used kind word) rest in
    let n : length left ≡ length rest - used kind word = length-drop (used kind word) rest in
    let h = blocks_most kinds words left (omega arith) in
    let b : length (block_bytes (held kind word rest)) ≡ block_len kind word = block_length kind word rest (omega arith) in
    omega (arith, block_most kind word, length-append (block_bytes (held kind word rest)) (blocks_bytes (held_all kinds words left)))

pub body_most : (rowid : ℤ) (cs : List Content) → length cs ≤ 65536 → length (body_bytes (rowid, cs)) ≤ 8213 + length (blocks_bytes cs)
unfolding body_bytes bitmap_bytes
body_most rowid cs l =
    let m : ℕ = (length cs + 7) / 8 in
    omega (
      arith,
      leb_most (zigzag rowid),
      leb_most (length cs),
      bitmap_length m cs,
      length-append (bitmap m cs) (blocks_bytes cs),
      length-append (leb_bytes (length cs)) (bitmap m cs ++ blocks_bytes cs),
      length-append (leb_bytes (zigzag rowid)) (leb_bytes (length cs) ++ (bitmap m cs ++ blocks_bytes cs)),
    )
