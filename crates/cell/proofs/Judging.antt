-- One column of a value list, judged and measured.
-- Assumes nothing.
use Rattle.std.proofs.Common.{◌≡◌, ℕ, zero, suc, ◌*◌, ◌/◌, ◌<◌, ◌≤◌, List, length, take, drop, refl, ap, ◌∙◌, arith, length-append, length-take-le, ne_eqb}
use Rattle.paper.specs.Answer.{gives, refuses, pick}
use Rattle.paper.proofs.Laws.{paper}
use Rattle.field.proofs.Storing.{length_bytes}
use Rattle.varint.specs.Leb.{leb_bytes, len_u64}
use Rattle.utf8.specs.WellFormed.{check_text}
use Rattle.utf8.specs.Ascii.{Plain}
use Rattle.utf8.proofs.Ascii.{plain_part}
use Rattle.cell.specs.Content.{Content}
use Rattle.cell.specs.Written.{block_bytes}
use Rattle.cell.specs.ValueList.{item}
use Rattle.cell.specs.Listing.{used, held, block_len}
use Rattle.cell.proofs.Numbers.{leb_most}
use Rattle.cell.proofs.BlockWriting.{held_none}

-- ---- lengths
pub len_most : (value : ℕ) {r : ℕ} → r ≡ len_u64 value → r ≤ 10
len_most value e = rw e (leb_most value)

pub len_none : (kind word : ℕ) → 4 < kind → 0 ≡ block_len kind word
unfolding block_len
len_none kind word k = search paper

-- it is the length of the block that is written
pub block_length : (kind word : ℕ) (rest : List ℕ) → used kind word ≤ length rest → length (block_bytes (held kind word rest)) ≡ block_len kind word
unfolding block_bytes held used block_len pick
block_length zero word rest l = omega arith
block_length (suc zero) word rest l = ap suc (length_bytes 8 word)
block_length (suc (suc zero)) word rest l =
    rw (length-take-le word rest l, length-append (leb_bytes word) (take word rest), length-take-le word rest l) (omega arith)
block_length (suc (suc (suc zero))) word rest l = refl
block_length (suc (suc (suc (suc zero)))) word rest l =
    let e : 4 * word / 4 ≡ word = omega arith in
    rw (length-take-le (4 * word) rest l, e, length-append (leb_bytes word) (take (4 * word) rest), length-take-le (4 * word) rest l) (omega arith)
block_length (suc (suc (suc (suc (suc kind))))) word rest l =
    let b : 4 < suc (suc (suc (suc (suc kind)))) = omega arith in
    ap (λ (c : Content). length (block_bytes c)) (held_none (suc (suc (suc (suc (suc kind))))) word rest b)
    ∙ len_none (suc (suc (suc (suc (suc kind))))) word b

-- ---- text
pub ascii_part : {s : List ℕ} → Plain s 0 (length s) → (n from : ℕ) → gives tt ≡ check_text (take n (drop from s))
unfolding check_text pick
ascii_part p n from = rw (plain_part p n from)

-- ---- a kind that is none
pub unknown_refused : (kind word : ℕ) (rest : List ℕ) → 4 < kind → (kind ≡ 5 → ⊥) → (kind ≡ 255 → ⊥) → refuses 15 ≡ item kind word rest
unfolding item pick
unknown_refused kind word rest l a b =
    let c : kind ≡ 0 → ⊥ = λ e. omega arith in
    let d : kind ≡ 1 → ⊥ = λ e. omega arith in
    let e : kind ≡ 2 → ⊥ = λ e. omega arith in
    let f : kind ≡ 3 → ⊥ = λ e. omega arith in
    let g : kind ≡ 4 → ⊥ = λ e. omega arith in
    rw (ne_eqb kind 0 c, ne_eqb kind 1 d, ne_eqb kind 2 e, ne_eqb kind 3 f, ne_eqb kind 4 g, ne_eqb kind 5 a, ne_eqb kind 255 b)
