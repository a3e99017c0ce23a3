-- One column of a good value list: the data that it takes, and its value block.
-- Assumes nothing.
use Rattle.std.proofs.Common.{◌≡◌, ℕ, zero, suc, ◌*◌, ◌/◌, ◌<◌, ◌≤◌, List, ◌∷◌, length, sym, refl, arith, length-take-le}
use Rattle.paper.specs.Answer.{pick}
use Rattle.paper.proofs.Laws.{paper}
use Rattle.cell.specs.Content.{none}
use Rattle.cell.specs.Written.{block_bytes}
use Rattle.cell.specs.Tag.{tag_byte}
use Rattle.cell.specs.declared.tag.Tag.{Tag}
use Rattle.cell.specs.declared.tag.Tag.TheVariants.{Integer, Real, Text, Bool, Vector}
use Rattle.cell.specs.Listing.{used, held, payload}

-- ---- the value block: its tag, and what comes after it
pub held_block : (kind word : ℕ) (rest : List ℕ) → kind ≤ 4 → used kind word ≤ length rest → block_bytes (held kind word rest) ≡ kind ∷ payload kind word rest
unfolding block_bytes held payload used pick
held_block zero word rest k l = refl
held_block (suc zero) word rest k l = refl
held_block (suc (suc zero)) word rest k l = rw (length-take-le word rest l)
held_block (suc (suc (suc zero))) word rest k l = refl
held_block (suc (suc (suc (suc zero)))) word rest k l =
    let e : 4 * word / 4 ≡ word = omega arith in
    rw (length-take-le (4 * word) rest l, e)
held_block (suc (suc (suc (suc (suc kind))))) word rest k l = absurd (omega arith)

pub held_none : (kind word : ℕ) (rest : List ℕ) → 4 < kind → held kind word rest ≡ none
unfolding held
held_none kind word rest k =
    let a : kind ≡ 0 → ⊥ = λ e. omega arith in
    let b : kind ≡ 1 → ⊥ = λ e. omega arith in
    let c : kind ≡ 2 → ⊥ = λ e. omega arith in
    let d : kind ≡ 3 → ⊥ = λ e. omega arith in
    let e : kind ≡ 4 → ⊥ = λ e. omega arith in
    sym (search paper)

pub used_none : (kind word : ℕ) → 4 < kind → used kind word ≡ 0
unfolding used
used_none kind word k =
    let c : kind ≡ 2 → ⊥ = λ e. omega arith in
    let e : kind ≡ 4 → ⊥ = λ e. omega arith in
    sym (search paper)

pub tag_block : (tag : Tag) (word : ℕ) (rest : List ℕ) → used (tag_byte tag) word ≤ length rest
    → block_bytes (held (tag_byte tag) word rest) ≡ tag_byte tag ∷ payload (tag_byte tag) word rest
tag_block Integer word rest l = held_block 0 word rest (omega arith) l
tag_block Real word rest l = held_block 1 word rest (omega arith) l
tag_block Text word rest l = held_block 2 word rest (omega arith) l
tag_block Bool word rest l = held_block 3 word rest (omega arith) l
tag_block Vector word rest l = held_block 4 word rest (omega arith) l
