-- A loop over the kinds and their words, eight bytes each: what a turn takes off, and that both come to their end together.
-- Assumes nothing.
use Rattle.std.proofs.Common.{◌≡◌, ℕ, zero, suc, ◌/◌, List, [], ◌∷◌, length, drop, refl, ap, arith, w64, ◌⊎◌, inl, inr}
use Rattle.std.specs.Simd.{first_chunks}
use Rattle.std.specs.Int.{from_le_bytes}
use Rattle.field.specs.Field.{le}
use Rattle.field.proofs.Laws.{le_take}
use Rattle.cell.specs.ValueList.{words_of}
use Rattle.cell.specs.Listing.{word_list, numbers}

pub empty : {A : Type 0} (xs : List A) → length xs ≡ 0 → xs ≡ []
empty [] e = refl
empty (x ∷ xs) e = absurd (omega arith)

-- in arrays of eight bytes they are the same
numbers_of : (n : ℕ) (s : List ℕ) → numbers (first_chunks 8 n s) ≡ words_of n s
unfolding numbers words_of
numbers_of zero s = refl
numbers_of (suc n) s = rw (le_take 8 0 8 s (omega arith), numbers_of n (drop 8 s))

pub numbers_chunks : (words : List ℕ) → numbers (first_chunks 8 (length words / 8) words) ≡ words_of (length words / 8) words
numbers_chunks words = numbers_of (length words / 8) words

-- a word for each whole eight bytes
words_length : (n : ℕ) (s : List ℕ) → length (words_of n s) ≡ n
unfolding words_of
words_length zero s = refl
words_length (suc n) s = ap suc (words_length n (drop 8 s))

pub list_length : (words : List ℕ) → length (word_list words) ≡ length words / 8
unfolding word_list
list_length words = words_length (length words / 8) words

-- a word by std's reading
pub le_word : (word : List ℕ) → from_le_bytes w64 word ≡ le 8 0 word
le_word word = omega arith

-- ---- a loop over kinds and words: a turn takes the first of both, and both come to their end together
module _ {kinds : List ℕ} {words : List (List ℕ)} {kind : ℕ} {word kinds' : List ℕ} {words' : List (List ℕ)} (t : (kinds ≡ kind ∷ kinds') × (words ≡ word ∷ words')) where
  pub turn_words : {v : ℕ} → v ≡ from_le_bytes w64 word → numbers words ≡ v ∷ numbers words'
  unfolding numbers
  turn_words {v} e = rw (t.1, e, le_word word)

  pub turn_even : length words ≡ length kinds → length words' ≡ length kinds'
  turn_even e =
      let k : length kinds ≡ suc (length kinds') = ap length t.0 in
      let l : length words ≡ suc (length words') = ap length t.1 in
      omega arith

pub no_turn : {A B : Type 0} {P : A → Type 0} {Q : B → Type 0} (kinds : List ℕ) (words : List (List ℕ)) → length words ≡ length kinds
    → ((x : A) × ((length kinds ≡ 0) × P x)) ⊎ ((x : B) × ((length words ≡ 0) × Q x)) → length kinds ≡ 0
no_turn kinds words e (inl p) = p.1.0
no_turn kinds words e (inr p) = omega (arith, p.1.0)
