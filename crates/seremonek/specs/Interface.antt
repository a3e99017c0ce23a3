-- How an answer goes through C: a number, 0 or the refusal's, and an array of 64-bit words.
use Rattle.std.specs.Prelude.{ℕ, List, [], ◌∷◌, ℤ}
use Rattle.std.specs.Int.{w64}
use Rattle.std.proofs.Common.{of_z}
use Rattle.paper.specs.Answer.{Answer, gives, refuses, pick}
use Rattle.cell.specs.Block.{Block, null, integer, real, bool, text, vector}

-- the number returned: 0 where the call accepts
abbrev pub code_of : {A : Type 0} → Answer A → ℕ
code_of (gives a) = 0
code_of (refuses k) = k

-- the answer array: the words of what is given; a refusal leaves the array as it was
abbrev pub answered : {A : Type 0} → (A → List ℕ) → Answer A → List ℕ → List ℕ
answered words (gives a) old = words a
answered words (refuses k) old = old

-- ---- the words of each kind of answer, in order

abbrev pub one : ℕ → List ℕ
one n = n ∷ []

abbrev pub two : ℕ × ℕ → List ℕ
two (a, b) = a ∷ b ∷ []

-- a signed number is its 64-bit pattern
abbrev pub signed_one : ℤ → List ℕ
signed_one z = of_z w64 z ∷ []

abbrev pub signed_two : ℤ × ℕ → List ℕ
signed_two (z, n) = of_z w64 z ∷ n ∷ []

abbrev pub signed_three : ℤ × ℕ × ℕ → List ℕ
signed_three (z, m, n) = of_z w64 z ∷ m ∷ n ∷ []

-- a column's value: its kind, which is the tag, or 255 for a null; its word; and the place of a text's or a vector's bytes
abbrev pub value_three : Block → List ℕ
value_three null = 255 ∷ 0 ∷ 0 ∷ []
value_three (integer v) = 0 ∷ of_z w64 v ∷ 0 ∷ []
value_three (real f bits) = 1 ∷ bits ∷ 0 ∷ []
value_three (text at len) = 2 ∷ len ∷ at ∷ []
value_three (bool b) = 3 ∷ pick b 1 0 ∷ 0 ∷ []
value_three (vector at dim) = 4 ∷ dim ∷ at ∷ []
