-- UTF-8 by scalar values: D76 (what a scalar value is) and D92 (the encoding form), with the bits of Table 3-6.
use Rattle.std.specs.Prelude.{ℕ, ◌+◌, ◌/◌, ◌%◌, ◌≤◌, ◌<◌, List, [], ◌∷◌, ◌++◌, ◌⊎◌, ltb}
use Rattle.paper.specs.Answer.{pick}

-- every code point but the surrogates
abbrev pub Scalar : ℕ → Type 0
Scalar v = (v < 0xD800) ⊎ ((0xE000 ≤ v) × (v < 0x110000))

abbrev pub Scalars : List ℕ → Type 0
Scalars [] = Unit {0}
Scalars (v ∷ vs) = Scalar v × Scalars vs

-- Table 3-6: six bits of the value to each byte after the first, the lowest six last
unfoldable pub bytes_of : ℕ → List ℕ
bytes_of v =
    pick (ltb v 0x80) (v ∷ [])
    (pick (ltb v 0x800) ((0b1100_0000 + v / 64) ∷ (0b1000_0000 + v % 64) ∷ [])
    (pick (ltb v 0x10000) ((0b1110_0000 + v / 4096) ∷ (0b1000_0000 + v / 64 % 64) ∷ (0b1000_0000 + v % 64) ∷ [])
    ((0b1111_0000 + v / 262144) ∷ (0b1000_0000 + v / 4096 % 64) ∷ (0b1000_0000 + v / 64 % 64) ∷ (0b1000_0000 + v % 64) ∷ [])))

unfoldable pub encode : List ℕ → List ℕ
encode [] = []
encode (v ∷ vs) = bytes_of v ++ encode vs
