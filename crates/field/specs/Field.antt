-- Little-endian fields of any width. A byte that is not there counts as 0, so reading is total.
use Rattle.std.specs.Prelude.{ℕ, zero, suc, ◌+◌, ◌*◌, ◌/◌, ◌%◌, List, [], ◌∷◌, get_or}

-- the number in n bytes from place i on, the lowest first
abbrev pub le : ℕ → ℕ → List ℕ → ℕ
le zero i s = 0
le (suc n) i s = get_or s i 0 + 256 * le n (suc i) s

-- the n bytes of a number, the lowest first; what does not fit is dropped
unfoldable pub bytes : ℕ → ℕ → List ℕ
bytes zero v = []
bytes (suc n) v = v % 256 ∷ bytes n (v / 256)
