-- How the code reads the table: a machine of nine states. Nothing of it is promised to callers.
-- A state is the low six bits of a number, a multiple of 6, and the code moves by shifting a number of nine such fields by the state.
-- In octal a field is two digits: 00, 06, 14, 22, 30, 36, 44, 52, 60.
use Rattle.std.specs.Prelude.{ℕ, ◌/◌, ◌%◌, Bool, true, false, ◌&&◌, nat_eq, nat_le, List, [], ◌∷◌, get_or}
use Rattle.std.proofs.Math.Option.{Option, none, some}
use Rattle.utf8.specs.Table.{◌‥◌, Row}

-- what is left of the row that was begun, state by state. The second is the state of no row
unfoldable pub states : List (Option Row)
states =
    some [] ∷
    none ∷
    some (0x80 ‥ 0xBF ∷ []) ∷
    some (0x80 ‥ 0xBF ∷ 0x80 ‥ 0xBF ∷ []) ∷
    some (0xA0 ‥ 0xBF ∷ 0x80 ‥ 0xBF ∷ []) ∷
    some (0x80 ‥ 0x9F ∷ 0x80 ‥ 0xBF ∷ []) ∷
    some (0x90 ‥ 0xBF ∷ 0x80 ‥ 0xBF ∷ 0x80 ‥ 0xBF ∷ []) ∷
    some (0x80 ‥ 0xBF ∷ 0x80 ‥ 0xBF ∷ 0x80 ‥ 0xBF ∷ []) ∷
    some (0x80 ‥ 0x8F ∷ 0x80 ‥ 0xBF ∷ 0x80 ‥ 0xBF ∷ []) ∷ []

-- the same by the state's number
unfoldable pub left_by : ℕ → Option Row
left_by x = get_or states (x % 64 / 6) none

abbrev pub is_state : ℕ → Bool
is_state x = nat_eq (x % 64 % 6) 0 && nat_le (x % 64) 48

-- after bytes of no row
unfoldable pub no_row : Option Row → Bool
no_row none = true
no_row (some left) = false
