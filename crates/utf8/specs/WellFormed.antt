-- A text is well-formed if it is a sequence of the table's rows. Said twice: as a plain statement, and as a test that reads
-- the bytes once, by which the calls are defined. `proofs/Rows.antt` shows that the two are the same.
use Rattle.std.specs.Prelude.{ℕ, ◌+◌, ◌≤◌, Bool, true, false, leb, length, take, drop}
use mathlib.Core.List.{List, [], ◌∷◌, ◌++◌, Memᴰ}
use Rattle.std.proofs.Math.Option.{Option, none, some}
use Rattle.paper.specs.Answer.{Answer, gives, refuses, pick}
use Rattle.utf8.specs.Table.{Range, ◌‥◌, Row, table}

-- ---- the statement

abbrev pub In : Range → ℕ → Type 0
In (lo ‥ hi) b = (lo ≤ b) × (b ≤ hi)

-- one byte from each range of the row, in order
pub data Fits : Row → List ℕ → Type 0 where
  done : Fits [] []
  byte : {r : Range} {rs : Row} {b : ℕ} {s : List ℕ} → In r b → Fits rs s → Fits (r ∷ rs) (b ∷ s)

-- rows of the table, one after another
pub data OfRows : List ℕ → Type 0 where
  end : OfRows []
  row : {r : Row} {u t : List ℕ} → Memᴰ r table → Fits r u → OfRows t → OfRows (u ++ t)

-- ---- the test

unfoldable pub inside : Range → ℕ → Bool
inside (lo ‥ hi) b = pick (leb lo b) (leb b hi) false

-- what is left of the row that this byte begins
unfoldable pub begun : List Row → ℕ → Option Row
begun [] b = none
begun ([] ∷ rows) b = begun rows b
begun ((r ∷ rs) ∷ rows) b = pick (inside r b) (some rs) (begun rows b)

-- what is left of a row after one more byte; `none` where no row has that byte there
unfoldable pub after : Option Row → ℕ → Option Row
after none b = none
after (some []) b = begun table b
after (some (r ∷ rs)) b = pick (inside r b) (some rs) none

unfoldable pub whole : Option Row → Bool
whole none = false
whole (some []) = true
whole (some (r ∷ rs)) = false

-- the bytes complete the row that was begun, and go on in whole rows
unfoldable pub completes : Option Row → List ℕ → Bool
completes left [] = whole left
completes left (b ∷ s) = completes (after left b) s

unfoldable pub well_formed : List ℕ → Bool
well_formed s = completes (some []) s

-- ---- the calls

-- check: text, or refusal 8
unfoldable pub check_text : List ℕ → Answer (Unit {0})
check_text s = pick (well_formed s) (gives tt) (refuses 8)

-- check_at: the len bytes from place at. Refusal 7 where they do not lie inside
unfoldable pub check_at : List ℕ → ℕ → ℕ → Answer (Unit {0})
check_at s at len = pick (leb (at + len) (length s)) (check_text (take len (drop at s))) (refuses 7)
