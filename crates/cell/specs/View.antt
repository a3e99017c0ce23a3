-- What a page knows of the entries on it: whether a whole entry stands at the head of a list of bytes, its size, its rowid.
use Rattle.std.specs.Prelude.{◌≡◌, ℕ, ◌≤◌, List, ◌++◌, length, take, ℤ}
use Rattle.paper.specs.Answer.{Answer, gives}
use Rattle.cell.specs.Entry.{peek_rowid}

-- a reader of whole entries: the rowid, and the bytes that the entry takes
abbrev pub View : Type 0
View = List ℕ → Answer (ℤ × ℕ)

-- the laws that a slotted page needs
pub record Lawful (view : View) : Type 0 where
  -- an entry has a byte at least, and lies inside the list
  pub some : (s : List ℕ) {rowid : ℤ} {size : ℕ} → view s ≡ gives (rowid, size) → 1 ≤ size
  pub inside : (s : List ℕ) {rowid : ℤ} {size : ℕ} → view s ≡ gives (rowid, size) → size ≤ length s
  -- its bytes read the same with anything behind them
  pub anywhere : (s : List ℕ) {rowid : ℤ} {size : ℕ} → view s ≡ gives (rowid, size) → (t : List ℕ) → view (take size s ++ t) ≡ gives (rowid, size)
  -- the rowid that is peeked at is the one that is read
  pub peeked : (s : List ℕ) {rowid : ℤ} {size : ℕ} → view s ≡ gives (rowid, size) → peek_rowid s ≡ gives rowid
