-- The head of a local entry.
-- Assumes nothing.
use Rattle.std.proofs.Common.{◌≡◌, ℕ, zero, suc, ◌+◌, ◌-◌, ◌≤◌, List, length, take, drop, ap, arith, drop_of_length-le}
use Rattle.std.proofs.lemmas.List.{take_rest}
use Rattle.paper.specs.Answer.{gives, refuses, and_then}
use Rattle.paper.proofs.Laws.{gives_one, first}
use Rattle.varint.specs.Leb.{read_from, taken}
use Rattle.cell.specs.Entry.{framed, entry}
use Rattle.cell.specs.Block.{Block, columns}
use Rattle.cell.specs.Local.{cell_from, head_from}
use Rattle.cell.specs.Framing.{FrameAt}
use Rattle.cell.specs.LocalRead.{ReadsToEnd}
use Rattle.cell.specs.declared.inner.framing.Framed.{Framed}
use Rattle.cell.specs.declared.inner.Local.{Local}
use Rattle.cell.proofs.Columns.{first_of}

-- as many blocks as columns
pub columns_length : (n c map : ℕ) (body : List ℕ) (at : ℕ) {bs : List Block} {e : ℕ} → gives (bs, e) ≡ columns n c map body at → length bs ≡ n
unfolding columns
columns_length zero c map body at g = ap length (ap first (gives_one g))
columns_length (suc n) c map body at g =
    let f = first_of n c map body at g in
    rw (← f.parts) (ap suc (columns_length n (c + 1) map body f.next f.more))

-- the entry at the start of a list
pub head_given : (s : List ℕ) {f : Framed} {l : Local} → FrameAt s f → ReadsToEnd (take (f.end - f.at) (drop f.at s)) l
    → gives (l.rowid, l.columns.count, f.end) ≡ head_from s
unfolding head_from cell_from entry and_then
head_given s {f} {l} w r =
    let n : f.at + (f.end - f.at) ≡ f.end = omega (arith, w.ordered) in
    rw (← w.given, ← r.same, columns_length l.columns.count 0 l.columns.map _ _ r.all.read, n)

-- ---- at a place
module _ (s : List ℕ) (pos : ℕ) where
  pub head_past : length s ≤ pos → head_from (drop pos s) ≡ refuses 1
  unfolding head_from cell_from entry framed and_then read_from taken
  head_past l = rw (drop_of_length-le s l)

  pub head_at : head_from (take (length s - pos) (drop pos s)) ≡ head_from (drop pos s)
  head_at = ap head_from (take_rest s pos)

pub ruleset heads = (head_given, head_past, head_at)
