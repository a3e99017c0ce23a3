-- Reading an overflow reference: what the code's steps say of its definition.
-- Assumes nothing.
use Rattle.std.proofs.Common.{◌≡◌, ℕ, ◌+◌, ◌-◌, ◌<◌, ◌≤◌, List, length, get_or, take, drop, ℤ, ◌∙◌, arith}
use Rattle.paper.proofs.Laws.{told_err}
use Rattle.paper.specs.Answer.{gives, and_then}
use Rattle.field.specs.Field.{le}
use Rattle.varint.specs.Leb.{read_from, read_u64}
use Rattle.varint.specs.Zigzag.{unzigzag}
use Rattle.varint.proofs.Places.{at_inside, read_as_u64}
use Rattle.varint.proofs.Reading.{read_rest}
use Rattle.cell.specs.Keyed.{keyed_at, page_at}
use Rattle.cell.proofs.Keys.{key_inside, entry_given, entries}
use Rattle.cell.proofs.Placing.{rest_all}
use Rattle.cell.proofs.Short.{short_frame, short_number, short_key, short_page}
use Rattle.overflow.specs.Reference.{reference_body, reference_from}

reference_given : (body : List ℕ) {rowid : ℤ} {at total n page : ℕ} → gives (rowid, at) ≡ keyed_at 2 body → gives (total, n) ≡ read_u64 body at
    → gives page ≡ page_at body (at + n) → gives (rowid, total, page) ≡ reference_body body
unfolding reference_body and_then
reference_given body e f g = rw (← e, ← f, ← g)

-- ---- a short entry whose numbers end within a word
module _ (s : List ℕ) (l : 26 ≤ length s) {v n w m : ℕ} (a : n ≤ 8) (b : m ≤ 8) where
  pub reference_in_word : {rowid : ℤ} {page : ℕ} → gives (v, n) ≡ read_from (take (length s - 2) (drop 2 s))
      → gives (w, m) ≡ read_from (take (length s - (2 + n)) (drop (2 + n) s)) → get_or s 0 0 ≡ 3 + (2 + n + m) → get_or s 1 0 ≡ 2
      → rowid ≡ unzigzag v → page ≡ le 4 0 (take (length s - (2 + n + m)) (drop (2 + n + m) s))
      → gives ((rowid, w, page), 4 + (2 + n + m)) ≡ reference_from s
  unfolding reference_from
  reference_in_word first second size kind d p =
      let place : ℕ = 1 + n + m in
      let e : get_or s 0 0 ≡ place + 4 = size ∙ omega arith in
      let short : place < 124 = omega arith in
      let inside : 5 + place ≤ length s = omega arith in
      let at : 2 + n + m ≡ 1 + place = omega arith in
      let next : 2 + n ≡ 1 + (1 + n) = omega arith in
      let end : 4 + (2 + n + m) ≡ 5 + place = omega arith in
      let body : 5 + place - 1 ≡ place + 4 = omega arith in
      let key = short_key s place e short inside 2 kind (read_rest s 2 first) (omega arith) in
      let total = short_number s place e short inside (1 + n) (rw next at (read_rest s (2 + n) second)) (omega arith) in
      let number = short_page s place e short inside (rw at at p) in
      rw (end, d)
      (entry_given reference_body s (short_frame s place e short inside) (rw body (reference_given _ key total number)))

-- of a body
pub ruleset references = (told_err, key_inside, at_inside, read_as_u64)

-- of an entry
pub ruleset reference_entries = (entries, rest_all)
