-- Reading an interior cell: what the code's steps say of its definition.
-- Assumes nothing.
use Rattle.std.proofs.Common.{◌≡◌, ℕ, ◌+◌, ◌-◌, ◌<◌, ◌≤◌, List, length, get_or, take, drop, ℤ, ◌∙◌, arith}
use Rattle.paper.proofs.Laws.{told_err}
use Rattle.paper.specs.Answer.{gives, and_then}
use Rattle.field.specs.Field.{le}
use Rattle.varint.specs.Leb.{read_from}
use Rattle.varint.specs.Zigzag.{unzigzag}
use Rattle.varint.proofs.Reading.{read_rest}
use Rattle.cell.specs.Keyed.{keyed_at, page_at}
use Rattle.cell.proofs.Keys.{key_inside, entry_given, entries}
use Rattle.cell.proofs.Placing.{rest_all}
use Rattle.cell.proofs.Short.{short_frame, short_key, short_page}
use Rattle.interior_page.specs.InteriorCells.{interior_body, interior_from}

divider_given : (body : List ℕ) {divider : ℤ} {at child : ℕ} → gives (divider, at) ≡ keyed_at 3 body → gives child ≡ page_at body at
    → gives (divider, child) ≡ interior_body body
unfolding interior_body and_then
divider_given body e f = rw (← e, ← f)

-- ---- a short entry whose divider ends within a word
pub interior_in_word : (s : List ℕ) → 16 ≤ length s → {v n : ℕ} → n ≤ 8 → {divider : ℤ} {child : ℕ} → gives (v, n) ≡ read_from (take (length s - 2) (drop 2 s))
    → get_or s 0 0 ≡ 3 + (2 + n) → get_or s 1 0 ≡ 3 → divider ≡ unzigzag v → child ≡ le 4 0 (take (length s - (2 + n)) (drop (2 + n) s))
    → gives ((divider, child), 4 + (2 + n)) ≡ interior_from s
unfolding interior_from
interior_in_word s l {n = n} a first size kind d p =
    let place : ℕ = 1 + n in
    let e : get_or s 0 0 ≡ place + 4 = size ∙ omega arith in
    let short : place < 124 = omega arith in
    let inside : 5 + place ≤ length s = omega arith in
    let at : 2 + n ≡ 1 + place = omega arith in
    let end : 4 + (2 + n) ≡ 5 + place = omega arith in
    let body : 5 + place - 1 ≡ place + 4 = omega arith in
    let key = short_key s place e short inside 3 kind (read_rest s 2 first) (omega arith) in
    let number = short_page s place e short inside (rw at at p) in
    rw (end, d) (entry_given interior_body s (short_frame s place e short inside) (rw body (divider_given _ key number)))

-- of a body
pub ruleset dividers = (told_err, key_inside)

-- of an entry
pub ruleset divider_entries = (entries, rest_all)
