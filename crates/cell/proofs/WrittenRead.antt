-- The theorem of the round trip: what a value list was accepted for reads back as the row that the list says.
-- Assumes nothing.
use Rattle.std.proofs.Common.{◌≡◌, ℕ, zero, suc, ◌+◌, ◌*◌, ◌/◌, ◌%◌, ◌^◌, ◌<◌, ◌≤◌, eqb, ltb, List, [], ◌∷◌, length, get_or, drop, ℤ, arith, pow-add, w64, SFits, ltb-false}
use Rattle.paper.specs.Answer.{gives}
use Rattle.field.specs.Field.{le}
use Rattle.varint.specs.Standard.{Bytes}
use Rattle.cell.specs.Content.{Content}
use Rattle.cell.specs.ValueList.{items, words_of, value_list}
use Rattle.cell.specs.Written.{blocks_bytes, body_bytes}
use Rattle.cell.specs.Listing.{word_list, used_all}
use Rattle.cell.proofs.Accepting.{not_refused, not_other}
use Rattle.cell.proofs.Lengths.{blocks_most, body_most}
use Rattle.cell.proofs.Listed.{AllBelow, items_listed, marked_length}
use Rattle.cell.proofs.Reread.{Reread, row_reread}

-- ---- what a list was accepted with
record Accepted (kinds words rest : List ℕ) (cs : List Content) : Type 0 where
  pub columns : length kinds ≤ 65536
  pub amount : length rest ≤ 16777216
  pub listed : items kinds (word_list words) rest ≡ gives cs

accepted : (kinds words rest : List ℕ) {cs : List Content} → value_list kinds words rest ≡ gives cs → Accepted kinds words rest cs
unfolding value_list word_list
accepted kinds words rest e =
    let (a, ea) = not_refused (ltb 0 (length words % 8)) 25 _ e in
    let (b, eb) = not_refused (ltb 65536 (length kinds)) 25 _ ea in
    let (c, ec) = not_refused (ltb 65536 (length words / 8)) 25 _ eb in
    let (d, ed) = not_refused (ltb 16777216 (length rest)) 25 _ ec in
    record {
      columns = ltb-false 65536 (length kinds) b;
      amount = ltb-false 16777216 (length rest) d;
      listed = (not_other (eqb (length kinds) (length words / 8)) 15 _ ed).1;
    }

-- ---- eight bytes are a 64-bit word
pub byte_below : (s : List ℕ) (i : ℕ) → Bytes s → get_or s i 0 < 256
byte_below [] i b = omega arith
byte_below (x ∷ s) zero b = b.0
byte_below (x ∷ s) (suc i) b = byte_below s i b.1

pub le_below : (n i : ℕ) (s : List ℕ) → Bytes s → le n i s < 2 ^ (8 * n)
le_below zero i s b = omega arith
le_below (suc n) i s b =
    let h : le n (suc i) s < 2 ^ (8 * n) = le_below n (suc i) s b in
    let f : 8 * suc n ≡ 8 + 8 * n = omega arith in
    let p : 2 ^ (8 * suc n) ≡ 256 * 2 ^ (8 * n) = rw f (pow-add 2 8 (8 * n)) in
    rw p (omega (arith, byte_below s i b))

pub bytes_drop : (n : ℕ) (s : List ℕ) → Bytes s → Bytes (drop n s)
bytes_drop zero s b = b
bytes_drop (suc n) [] b = tt
bytes_drop (suc n) (x ∷ s) b = bytes_drop n s b.1

words_below : (n : ℕ) (s : List ℕ) → Bytes s → AllBelow (words_of n s)
unfolding words_of
words_below zero s b = tt
words_below (suc n) s b = (le_below 8 0 s b, words_below n (drop 8 s) (bytes_drop 8 s b))

-- ---- the theorem. Words are lent as bytes; a rowid is a signed 64-bit number
pub written_read : (rowid : ℤ) (kinds words rest : List ℕ) {cs : List Content} → SFits w64 rowid → Bytes words → value_list kinds words rest ≡ gives cs
    → (t : List ℕ) → Reread rowid cs t
unfolding word_list
written_read rowid kinds words rest {cs} f b e t =
    let a = accepted kinds words rest e in
    let w = items_listed kinds (word_list words) rest a.listed in
    let n : length cs ≡ length kinds = marked_length w.marks in
    let k : length kinds ≤ 65536 = a.columns in
    let r : length rest ≤ 16777216 = a.amount in
    let u : used_all kinds (word_list words) ≤ length rest = w.fits in
    let m : length (blocks_bytes cs) ≤ 11 * length kinds + used_all kinds (word_list words) = rw w.holds (blocks_most kinds (word_list words) rest u) in
    let o : length (body_bytes (rowid, cs)) ≤ 8213 + length (blocks_bytes cs) = body_most rowid cs (omega arith) in
    row_reread rowid cs f (w.sound (words_below (length words / 8) words b)) (omega arith) (omega arith) t
