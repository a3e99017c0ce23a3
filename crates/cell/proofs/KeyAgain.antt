-- What was read and accepted, written again: it reads as the same, and is the same bytes exactly where it is plain. What overflow
-- references and interior entries share of that.
-- Assumes nothing.
use Rattle.std.proofs.Common.{◌≡◌, ℕ, ◌+◌, ◌-◌, ◌^◌, ◌<◌, eqb, ltb, List, ◌++◌, length, get_or, take, drop, ℤ, sym, refl, ap, ◌∙◌, append-nil, arith, take-append-drop, w64, SFits, eq-eqb, ne_eqb, eqb-true}
use lib.Seq.{drop-length}
use Rattle.paper.specs.Answer.{Answer, gives, and_then, pick}
use Rattle.paper.proofs.Laws.{gives_one, first, second}
use Rattle.field.specs.Field.{le, bytes}
use Rattle.varint.specs.Leb.{read_u64, leb_bytes}
use Rattle.varint.specs.Number.{read_i64}
use Rattle.varint.specs.Standard.{Bytes}
use Rattle.varint.specs.Zigzag.{zigzag, unzigzag}
use Rattle.varint.proofs.Laws.{read_is}
use Rattle.varint.proofs.Zigzag.{back, forth, unsigned_fits, signed_fits}
use Rattle.cell.specs.Entry.{body_at, entry, with_length}
use Rattle.cell.specs.Keyed.{keyed_at, page_at, keyed_bytes}
use Rattle.cell.specs.Plain.{PlainNumber, PlainEntry}
use Rattle.cell.proofs.Accepting.{not_refused, not_other, then_gave}
use Rattle.cell.proofs.PlainWritten.{Fills, fills_both, fills_byte, number_fills, field_fills, number_plain, length_fills, behind_plain}
use Rattle.cell.proofs.ReadWritten.{bytes_take}
use Rattle.cell.proofs.Whole.{Whole, whole_is, entry_back, HasKey, keyed_key}
use Rattle.cell.proofs.WrittenRead.{bytes_drop, le_below}

-- ---- a key that was read
module _ (kind : ℕ) (body : List ℕ) {rowid : ℤ} {at : ℕ} (e : keyed_at kind body ≡ gives (rowid, at)) where
  key_number : (n : ℕ) × (read_u64 body 1 ≡ gives (zigzag rowid, n)) × (at ≡ 1 + n)
  unfolding keyed_at pick and_then read_i64
  key_number =
      let k : HasKey kind body rowid = keyed_key kind body e in
      let ((u, n), r, g) = then_gave (read_u64 body 1) (λ (u, n). gives (unzigzag u, n)) k.read in
      let z : u ≡ zigzag rowid = sym (forth u) ∙ ap zigzag (ap first (gives_one g)) in
      let o : length body ≡ 0 → ⊥ = λ d. omega (arith, d, k.some) in
      let d : ◌≡◌ {A = Answer (ℤ × ℕ)} (gives (unzigzag u, 1 + n)) (gives (rowid, at)) = rw (ne_eqb (length body) 0 o, eq-eqb (get_or body 0 0) kind k.first_byte, r) at e in
      (n, r ∙ ap (λ (x : ℕ). gives (x, n)) z, sym (ap second (gives_one d)))

  pub key_fits : SFits w64 rowid
  unfolding read_u64
  key_fits =
      let (n, r, d) = key_number in
      let z : unzigzag (zigzag rowid) ≡ rowid = back rowid in
      rw z at (signed_fits (zigzag rowid) (read_is (drop 1 body) r).fits)

  -- its varint in its shortest form, and the rest of the body filled
  pub key_same : Bytes body → PlainNumber body 1 → {rest : List ℕ} → Fills body at rest (length body) → keyed_bytes kind rowid rest ≡ body
  unfolding keyed_bytes
  key_same b p {rest} w =
      let k : HasKey kind body rowid = keyed_key kind body e in
      let (n, r, d) = key_number in
      let v : Fills body 1 (leb_bytes (zigzag rowid)) at = rw d (number_fills body 1 b r p) in
      let all = fills_both (fills_byte body 0 (omega (arith, k.some)) k.first_byte) (fills_both v w) in
      sym (all.is ∙ rw (drop-length body) (append-nil (keyed_bytes kind rowid rest)))

-- ---- a page number that was read
module _ (body : List ℕ) (at : ℕ) {page : ℕ} (e : page_at body at ≡ gives page) where
  page_number : (at + 4 ≡ length body) × (le 4 at body ≡ page)
  unfolding page_at
  page_number =
      let (t, f) = not_refused (ltb (length body - at) 4) 6 _ e in
      let (u, g) = not_other (eqb (length body - at) 4) 10 _ f in
      let k : length body - at ≡ 4 = eqb-true (length body - at) 4 u in
      (omega arith, gives_one g)

  module _ (b : Bytes body) where
    pub page_small : page < 2 ^ 32
    page_small = let (l, d) = page_number in rw (← d) (le_below 4 at body b)

    pub page_fills : Fills body at (bytes 4 page) (length body)
    page_fills = let (l, d) = page_number in rw (← d, ← l) (field_fills 4 at body b (omega arith))

-- ---- what is written is plain
module _ (kind : ℕ) (z : ℤ) (rest : List ℕ) (f : SFits w64 z) where
  pub key_plain : PlainNumber (keyed_bytes kind z rest) 1
  unfolding keyed_bytes
  key_plain = number_plain {b = rest} (zigzag z) (unsigned_fits z f) (record { within = omega arith; is = refl })

-- ---- a body that was read, and that body written again
pub record Again {A : Type 0} (read : List ℕ → Answer A) (Plainly : List ℕ → Type 0) (body : List ℕ) (a : A) (new : List ℕ) : Type 0 where
  pub short : length new < 2 ^ 64
  pub reads : read new ≡ gives a
  pub same : Plainly body → new ≡ body
  pub plain : Plainly new

module _ {A : Type 0} (read : List ℕ → Answer A) (write : A → List ℕ) (Plainly : List ℕ → Type 0)
    (again : (body : List ℕ) (a : A) → Bytes body → read body ≡ gives a → Again read Plainly body a (write a))
    (s : List ℕ) {a : A} {size : ℕ} (b : Bytes s) (e : entry read s ≡ gives (a, size)) where
  w : Whole read s a size
  w = whole_is read s e

  body_again : Again read Plainly (body_at s w.place w.len) a (write a)
  body_again = again (body_at s w.place w.len) a (bytes_take w.len (drop w.place s) (bytes_drop w.place s b)) w.body

  -- written again, it reads as the same
  pub entry_read_written : (t : List ℕ) → entry read (with_length (write a) ++ t) ≡ gives (a, length (with_length (write a)))
  entry_read_written t = entry_back read (write a) body_again.short body_again.reads t

  -- a plain entry is the same bytes
  pub entry_plain_written : PlainEntry Plainly s → with_length (write a) ≡ take size s
  unfolding read_u64
  entry_plain_written p =
      rw (← w.sum, body_again.same (p.1 (w.len, w.place) w.frame.read)) (length_fills s b w.frame p.0)

  -- and no other is
  pub entry_written_plain : with_length (write a) ≡ take size s → PlainEntry Plainly s
  entry_written_plain same =
      let z : with_length (write a) ++ drop size s ≡ s = rw same (take-append-drop size s) in
      rw z at (behind_plain Plainly (write a) body_again.short body_again.plain (drop size s))
