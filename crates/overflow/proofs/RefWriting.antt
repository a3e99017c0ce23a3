-- Writing an overflow reference.
-- Assumes nothing.
use Rattle.std.proofs.Common.{◌≡◌, ℕ, ◌+◌, ◌-◌, ◌<◌, ◌≤◌, List, ◌++◌, length, take, drop, ℤ, refl, sym, ap, ◌∙◌, append_assoc, arith, length-append, w64, SFits, to_z, of_z}
use mir.ValLaws.{to_z-of_z}
use borrow.Rule.Slice.PartMut.{put_mid}
use Rattle.paper.specs.Answer.{gives, refuses, over, put, size_of}
use Rattle.field.specs.Field.{bytes}
use Rattle.field.proofs.Storing.{length_bytes}
use Rattle.varint.specs.Leb.{leb_bytes}
use Rattle.varint.specs.Zigzag.{zigzag}
use Rattle.cell.specs.Keyed.{key_of, over_at}
use Rattle.cell.proofs.Numbers.{leb_most}
use Rattle.cell.proofs.KeyWriting.{key_length, page_after, keyed_length, refused_size, refused_output, written_size, written_output}
use Rattle.cell.proofs.Placing.{then_over}
use Rattle.overflow.specs.Reference.{reference_bytes, write_reference}

-- what stands behind the rowid
tail : ℕ → ℕ → List ℕ
tail total page = leb_bytes total ++ bytes 4 page

tail_size : (a total page : ℕ) {b : ℕ} → b ≡ length (leb_bytes total) → 5 + a + b ≡ 1 + a + length (tail total page)
unfolding tail
tail_size a total page d = rw (length-append (leb_bytes total) (bytes 4 page), length_bytes 4 page) (omega arith)

module _ (rowid : ℤ) (total page : ℕ) (f : SFits w64 rowid) {id a b : ℕ} (i : id ≡ zigzag (to_z w64 (of_z w64 rowid)))
    (d : a ≡ length (leb_bytes id)) (e : b ≡ length (leb_bytes total)) (out : List ℕ) where
  n : 5 + a + b ≡ 1 + a + length (tail total page)
  n = tail_size a total page e

  small : 5 + a + b < 128
  small = omega (arith, leb_most id, leb_most total)

  module _ (l : length out < 1 + (5 + a + b)) where
    pub reference_short : refuses 16 ≡ size_of (write_reference rowid total page (length out))
    unfolding write_reference reference_bytes tail
    reference_short = refused_size 2 rowid (tail total page) f i d n small out l

    pub reference_kept : out ≡ put out (write_reference rowid total page (length out))
    unfolding write_reference reference_bytes tail
    reference_kept = refused_output 2 rowid (tail total page) f i d n small out l

  module _ (l : 1 + (5 + a + b) ≤ length out) where
    pub reference_wrote : gives (1 + (5 + a + b)) ≡ size_of (write_reference rowid total page (length out))
    unfolding write_reference reference_bytes tail
    reference_wrote = written_size 2 rowid (tail total page) f i d n small out l

    -- the key x, the total behind it, and the page at the end
    pub reference_output : {x y new : List ℕ} {at m : ℕ} → new ≡ over_at (put_mid at (length x - at) x y) (at + m) (bytes 4 page)
        → m ≡ length (leb_bytes total) → y ≡ over (take (length x - at) (drop at x)) (leb_bytes total) → at ≡ 2 + length (leb_bytes id) → x ≡ over out (key_of (5 + a + b) 2 id)
        → new ≡ put out (write_reference rowid total page (length out))
    unfolding write_reference reference_bytes tail
    reference_output {x} {y} {new} {at} {m} third g second place first =
        let key : List ℕ = key_of (5 + a + b) 2 id in
        let k : at ≡ length key = place ∙ sym (key_length (5 + a + b) 2 id) in
        let h : put_mid at (length x - at) x y ≡ over out (key ++ leb_bytes total)
        = then_over out key (leb_bytes total) x y at first k (omega arith) second in
        let q : at + m ≡ length (key ++ leb_bytes total) = rw (length-append key (leb_bytes total)) (omega arith) in
        written_output 2 rowid (tail total page) f i d n small out l
        (page_after out (key ++ leb_bytes total) (put_mid at (length x - at) x y) new page (at + m) h q (omega arith) third
        ∙ ap (over out) (append_assoc key (leb_bytes total) (bytes 4 page)))

-- at most 26 bytes
pub reference_most : (rowid : ℤ) (total page : ℕ) → SFits w64 rowid → length (reference_bytes rowid total page) ≤ 26
unfolding reference_bytes tail
reference_most rowid total page f =
    let n = keyed_length 2 rowid (tail total page) f (sym (ap zigzag (to_z-of_z w64 rowid f))) refl (tail_size _ total page refl)
    (omega (arith, leb_most (zigzag rowid), leb_most total)) in
    omega (arith, n, leb_most (zigzag rowid), leb_most total)

pub ruleset ref_writing = (leb_most, reference_short, reference_kept, reference_wrote, reference_output)
