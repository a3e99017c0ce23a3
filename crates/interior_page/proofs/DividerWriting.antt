-- Writing an interior cell.
-- Assumes nothing.
use Rattle.std.proofs.Common.{◌≡◌, ℕ, ◌+◌, ◌<◌, ◌≤◌, List, length, ℤ, refl, sym, ap, ◌∙◌, arith, w64, SFits, to_z, of_z}
use mir.ValLaws.{to_z-of_z}
use Rattle.paper.specs.Answer.{gives, refuses, over, put, size_of}
use Rattle.field.specs.Field.{bytes}
use Rattle.field.proofs.Storing.{length_bytes}
use Rattle.varint.specs.Leb.{leb_bytes}
use Rattle.varint.specs.Zigzag.{zigzag}
use Rattle.cell.specs.Keyed.{key_of, over_at}
use Rattle.cell.proofs.Numbers.{leb_most}
use Rattle.cell.proofs.KeyWriting.{key_length, page_after, keyed_length, refused_size, refused_output, written_size, written_output}
use Rattle.interior_page.specs.InteriorCells.{interior_bytes, write_interior}

child_size : (a child : ℕ) → 5 + a ≡ 1 + a + length (bytes 4 child)
child_size a child = rw (length_bytes 4 child) (omega arith)

module _ (divider : ℤ) (child : ℕ) (f : SFits w64 divider) {id a : ℕ} (i : id ≡ zigzag (to_z w64 (of_z w64 divider)))
    (d : a ≡ length (leb_bytes id)) (out : List ℕ) where
  n : 5 + a ≡ 1 + a + length (bytes 4 child)
  n = child_size a child

  small : 5 + a < 128
  small = omega (arith, leb_most id)

  module _ (l : length out < 1 + (5 + a)) where
    pub interior_short : refuses 16 ≡ size_of (write_interior divider child (length out))
    unfolding write_interior interior_bytes
    interior_short = refused_size 3 divider (bytes 4 child) f i d n small out l

    pub interior_kept : out ≡ put out (write_interior divider child (length out))
    unfolding write_interior interior_bytes
    interior_kept = refused_output 3 divider (bytes 4 child) f i d n small out l

  module _ (l : 1 + (5 + a) ≤ length out) where
    pub interior_wrote : gives (1 + (5 + a)) ≡ size_of (write_interior divider child (length out))
    unfolding write_interior interior_bytes
    interior_wrote = written_size 3 divider (bytes 4 child) f i d n small out l

    -- the key x, and the page at the end
    pub interior_output : {x new : List ℕ} {at : ℕ} → new ≡ over_at x at (bytes 4 child) → at ≡ 2 + length (leb_bytes id)
        → x ≡ over out (key_of (5 + a) 3 id) → new ≡ put out (write_interior divider child (length out))
    unfolding write_interior interior_bytes
    interior_output {x} {new} {at} second place first =
        let k : at ≡ length (key_of (5 + a) 3 id) = place ∙ sym (key_length (5 + a) 3 id) in
        written_output 3 divider (bytes 4 child) f i d n small out l
        (page_after out (key_of (5 + a) 3 id) x new child at first k (omega arith) second)

-- at most 16 bytes
pub interior_most : (divider : ℤ) (child : ℕ) → SFits w64 divider → length (interior_bytes divider child) ≤ 16
unfolding interior_bytes
interior_most divider child f =
    let n = keyed_length 3 divider (bytes 4 child) f (sym (ap zigzag (to_z-of_z w64 divider f))) refl (child_size _ child) (omega (arith, leb_most (zigzag divider))) in
    omega (arith, n, leb_most (zigzag divider))

pub ruleset divider_writing = (leb_most, interior_short, interior_kept, interior_wrote, interior_output)
