-- Writing what overflow references and interior entries share.
-- Assumes nothing.
use Rattle.std.proofs.Common.{◌≡◌, ℕ, ◌+◌, ◌-◌, ◌<◌, ◌≤◌, List, [], ◌∷◌, ◌++◌, length, take, drop, set, ℤ, sym, refl, ap, ◌∙◌, arith, length-append, w64, SFits, to_z, of_z}
use Rattle.varint.specs.Zigzag.{zigzag}
use borrow.Rule.Slice.PartMut.{put_mid}
use denote.Enum.Declared.{tag_of}
use Rattle.paper.specs.Answer.{gives, refuses, over, put, size_of}
use Rattle.field.specs.Field.{bytes}
use Rattle.field.proofs.Storing.{length_bytes}
use Rattle.varint.specs.Leb.{leb_bytes}
use Rattle.varint.proofs.Limits.{groups_last}
use Rattle.cell.specs.Entry.{with_length, fitted}
use Rattle.cell.specs.Keyed.{key_of, over_at, keyed_bytes}
use Rattle.cell.specs.Kind.{kind_byte}
use Rattle.cell.specs.contracts.Kind.{the_type}
use Rattle.cell.specs.declared.Kind.{Kind}
use Rattle.cell.specs.declared.Kind.TheVariants as K
use Rattle.cell.proofs.Numbers.{id_is}
use Rattle.cell.proofs.Placing.{lent, then_over, over_then, short_size, short_output, whole_size, whole_output}

two_first : (out : List ℕ) (a b : ℕ) → 2 ≤ length out → set (set out 0 a) 1 b ≡ over out (a ∷ b ∷ [])
unfolding over
two_first [] a b l = absurd (omega arith)
two_first (x ∷ []) a b l = absurd (omega arith)
two_first (x ∷ (y ∷ out)) a b l = refl

-- a kind as a number is its byte
pub kind_as : (kind : Kind) → tag_of the_type kind + 1 ≡ kind_byte kind
kind_as K.Local = refl
kind_as K.Overflow = refl
kind_as K.Interior = refl

pub key_output : (out new : List ℕ) (size byte kind rowid : ℕ) → byte ≡ kind → 2 + length (leb_bytes rowid) ≤ length out
    → new ≡ over (take (length (set (set out 0 size) 1 byte) - 2) (drop 2 (set (set out 0 size) 1 byte))) (leb_bytes rowid)
    → put_mid 2 (length (set (set out 0 size) 1 byte) - 2) (set (set out 0 size) 1 byte) new ≡ over out (key_of size kind rowid)
unfolding key_of
key_output out new size byte kind rowid k l e =
    rw (← k) (then_over out (size ∷ byte ∷ []) (leb_bytes rowid) (set (set out 0 size) 1 byte) new 2 (two_first out size byte (omega arith)) refl l e)

pub page_output : (out : List ℕ) (at page : ℕ) {new : List ℕ} → at + 4 ≤ length out
    → new ≡ bytes 4 page ++ drop 4 (take (length out - at) (drop at out)) → put_mid at (length out - at) out new ≡ over_at out at (bytes 4 page)
unfolding over
page_output out at page {new} l e = lent out at (bytes 4 page) {new = new} (rw (length_bytes 4 page) e) (omega arith)

-- ---- the parts of an entry that ends in a page number
pub key_length : (size kind rowid : ℕ) → length (key_of size kind rowid) ≡ 2 + length (leb_bytes rowid)
unfolding key_of
key_length size kind rowid = omega arith

pub page_after : (out front y z : List ℕ) (page n : ℕ) → y ≡ over out front → n ≡ length front → length front + 4 ≤ length out
    → z ≡ over_at y n (bytes 4 page) → z ≡ over out (front ++ bytes 4 page)
page_after out front y z page n d e l f = f ∙ rw d (over_then out front (bytes 4 page) n e (rw (length_bytes 4 page) l))

-- ---- the whole: a short body's length is one byte, and the room decides
module _ (kind : ℕ) (z : ℤ) (rest : List ℕ) {id a size : ℕ} (fits : SFits w64 z) (i : id ≡ zigzag (to_z w64 (of_z w64 z))) (e : a ≡ length (leb_bytes id))
    (n : size ≡ 1 + a + length rest) (small : size < 128) where
  entry_is : with_length (keyed_bytes kind z rest) ≡ key_of size kind id ++ rest
  unfolding with_length keyed_bytes key_of leb_bytes
  entry_is =
      let d : id ≡ zigzag z = id_is z fits i in
      let k : length (kind ∷ (leb_bytes id ++ rest)) ≡ size = rw (length-append (leb_bytes id) rest) (omega arith) in
      rw (← d, k, groups_last 9 size small)

  pub keyed_length : length (with_length (keyed_bytes kind z rest)) ≡ 1 + size
  unfolding key_of
  keyed_length = rw (entry_is, length-append (leb_bytes id) rest) (omega arith)

  module _ (out : List ℕ) where
    pub refused_size : length out < 1 + size → refuses 16 ≡ size_of (fitted (length out) (with_length (keyed_bytes kind z rest)))
    refused_size l = short_size out (with_length (keyed_bytes kind z rest)) keyed_length l

    pub refused_output : length out < 1 + size → out ≡ put out (fitted (length out) (with_length (keyed_bytes kind z rest)))
    refused_output l = short_output out (with_length (keyed_bytes kind z rest)) keyed_length l

    pub written_size : 1 + size ≤ length out → gives (1 + size) ≡ size_of (fitted (length out) (with_length (keyed_bytes kind z rest)))
    written_size l = whole_size out (with_length (keyed_bytes kind z rest)) keyed_length l

    pub written_output : {new : List ℕ} → 1 + size ≤ length out → new ≡ over out (key_of size kind id ++ rest)
        → new ≡ put out (fitted (length out) (with_length (keyed_bytes kind z rest)))
    written_output l f = f ∙ ap (over out) (sym entry_is) ∙ whole_output out (with_length (keyed_bytes kind z rest)) keyed_length l

pub ruleset key_writing = (kind_as, key_output, page_output)
