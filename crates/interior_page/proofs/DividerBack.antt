-- A divider that was written reads back, with anything behind it. One that was read, written again, is the same divider, and the same
-- bytes exactly where it is plain.
-- Assumes nothing.
use mathlib.Core.Path.{◌≡◌}
use mathlib.Core.List.{List, ◌++◌}
use Prim.Native.Nat.{ℕ, ◌+◌, ◌^◌, ◌<◌}
use native.Mathlib.Omega.{arith}
use lib.IntN.{ℤ}
use lib.ListN.{length, take, length-append}
use mir.Syntax.{w64}
use mir.Val.{SFits}
use Rattle.paper.specs.Answer.{gives, and_then}
use Rattle.paper.proofs.Laws.{gives_one}
use Rattle.field.specs.Field.{bytes}
use Rattle.field.proofs.Storing.{length_bytes}
use Rattle.varint.specs.Leb.{leb_bytes}
use Rattle.varint.specs.Standard.{Bytes}
use Rattle.varint.specs.Zigzag.{zigzag}
use Rattle.cell.specs.Keyed.{keyed_at, page_at, keyed_bytes}
use Rattle.cell.proofs.KeyAgain.{key_fits, key_same, page_small, page_fills, key_plain, Again, entry_read_written, entry_plain_written, entry_written_plain}
use Rattle.cell.proofs.Accepting.{then_gave}
use Rattle.cell.proofs.Whole.{entry_back}
use Rattle.cell.proofs.KeyBack.{key_back, key_rest, page_back}
use Rattle.cell.proofs.Numbers.{leb_most}
use Rattle.interior_page.specs.InteriorCells.{interior_body, interior_from, interior_bytes}
use Rattle.interior_page.specs.Plain.{PlainInteriorBody, PlainInterior}

module _ (z : ℤ) (child : ℕ) (f : SFits w64 z) (p : child < 2 ^ 32) where
  body : List ℕ
  body = keyed_bytes 3 z (bytes 4 child)

  body_length : length body ≡ 1 + length (leb_bytes (zigzag z)) + 4
  unfolding body keyed_bytes
  body_length = rw (length-append (leb_bytes (zigzag z)) (bytes 4 child), length_bytes 4 child) (omega arith)

  body_back : interior_body body ≡ gives (z, child)
  unfolding interior_body body and_then
  body_back =
      let at : ℕ = 1 + length (leb_bytes (zigzag z)) in
      rw (key_back 3 z (bytes 4 child) f, page_back body at child p (rw body_length (omega arith)) (key_rest 3 z (bytes 4 child) f))

  pub interior_back : (s : List ℕ) → interior_from (interior_bytes z child ++ s) ≡ gives ((z, child), length (interior_bytes z child))
  unfolding interior_from interior_bytes body
  interior_back s = entry_back interior_body body (rw body_length (omega (arith, leb_most (zigzag z)))) body_back s

-- ---- read, and written again
body_of : ℤ × ℕ → List ℕ
body_of (divider, child) = keyed_bytes 3 divider (bytes 4 child)

again : (old : List ℕ) (c : ℤ × ℕ) → Bytes old → interior_body old ≡ gives c → Again interior_body PlainInteriorBody old c (body_of c)
unfolding interior_body PlainInteriorBody body_of body
again old c b e =
    let ((z, at), k, g) = then_gave (keyed_at 3 old) _ e in
    let (child, p, h) = then_gave (page_at old at) _ g in
    let f : SFits w64 z = key_fits 3 old k in
    let l : child < 2 ^ 32 = page_small old at p b in
    rw (← gives_one h)
    record {
      short = rw (body_length z child f l) (omega (arith, leb_most (zigzag z)));
      reads = body_back z child f l;
      same = λ q. key_same 3 old k b q (page_fills old at p b);
      plain = key_plain 3 z (bytes 4 child) f;
    }

module _ (s : List ℕ) {divider : ℤ} {child size : ℕ} (b : Bytes s) (e : interior_from s ≡ gives ((divider, child), size)) where
  -- A divider that was read and accepted, written again, reads as the same divider, with anything behind it.
  pub interior_read_written : (t : List ℕ) → interior_from (interior_bytes divider child ++ t) ≡ gives ((divider, child), length (interior_bytes divider child))
  unfolding interior_from interior_bytes body_of
  interior_read_written t = entry_read_written interior_body body_of PlainInteriorBody again s b e t

  -- Where its length and its divider have their shortest form, the bytes are those that were read.
  pub interior_plain_written : PlainInterior s → interior_bytes divider child ≡ take size s
  unfolding interior_from interior_bytes body_of PlainInterior
  interior_plain_written p = entry_plain_written interior_body body_of PlainInteriorBody again s b e p

  -- And only there.
  pub interior_written_plain : interior_bytes divider child ≡ take size s → PlainInterior s
  unfolding interior_from interior_bytes body_of PlainInterior
  interior_written_plain d = entry_written_plain interior_body body_of PlainInteriorBody again s b e d
