-- A reference that was written reads back, with anything behind it. One that was read, written again, is the same reference, and the
-- same bytes exactly where it is plain.
-- Assumes nothing.
use mathlib.Core.Path.{◌≡◌, sym, ◌∙◌, ap}
use mathlib.Core.List.{List, ◌++◌}
use Prim.Native.Nat.{ℕ, ◌+◌, ◌^◌, ◌<◌}
use native.Mathlib.Omega.{arith}
use lib.IntN.{ℤ}
use lib.ListN.{length, take, drop, length-append}
use lib.Seq.{drop-append_seam, drop-drop}
use mir.Syntax.{w64}
use mir.Val.{SFits}
use Rattle.paper.specs.Answer.{gives, and_then}
use Rattle.paper.proofs.Laws.{gives_one}
use Rattle.field.specs.Field.{bytes}
use Rattle.field.proofs.Storing.{length_bytes}
use Rattle.varint.specs.Leb.{read_u64, leb_bytes}
use Rattle.varint.specs.Standard.{Bytes}
use Rattle.varint.specs.Zigzag.{zigzag}
use Rattle.varint.proofs.Laws.{read_is}
use Rattle.cell.specs.Keyed.{keyed_at, page_at, keyed_bytes}
use Rattle.cell.proofs.KeyAgain.{key_fits, key_same, page_small, page_fills, key_plain, Again, entry_read_written, entry_plain_written, entry_written_plain}
use Rattle.cell.proofs.Accepting.{then_gave}
use Rattle.cell.proofs.Whole.{entry_back}
use Rattle.cell.proofs.KeyBack.{key_back, key_rest, page_back}
use Rattle.cell.proofs.Numbers.{leb_most}
use Rattle.cell.proofs.PlainWritten.{fills_both, number_fills, number_plain}
use Rattle.cell.proofs.Reread.{Stands, stands_number}
use Rattle.overflow.specs.Reference.{reference_body, reference_from, reference_bytes}
use Rattle.overflow.specs.Plain.{PlainReferenceBody, PlainReference}

module _ (z : ℤ) (total page : ℕ) (f : SFits w64 z) (t : total < 2 ^ 64) (p : page < 2 ^ 32) where
  tail : List ℕ
  tail = leb_bytes total ++ bytes 4 page

  body : List ℕ
  body = keyed_bytes 2 z tail

  body_length : length body ≡ 1 + length (leb_bytes (zigzag z)) + (length (leb_bytes total) + 4)
  unfolding body tail keyed_bytes
  body_length =
      rw (length-append (leb_bytes (zigzag z)) (leb_bytes total ++ bytes 4 page), length-append (leb_bytes total) (bytes 4 page), length_bytes 4 page)
      (omega arith)

  total_stands : Stands body (1 + length (leb_bytes (zigzag z))) (leb_bytes total) (bytes 4 page)
  unfolding body tail
  total_stands = record { within = rw body_length (omega arith); is = key_rest 2 z tail f }

  body_plain : PlainReferenceBody body
  unfolding PlainReferenceBody body
  body_plain = (
    key_plain 2 z tail f,
    λ x e. rw (← gives_one (sym (key_back 2 z tail f) ∙ e)) (number_plain total t total_stands),
  )

  body_back : reference_body body ≡ gives (z, total, page)
  unfolding reference_body body tail and_then
  body_back =
      let at : ℕ = 1 + length (leb_bytes (zigzag z)) in
      let q : drop (at + length (leb_bytes total)) body ≡ bytes 4 page
      = sym (drop-drop (length (leb_bytes total)) at body) ∙ ap (drop (length (leb_bytes total))) total_stands.is
      ∙ drop-append_seam (leb_bytes total) (bytes 4 page) in
      rw (
        key_back 2 z (leb_bytes total ++ bytes 4 page) f,
        stands_number total t total_stands,
        page_back body (at + length (leb_bytes total)) page p (rw body_length (omega arith)) q,
      )

  pub reference_back : (s : List ℕ) → reference_from (reference_bytes z total page ++ s) ≡ gives ((z, total, page), length (reference_bytes z total page))
  unfolding reference_from reference_bytes body tail
  reference_back s =
      entry_back reference_body body (rw body_length (omega (arith, leb_most (zigzag z), leb_most total))) body_back s

-- ---- read, and written again
body_of : ℤ × ℕ × ℕ → List ℕ
body_of (rowid, total, page) = keyed_bytes 2 rowid (leb_bytes total ++ bytes 4 page)

again : (old : List ℕ) (r : ℤ × ℕ × ℕ) → Bytes old → reference_body old ≡ gives r → Again reference_body PlainReferenceBody old r (body_of r)
unfolding reference_body PlainReferenceBody body_of body tail read_u64
again old r b e =
    let ((z, at), k, g) = then_gave (keyed_at 2 old) _ e in
    let ((total, n), q, h) = then_gave (read_u64 old at) _ g in
    let (page, p, i) = then_gave (page_at old (at + n)) _ h in
    let f : SFits w64 z = key_fits 2 old k in
    let t : total < 2 ^ 64 = (read_is (drop at old) q).fits in
    let l : page < 2 ^ 32 = page_small old (at + n) p b in
    rw (← gives_one i)
    record {
      short = rw (body_length z total page f t l) (omega (arith, leb_most (zigzag z), leb_most total));
      reads = body_back z total page f t l;
      same = λ w. key_same 2 old k b w.0 (fills_both (number_fills old at b q (w.1 (z, at) k)) (page_fills old (at + n) p b));
      plain = body_plain z total page f t l;
    }

module _ (s : List ℕ) {rowid : ℤ} {total page size : ℕ} (b : Bytes s) (e : reference_from s ≡ gives ((rowid, total, page), size)) where
  -- A reference that was read and accepted, written again, reads as the same reference, with anything behind it.
  pub reference_read_written : (t : List ℕ)
      → reference_from (reference_bytes rowid total page ++ t) ≡ gives ((rowid, total, page), length (reference_bytes rowid total page))
  unfolding reference_from reference_bytes body_of
  reference_read_written t = entry_read_written reference_body body_of PlainReferenceBody again s b e t

  -- Where its length, its rowid and its total have their shortest form, the bytes are those that were read.
  pub reference_plain_written : PlainReference s → reference_bytes rowid total page ≡ take size s
  unfolding reference_from reference_bytes body_of PlainReference
  reference_plain_written p = entry_plain_written reference_body body_of PlainReferenceBody again s b e p

  -- And only there.
  pub reference_written_plain : reference_bytes rowid total page ≡ take size s → PlainReference s
  unfolding reference_from reference_bytes body_of PlainReference
  reference_written_plain d = entry_written_plain reference_body body_of PlainReferenceBody again s b e d
