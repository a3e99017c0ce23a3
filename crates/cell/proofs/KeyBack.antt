-- What overflow references and interior entries share reads back as it was written.
-- Assumes nothing.
use Rattle.std.proofs.Common.{◌≡◌, ℕ, suc, ◌+◌, ◌-◌, ◌^◌, ◌<◌, ◌≤◌, List, [], ◌∷◌, ◌++◌, length, drop, ℤ, sym, refl, ap, ◌∙◌, append-nil, add-zero, arith, length-drop, drop-drop, w64, SFits, le-ltb, eq-eqb, ne_eqb}
use lib.Seq.{drop-append_seam}
use Rattle.paper.specs.Answer.{gives, and_then, pick}
use Rattle.field.specs.Field.{le, bytes}
use Rattle.field.proofs.Laws.{le_drop, le_bytes}
use Rattle.field.proofs.Storing.{length_bytes}
use Rattle.varint.specs.Leb.{leb_bytes}
use Rattle.varint.specs.Number.{read_i64, len_i64}
use Rattle.varint.specs.Zigzag.{zigzag}
use Rattle.varint.proofs.Zigzag.{signed_written_read}
use Rattle.cell.specs.Keyed.{keyed_at, page_at, keyed_bytes}

module _ (kind : ℕ) (z : ℤ) (rest : List ℕ) (f : SFits w64 z) where
  pub key_back : keyed_at kind (keyed_bytes kind z rest) ≡ gives (z, 1 + length (leb_bytes (zigzag z)))
  unfolding keyed_at keyed_bytes pick and_then len_i64
  key_back =
      let e : read_i64 (kind ∷ (leb_bytes (zigzag z) ++ rest)) 1 ≡ gives (z, len_i64 z) = signed_written_read z f (kind ∷ []) rest in
      rw (ne_eqb (suc (length (leb_bytes (zigzag z) ++ rest))) 0 (omega arith), eq-eqb kind kind refl, e)

  pub key_rest : drop (1 + length (leb_bytes (zigzag z))) (keyed_bytes kind z rest) ≡ rest
  unfolding keyed_bytes
  key_rest = sym (drop-drop (length (leb_bytes (zigzag z))) 1 (kind ∷ (leb_bytes (zigzag z) ++ rest))) ∙ drop-append_seam (leb_bytes (zigzag z)) rest

-- a page number that ends the body
pub page_back : (s : List ℕ) (at page : ℕ) → page < 2 ^ 32 → at ≤ length s → drop at s ≡ bytes 4 page → page_at s at ≡ gives page
unfolding page_at pick
page_back s at page l h e =
    let n : length s - at ≡ 4 = sym (length-drop at s) ∙ ap length e ∙ length_bytes 4 page in
    let v : le 4 at s ≡ page = ap (λ (k : ℕ). le 4 k s) (sym (add-zero at)) ∙ sym (le_drop 4 0 at s) ∙ ap (le 4 0) (e ∙ sym (append-nil (bytes 4 page))) ∙ le_bytes 4 page [] l in
    rw (le-ltb (length s - at) 4 (omega arith), eq-eqb (length s - at) 4 n, v)
