-- An entry whose body is short and ends in a page number, its parts read where they stand in the list and not in the body.
-- Assumes nothing.
use Rattle.std.proofs.Common.{◌≡◌, ℕ, ◌+◌, ◌-◌, ◌<◌, ◌≤◌, List, length, get_or, take, drop, sym, refl, ap, ◌∙◌, arith, get_or-drop, get_or-take}
use Rattle.paper.specs.Answer.{gives}
use Rattle.field.specs.Field.{le}
use Rattle.field.proofs.Laws.{le_take}
use Rattle.varint.specs.Leb.{read_u64}
use Rattle.varint.specs.Zigzag.{unzigzag}
use Rattle.varint.proofs.Places.{part_rest, found_inside, signed_gives}
use Rattle.varint.proofs.Reading.{read_byte}
use Rattle.cell.specs.Entry.{body_at}
use Rattle.cell.specs.Framing.{FrameAt}
use Rattle.cell.specs.Keyed.{keyed_at, page_at}
use Rattle.cell.proofs.Framing.{frame_given}
use Rattle.cell.proofs.Keys.{key_given, page_given}
use Rattle.cell.proofs.Placing.{rest_all}
use Rattle.cell.proofs.Whole.{part_length}

module _ (s : List ℕ) (at : ℕ) (e : get_or s 0 0 ≡ at + 4) (short : at < 124) (inside : 5 + at ≤ length s) where
  body_length : length (body_at s 1 (at + 4)) ≡ at + 4
  body_length = part_length (at + 4) 1 s (omega arith)

  pub short_frame : FrameAt s (record { at = 1; end = 5 + at })
  short_frame =
      let n : 1 + (at + 4) ≡ 5 + at = omega arith in
      rw (← n) (frame_given s (read_byte s 0 (omega arith) (sym e) (omega arith)) (omega arith))

  pub short_number : (place : ℕ) {v n : ℕ} → gives (v, n) ≡ read_u64 s (1 + place) → place + n ≤ at → gives (v, n) ≡ read_u64 (body_at s 1 (at + 4)) place
  short_number place f h =
      let d : at + 4 ≡ place + (at + 4 - place) = omega arith in
      rw d (found_inside s 1 place (at + 4 - place) f (omega arith))

  pub short_key : (kind : ℕ) {v n : ℕ} → get_or s 1 0 ≡ kind → gives (v, n) ≡ read_u64 s 2 → 1 + n ≤ at
      → gives (unzigzag v, 1 + n) ≡ keyed_at kind (body_at s 1 (at + 4))
  short_key kind d f h =
      let k : get_or (body_at s 1 (at + 4)) 0 0 ≡ kind = get_or-take (at + 4) (drop 1 s) 0 0 (omega arith) ∙ get_or-drop 1 s 0 0 ∙ d in
      key_given kind (body_at s 1 (at + 4)) (rw body_length (omega arith)) k (signed_gives (body_at s 1 (at + 4)) 1 (short_number 1 f h) refl)

  pub short_page : {p : ℕ} → p ≡ le 4 0 (take (length s - (1 + at)) (drop (1 + at) s)) → gives p ≡ page_at (body_at s 1 (at + 4)) at
  short_page {p} d =
      let n : length (body_at s 1 (at + 4)) - at ≡ 4 = rw body_length (omega arith) in
      let r : take (length (body_at s 1 (at + 4)) - at) (drop at (body_at s 1 (at + 4))) ≡ take 4 (drop (1 + at) s)
      = rest_all (body_at s 1 (at + 4)) at ∙ part_rest s 1 at 4 (omega arith) in
      let g : p ≡ le 4 0 (take 4 (drop (1 + at) s)) = d ∙ ap (le 4 0) (rest_all s (1 + at)) ∙ sym (le_take 4 0 4 (drop (1 + at) s) (omega arith)) in
      page_given (body_at s 1 (at + 4)) at n (g ∙ ap (le 4 0) (sym r))
