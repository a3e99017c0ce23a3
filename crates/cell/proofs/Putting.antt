-- The loop that writes the value blocks: what is left, written from here on, fills the output as the answer does.
-- Assumes nothing.
use Rattle.std.proofs.Common.{◌≡◌, ℕ, ◌+◌, ◌-◌, ◌^◌, ◌<◌, ◌≤◌, List, ◌∷◌, ◌++◌, length, take, drop, sym, refl, ◌∙◌, arith, length-append, length-drop, take-append-drop, w64, Fits}
use borrow.Rule.Slice.PartMut.{put_mid}
use Rattle.paper.specs.Answer.{over}
use Rattle.std.specs.Int.{from_le_bytes}
use Rattle.cell.specs.Written.{block_bytes, blocks_bytes}
use Rattle.cell.specs.Listing.{numbers, used, held, used_all, held_all}
use Rattle.cell.specs.Keyed.{over_at}
use Rattle.cell.proofs.Placing.{lent, at_then, rest_all, length_at}
use Rattle.cell.proofs.BlockWriting.{used_none, held_none}
use Rattle.cell.proofs.Pairing.{turn_words, turn_even, empty, no_turn}

-- what is left writes this
abbrev remains : List ℕ → List (List ℕ) → List ℕ → List ℕ
remains kinds words rest = blocks_bytes (held_all kinds (numbers words) rest)

-- what is left: kinds, their words, and their data; and where the next block stands
pub record Putting (old kinds words all out left : List ℕ) (words_left : List (List ℕ)) (rest : List ℕ) (at : ℕ) : Type 0 where
  pub long : length out ≡ length old
  pub even : length words_left ≡ length left
  pub within : length rest ≤ length all
  pub fits : used_all left (numbers words_left) ≤ length rest
  pub room : at + length (blocks_bytes (held_all left (numbers words_left) rest)) ≤ length out
  pub same : over_at out at (blocks_bytes (held_all left (numbers words_left) rest)) ≡ over old (blocks_bytes (held_all kinds words all))

pub putting_start : (out kinds : List ℕ) (words : List (List ℕ)) (all : List ℕ) → length words ≡ length kinds
    → used_all kinds (numbers words) ≤ length all → length (blocks_bytes (held_all kinds (numbers words) all)) ≤ length out
    → Putting out kinds (numbers words) all out kinds words all 0
putting_start out kinds words all e f l =
    record {
      long = refl;
      even = e;
      within = omega arith;
      fits = f;
      room = omega arith;
      same = refl;
    }

module _ {old kinds words all out left : List ℕ} {words_left : List (List ℕ)} {rest : List ℕ} {at : ℕ} (w : Putting old kinds words all out left words_left rest at) where
  pub putting_done : length left ≡ 0 → out ≡ over old (blocks_bytes (held_all kinds words all))
  unfolding blocks_bytes held_all over
  putting_done h = sym (take-append-drop at out) ∙ (rw (empty left h) at w.same)

  module _ {kind : ℕ} {eight left' : List ℕ} {words' : List (List ℕ)} (t : (left ≡ kind ∷ left') × (words_left ≡ eight ∷ words')) where
    -- a null writes nothing
    pub putting_null : 4 < kind → Putting old kinds words all out left' words' rest at
    unfolding block_bytes blocks_bytes held_all used_all
    putting_null k =
        let v : ℕ = from_le_bytes w64 eight in
        let z : used kind v ≡ 0 = used_none kind v k in
        let n : remains left words_left rest ≡ remains left' words' rest = rw (t.0, turn_words t {v = v} refl, held_none kind v rest k, z) in
        let u : used_all left (numbers words_left) ≡ used_all left' (numbers words') = rw (t.0, turn_words t {v = v} refl, z) (omega arith) in
        record {
          long = w.long;
          even = turn_even t w.even;
          within = w.within;
          fits = rw u at w.fits;
          room = rw n at w.room;
          same = rw n at w.same;
        }

    module _ {tag word : ℕ} (f : kind ≡ tag) (e : word ≡ from_le_bytes w64 eight) where
      remains_is : remains left words_left rest ≡ block_bytes (held tag word rest) ++ remains left' words' (drop (used tag word) rest)
      unfolding blocks_bytes held_all
      remains_is = rw (← f, t.0, turn_words t e)

      used_is : used_all left (numbers words_left) ≡ used tag word + used_all left' (numbers words')
      unfolding used_all
      used_is = rw (← f, t.0, turn_words t e)

      pub putting_used : used tag word ≤ length rest
      putting_used = omega (arith, used_is, w.fits)

      pub putting_below : length all < 2 ^ 64 → used tag word < 2 ^ 64
      putting_below l = omega (arith, putting_used, w.within)

      remains_room : at + length (block_bytes (held tag word rest)) + length (remains left' words' (drop (used tag word) rest)) ≤ length out
      remains_room =
          let l : at + length (block_bytes (held tag word rest) ++ remains left' words' (drop (used tag word) rest)) ≤ length out = rw remains_is at w.room in
          let k = length-append (block_bytes (held tag word rest)) (remains left' words' (drop (used tag word) rest)) in
          omega arith

      pub putting_room : length (block_bytes (held tag word rest)) ≤ length (take (length out - at) (drop at out))
      putting_room = rw (rest_all out at, length-drop at out) (omega (arith, remains_room))

      pub putting_at : {n : ℕ} → n ≡ length (block_bytes (held tag word rest)) → length old < 2 ^ 64 → Fits w64 (at + n)
      putting_at d l = record { fits = omega (arith, remains_room, w.long) }

      pub putting_more : {u n : ℕ} {new : List ℕ} → u ≡ used tag word → n ≡ length (block_bytes (held tag word rest))
          → new ≡ over (take (length out - at) (drop at out)) (block_bytes (held tag word rest))
          → Putting old kinds words all (put_mid at (length out - at) out new) left' words' (take (length rest - u) (drop u rest)) (at + n)
      putting_more {u} {n} {new} f d g =
          let b : List ℕ = block_bytes (held tag word rest) in
          let x : put_mid at (length out - at) out new ≡ over_at out at b = lent out at b g (omega (arith, remains_room)) in
          let k : length (over_at out at b) ≡ length out = length_at out at b (omega (arith, remains_room)) in
          let s : over_at out at (b ++ remains left' words' (drop (used tag word) rest)) ≡ over old (blocks_bytes (held_all kinds words all)) = rw remains_is at w.same in
          rw (x, rest_all rest u, f)
          record {
            long = k ∙ w.long;
            even = turn_even t w.even;
            within = omega (arith, w.within, length-drop (used tag word) rest);
            fits = omega (arith, used_is, w.fits, length-drop (used tag word) rest);
            room = rw k (omega (arith, remains_room));
            same = at_then out at b (remains left' words' (drop (used tag word) rest)) n d (omega (arith, remains_room)) ∙ s;
          }

pub ruleset putting = (no_turn, putting_start, putting_done, putting_null, putting_used, putting_below, putting_room, putting_at, putting_more)
