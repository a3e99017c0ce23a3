-- Eight to sixteen bytes, copied by two words that may meet.
-- Assumes nothing.
use Rattle.std.proofs.Common.{◌≡◌, ℕ, ◌+◌, ◌-◌, ◌≤◌, ◌<◌, List, [], ◌++◌, length, get_or, take, drop, refl, ap, ◌∙◌, append_assoc, append-nil, arith, take-append-drop, length-take-le, length-append, length-drop, take-take, take_all, drop-drop, drop_of_length-le}
use lib.Seq.{take-append-le, drop-append-add}
use borrow.Rule.Slice.PartMut.{put_mid}
use Rattle.paper.specs.Answer.{over}
use Rattle.field.specs.Field.{le, bytes}
use Rattle.field.proofs.Laws.{bytes_le}
use Rattle.cell.proofs.Placing.{rest_all}

pub ends_meet : (out src first last : List ℕ) → 8 ≤ length src → length src ≤ 16 → first ≡ take 8 src → last ≡ take (length src - (length src - 8)) (drop (length src - 8) src)
    → put_mid (length src - 8) (length src - (length src - 8)) (first ++ drop 8 out) last ≡ over out src
unfolding over
ends_meet out src first last low high f l =
    let n : ℕ = length src - 8 in
    let h : length (take 8 src) ≡ 8 = length-take-le 8 src low in
    let t : take n (take 8 src ++ drop 8 out) ≡ take n src = take-append-le n (take 8 src) (drop 8 out) (omega arith) ∙ take-take n 8 src (omega arith) in
    let k : n + (length src - n) ≡ length (take 8 src) + n = omega arith in
    let m : 8 + n ≡ length src = omega arith in
    let d : drop (length src - n) (drop n (take 8 src ++ drop 8 out)) ≡ drop (length src) out
    = drop-drop (length src - n) n (take 8 src ++ drop 8 out) ∙ rw (k, drop-append-add (take 8 src) (drop 8 out) n, drop-drop n 8 out, m) in
    rw (f, l, rest_all src n, t, d, ← append_assoc (take n src) (drop n src) (drop (length src) out), take-append-drop n src)

-- a word that is read and written is a copy
pub word_copied : (out src : List ℕ) → ((i : ℕ) → get_or src i 0 < 256) → 8 ≤ length src → {word : ℕ} {new : List ℕ} → word ≡ le 8 0 src → new ≡ bytes 8 word ++ drop 8 out
    → new ≡ take 8 src ++ drop 8 out
word_copied out src below l {word} {new} w e = e ∙ rw w (ap (λ (b : List ℕ). b ++ drop 8 out) (bytes_le 8 0 src below l))

module _ (out src x last : List ℕ) (low : 8 ≤ length src) (high : length src ≤ 16) (room : length src ≤ length out) where
  -- the last eight bytes are a part of their own, of which nothing is left behind the word
  pub words_meet : x ≡ take 8 src ++ drop 8 out
      → last ≡ take 8 (take (length src - (length src - 8)) (drop (length src - 8) src)) ++ drop 8 (take (length src - (length src - 8)) (drop (length src - 8) x))
      → put_mid (length src - 8) (length src - (length src - 8)) x last ≡ over out src
  words_meet e f =
      let n : ℕ = length src - 8 in
      let m : length src - n ≡ 8 = omega arith in
      let s : length (take 8 (drop n src)) ≡ 8 = length-take-le 8 (drop n src) (rw (length-drop n src) (omega arith)) in
      let t : take 8 (take 8 (drop n src)) ≡ take 8 (drop n src) = take_all 8 (take 8 (drop n src)) (omega (arith, s)) in
      let lx : length x ≡ length out = rw (e, length-append (take 8 src) (drop 8 out), length-take-le 8 src low, length-drop 8 out) (omega arith) in
      let k : length (take 8 (drop n x)) ≡ 8 = length-take-le 8 (drop n x) (rw (length-drop n x) (omega (arith, lx))) in
      let d : drop 8 (take 8 (drop n x)) ≡ [] = drop_of_length-le (take 8 (drop n x)) {i = 8} (omega (arith, k)) in
      rw e (ends_meet out src (take 8 src) last low high refl (f ∙ rw (m, t, d, append-nil (take 8 (drop n src)))))
