-- The quick reading of a value list: a column of a common kind whose word is not too large is good, and the lengths are those of the plain reading.
-- Assumes nothing.
use Rattle.std.proofs.Common.{◌≡◌, ℕ, zero, suc, ◌+◌, ◌-◌, ◌≤◌, eqb, ltb, List, ◌∷◌, length, take, drop, refl, ◌∙◌, subst, arith, length-drop, get_or-drop, le-ltb, w64, Fits, to_z}
use Rattle.paper.specs.Answer.{and_then, pick}
use Rattle.varint.specs.Leb.{groups, leb_bytes}
use Rattle.varint.specs.Zigzag.{zigzag}
use Rattle.utf8.specs.Ascii.{Plain}
use Rattle.cell.specs.ValueList.{item}
use Rattle.cell.specs.Listing.{used, held, block_len, Accepted, Common, largest}
use Rattle.varint.proofs.Limits.{groups_some, groups_last}
use Rattle.cell.proofs.Numbers.{leb_most}
use Rattle.cell.proofs.Placing.{rest_all}
use Rattle.std.specs.Int.{from_le_bytes}
use Rattle.cell.proofs.Judging.{ascii_part}
use Rattle.cell.proofs.Measuring.{Measuring, measuring_start, measuring_small, measuring_bytes, measuring_more, measuring_done}
use Rattle.cell.proofs.Pairing.{no_turn}

-- ---- the five kinds
by_kind : (P : ℕ → Type 0) → P 0 → P 1 → P 2 → P 3 → P 255 → (kind : ℕ) → Common kind → P kind
by_kind P integer real text bool null zero c = integer
by_kind P integer real text bool null (suc zero) c = real
by_kind P integer real text bool null (suc (suc zero)) c = text
by_kind P integer real text bool null (suc (suc (suc zero))) c = bool
by_kind P integer real text bool null (suc (suc (suc (suc kind)))) c =
    let e : 255 ≡ suc (suc (suc (suc kind))) = omega (arith, c.byte, c.near) in subst P e null

-- ---- lengths
pub number_some : (v : ℕ) {l : ℕ} → l ≡ length (leb_bytes v) → 1 ≤ l
unfolding leb_bytes
number_some v e = rw e (groups_some 9 v)

zero_len : length (leb_bytes 0) ≡ 1
unfolding leb_bytes
zero_len = rw (groups_last 9 0 (omega arith))

eight_len : length (leb_bytes 0x2_0000_0000_0000) ≡ 8
unfolding leb_bytes groups pick
eight_len = refl

module _ (kind word : ℕ) (c : Common kind) where
  pub text_used : {t : ℕ} → t ≡ pick (eqb kind 2) word 0 → t ≡ used kind word
  unfolding used pick
  text_used {t} e =
      by_kind (λ k. t ≡ pick (eqb k 2) word 0 → t ≡ used k word) (λ e. e) (λ e. e) (λ e. e) (λ e. e) (λ e. e) kind c e

  pub quick_fits : {f l t : ℕ} → f ≤ 2 → l ≤ 10 → t ≡ pick (eqb kind 2) word 0 → used kind word ≤ 16777216 → Fits w64 (f + (l - 1) + t)
  quick_fits f l e u = record { fits = omega (arith, text_used e) }

  most : block_len kind word ≤ 11 + used kind word
  unfolding block_len used pick
  most =
      by_kind (λ k. block_len k word ≤ 11 + used k word)
      (omega (arith, leb_most (zigzag (to_z w64 word)))) (omega arith) (omega (arith, leb_most word)) (omega arith) (omega arith) kind c

  module _ {f a v r t l : ℕ} (ef : f ≡ pick (ltb kind 4) 2 0) (ev : v ≡ zigzag (to_z w64 word))
      (et : t ≡ pick (eqb kind 2) word 0) (er : r ≡ pick (eqb kind 1) 0x2_0000_0000_0000 t) (ea : a ≡ pick (eqb kind 0) v r) (el : l ≡ length (leb_bytes a)) where
    no_number : a ≡ r → r ≡ t → t ≡ 0 → l ≡ 1
    no_number ea er et = el ∙ rw (ea, er, et, zero_len)

    pub quick_length : f + (l - 1) + t ≡ block_len kind word
    unfolding block_len used pick
    quick_length =
        by_kind
        (λ k. f ≡ pick (ltb k 4) 2 0 → t ≡ pick (eqb k 2) word 0 → r ≡ pick (eqb k 1) 0x2_0000_0000_0000 t → a ≡ pick (eqb k 0) v r → f + (l - 1) + t ≡ block_len k word)
        (λ ef et er ea. let e : l ≡ length (leb_bytes (zigzag (to_z w64 word))) = rw (ea, ev) at el in omega (arith, number_some (zigzag (to_z w64 word)) e))
        (λ ef et er ea. let e : l ≡ 8 = el ∙ rw (ea, er, eight_len) in omega arith)
        (λ ef et er ea. let e : l ≡ length (leb_bytes word) = rw (ea, er, et) at el in omega (arith, number_some word e))
        (λ ef et er ea. omega (arith, no_number ea er et))
        (λ ef et er ea. omega (arith, no_number ea er et))
        kind c ef et er ea

-- ---- a column without a flaw
flawless : (kind word : ℕ) (rest : List ℕ) → Common kind → Plain rest 0 (length rest) → word ≤ largest kind (length rest)
    → Accepted kind word rest (used kind word) (block_len kind word)
unfolding largest item held used and_then pick
flawless kind word rest c p l =
    by_kind (λ k. word ≤ largest k (length rest) → block_len k word ≤ 11 + used k word → Accepted k word rest (used k word) (block_len k word))
    (λ l m. record { same = refl; taken_is = refl; fits = omega arith; len_is = refl; most = m })
    (λ l m. record { same = refl; taken_is = refl; fits = omega arith; len_is = refl; most = m })
    (λ l m. record { same = rw (le-ltb (length rest) word l, ← ascii_part p word 0); taken_is = refl; fits = l; len_is = refl; most = m })
    (λ l m. record { same = rw (le-ltb 1 word l); taken_is = refl; fits = omega arith; len_is = refl; most = m })
    (λ l m. let z : word ≡ 0 = omega arith in record { same = rw z; taken_is = refl; fits = omega arith; len_is = refl; most = m })
    kind c l (most kind word c)

-- ---- the loop
pub record Quickly (kinds words all left : List ℕ) (words_left : List (List ℕ)) (rest : List ℕ) (bytes : ℕ) : Type 0 where
  pub going : Measuring kinds words all left words_left rest bytes
  pub plain : Plain rest 0 (length rest)

plain_rest : (rest : List ℕ) (n : ℕ) → Plain rest 0 (length rest) → n ≤ length rest → Plain (drop n rest) 0 (length (drop n rest))
plain_rest rest n p l =
    let k : length (drop n rest) ≡ length rest - n = length-drop n rest in
    record {
      ahead = omega arith;
      inside = omega arith;
      ascii = λ i a b. rw (get_or-drop n rest i 0) (p.ascii (n + i) (omega arith) (omega arith));
    }

module _ {kinds words all left : List ℕ} {words_left : List (List ℕ)} {rest : List ℕ} {bytes : ℕ} (q : Quickly kinds words all left words_left rest bytes)
    {kind : ℕ} {eight left' : List ℕ} {words' : List (List ℕ)} (t : (left ≡ kind ∷ left') × (words_left ≡ eight ∷ words')) {word : ℕ} (e : word ≡ from_le_bytes w64 eight)
    (c : Common kind) {m : ℕ} (g : m ≡ largest kind (length rest)) (l : word ≤ m) where
  good : Accepted kind word rest (used kind word) (block_len kind word)
  good = flawless kind word rest c q.plain (rw g at l)

  pub quick_small : length all ≤ 16777216 → used kind word ≤ 16777216
  quick_small s = measuring_small q.going t refl e good s

  module _ {n : ℕ} (f : n ≡ block_len kind word) where
    pub quick_bytes : length kinds ≤ 65536 → length all ≤ 16777216 → Fits w64 (bytes + n)
    quick_bytes k s = rw f (measuring_bytes q.going t refl e good k s)

    module _ {size : ℕ} (u : size ≡ pick (eqb kind 2) word 0) where
      taken : size ≡ used kind word
      taken = text_used kind word c u

      pub quick_inside : size ≤ length rest
      quick_inside = omega (arith, taken, good.fits)

      pub quick_more : Quickly kinds words all left' words' (take (length rest - size) (drop size rest)) (bytes + n)
      quick_more =
          rw (taken, f)
          record {
            going = measuring_more q.going t refl e good;
            plain = rw (rest_all rest (used kind word)) (plain_rest rest (used kind word) q.plain good.fits);
          }

pub ruleset quickly = (no_turn, measuring_start, measuring_done, number_some, quick_fits, quick_length, quick_small, quick_bytes, quick_inside, quick_more)
