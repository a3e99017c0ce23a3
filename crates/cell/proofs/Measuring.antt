-- The loop that judges and measures the columns: at each turn, what is left, added to the bytes so far, is the answer.
-- Assumes nothing.
use Rattle.std.proofs.Common.{◌≡◌, ℕ, suc, ◌+◌, ◌-◌, ◌*◌, ◌≤◌, eqb, List, [], ◌∷◌, ◌++◌, length, take, drop, sym, refl, ap, ◌∙◌, arith, length-append, length-drop, w64, Fits, eq-eqb, ne_eqb}
use Rattle.paper.specs.Answer.{Answer, gives, refuses, and_then, pick}
use Rattle.cell.specs.Content.{Content}
use Rattle.cell.specs.Written.{block_bytes, blocks_bytes}
use Rattle.cell.specs.ValueList.{item, items}
use Rattle.cell.specs.Listing.{numbers, used, held, Accepted, blocks_len}
use Rattle.cell.proofs.Placing.{rest_all}
use Rattle.std.specs.Int.{from_le_bytes}
use Rattle.cell.proofs.Pairing.{turn_words, turn_even, empty, no_turn}
use Rattle.paper.proofs.Laws.{told_err}
use Rattle.cell.proofs.Judging.{block_length, unknown_refused}

-- the bytes so far and those of the columns left
unfoldable pub added : ℕ → Answer (List Content) → Answer ℕ
added n (gives cs) = gives (n + length (blocks_bytes cs))
added n (refuses k) = refuses k

-- what is left: kinds, their words, and their data
pub record Measuring (kinds words all left : List ℕ) (words_left : List (List ℕ)) (rest : List ℕ) (bytes : ℕ) : Type 0 where
  pub even : length words_left ≡ length left
  pub within : length rest ≤ length all
  pub most : bytes + 11 * length left + length rest ≤ 11 * length kinds + length all
  pub same : added bytes (items left (numbers words_left) rest) ≡ blocks_len (items kinds words all)

none_added : (a : Answer (List Content)) → added 0 a ≡ blocks_len a
unfolding blocks_len added
none_added (gives cs) = let e : 0 + length (blocks_bytes cs) ≡ length (blocks_bytes cs) = omega arith in rw e
none_added (refuses k) = refl

pub measuring_start : (kinds : List ℕ) (words : List (List ℕ)) (all : List ℕ) → length words ≡ length kinds → Measuring kinds (numbers words) all kinds words all 0
measuring_start kinds words all e =
    record {
      even = e;
      within = omega arith;
      most = omega arith;
      same = none_added (items kinds (numbers words) all);
    }

-- one column more
more_added : (n : ℕ) (c : Content) (a : Answer (List Content)) → added n (and_then a (λ cs. gives (c ∷ cs))) ≡ added (n + length (block_bytes c)) a
unfolding and_then blocks_bytes added
more_added n c (gives cs) =
    let e : n + length (block_bytes c ++ blocks_bytes cs) ≡ n + length (block_bytes c) + length (blocks_bytes cs)
    = rw (length-append (block_bytes c) (blocks_bytes cs)) (omega arith) in
    rw e
more_added n c (refuses k) = refl

module _ {kinds words all left : List ℕ} {words_left : List (List ℕ)} {rest : List ℕ} {bytes : ℕ} (w : Measuring kinds words all left words_left rest bytes) where
  module _ (h : length left ≡ 0) where
    last : added bytes (pick (eqb (length rest) 0) (gives []) (refuses 15)) ≡ blocks_len (items kinds words all)
    unfolding items
    last = rw (empty left h) at w.same

    pub measuring_left : (length rest ≡ 0 → ⊥) → refuses 15 ≡ blocks_len (items kinds words all)
    unfolding pick added
    measuring_left n = rw (ne_eqb (length rest) 0 n) at last

    pub measuring_done : length rest ≡ 0 → gives bytes ≡ blocks_len (items kinds words all)
    unfolding pick blocks_bytes added
    measuring_done e =
        let z : bytes + 0 ≡ bytes = omega arith in
        rw (eq-eqb (length rest) 0 e, z) at last

  module _ {byte : ℕ} {eight left' : List ℕ} {words' : List (List ℕ)} (t : (left ≡ byte ∷ left') × (words_left ≡ eight ∷ words')) {kind word : ℕ} (f : byte ≡ kind) (e : word ≡ from_le_bytes w64 eight) where
    turn : added bytes (and_then (item kind word rest) (λ (c, data_left). and_then (items left' (numbers words') data_left) (λ cs. gives (c ∷ cs))))
        ≡ blocks_len (items kinds words all)
    unfolding items
    turn = rw (← f) (rw (t.0, turn_words t e) at w.same)

    pub measuring_refused : {k : ℕ} → refuses k ≡ item kind word rest → refuses k ≡ blocks_len (items kinds words all)
    unfolding and_then added
    measuring_refused g = rw (← g) at turn

    module _ {n l : ℕ} (a : Accepted kind word rest n l) where
      pub measuring_small : length all ≤ 16777216 → used kind word ≤ 16777216
      measuring_small s = omega (arith, a.fits, w.within)

      count : length left ≡ suc (length left')
      count = ap length t.0

      pub measuring_bytes : length kinds ≤ 65536 → length all ≤ 16777216 → Fits w64 (bytes + l)
      measuring_bytes k s = record { fits = omega (arith, a.fits, a.most, w.most, count) }

      pub measuring_more : Measuring kinds words all left' words' (take (length rest - n) (drop n rest)) (bytes + l)
      unfolding and_then
      measuring_more =
          let b : length (block_bytes (held kind word rest)) ≡ l = block_length kind word rest a.fits ∙ sym a.len_is in
          let s : added bytes (and_then (items left' (numbers words') (drop (used kind word) rest)) (λ cs. gives (held kind word rest ∷ cs))) ≡ blocks_len (items kinds words all)
          = rw (← a.same) at turn in
          rw (rest_all rest n, a.taken_is)
          record {
            even = turn_even t w.even;
            within = omega (arith, w.within, length-drop (used kind word) rest);
            most = omega (arith, w.most, a.fits, a.most, count, length-drop (used kind word) rest);
            same = rw (← b) (sym (more_added bytes (held kind word rest) (items left' (numbers words') (drop (used kind word) rest))) ∙ s);
          }

pub ruleset measuring = (told_err, unknown_refused, no_turn, measuring_start, measuring_refused, measuring_more, measuring_left, measuring_done)
