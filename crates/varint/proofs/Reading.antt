-- The loop that reads a number: at each turn, what is left, resumed from here, is the answer. And reading at a place of a buffer.
-- Assumes nothing.
use Rattle.std.proofs.Common.{◌≡◌, ℕ, suc, ◌+◌, ◌-◌, ◌*◌, ◌%◌, ◌^◌, ◌<◌, ◌≤◌, List, [], ◌∷◌, length, get_or, take, drop, sym, refl, ap, ◌∙◌, le_of_eq, add-zero, add_assoc, zero-add, add-one, arith, length-drop, drop_of_length-le, get_or-drop, take_all, drop-cons, le-ltb, lt-ltb}
use native.Mathlib.Nat.{mod-add-mod, mod-mod}
use Rattle.paper.specs.Answer.{Answer, gives, refuses, and_then, pick}
use Rattle.varint.specs.Leb.{taken, sum_from, read_from, read_u64}
use Rattle.varint.specs.Scan.{Going, resume}

resume_start : (a : Answer (List ℕ)) → resume 0 0 a ≡ and_then a (λ bs. gives (sum_from 0 bs % 2 ^ 64, length bs))
unfolding resume and_then
resume_start (gives bs) = rw (zero-add (sum_from 0 bs), zero-add (length bs))
resume_start (refuses k) = refl

pub going_start : (s : List ℕ) → Going s 0 0
unfolding read_from
going_start s = record { same = resume_start (taken 10 s) }

-- one byte more: its seven bits join the sum
resume_cons : (v i b : ℕ) (a : Answer (List ℕ)) →
    resume v i (and_then a (λ bs. gives (b ∷ bs))) ≡ resume ((v + b % 128 * 2 ^ (7 * i)) % 2 ^ 64) (i + 1) a
unfolding resume and_then sum_from
resume_cons v i b (gives bs) =
    let e : i + length (b ∷ bs) ≡ i + 1 + length bs = omega arith in
    rw (
      ← add_assoc v (b % 128 * 2 ^ (7 * i)) (sum_from (i + 1) bs),
      ← mod-add-mod (v + b % 128 * 2 ^ (7 * i)) (2 ^ 64) (sum_from (i + 1) bs),
      e,
    )
resume_cons v i b (refuses k) = refl

resume_none : (m i : ℕ) → resume (m % 2 ^ 64) i (gives []) ≡ gives (m % 2 ^ 64, i)
unfolding resume sum_from
resume_none m i = rw (add-zero (m % 2 ^ 64), mod-mod m (2 ^ 64), add-zero i)

module _ (s : List ℕ) {v i : ℕ} (g : Going s v i) where
  pub going_end : 10 ≤ i → refuses 2 ≡ read_from s
  unfolding resume taken
  going_end l = let e : 10 - i ≡ 0 = omega arith in rw e at g.same

  module _ (t : i < 10) where
    pub going_short : length s ≤ i → refuses 1 ≡ read_from s
    unfolding resume taken
    going_short l = let e : 10 - i ≡ suc (9 - i) = omega arith in rw (e, drop_of_length-le s l) at g.same

    module _ (h : i < length s) {r : ℕ} (sum : r ≡ (v + get_or s i 0 % 128 * 2 ^ (7 * i)) % 2 ^ 64) where
      pub going_last : get_or s i 0 < 128 → gives (r, i + 1) ≡ read_from s
      unfolding taken pick and_then
      going_last l =
          let e : 10 - i ≡ suc (9 - i) = omega arith in
          let f : resume v i (and_then (gives []) (λ bs. gives (get_or s i 0 ∷ bs))) ≡ read_from s
          = rw (e, drop-cons s i 0, lt-ltb (get_or s i 0) 128 l) at g.same in
          rw sum (sym (resume_none (v + get_or s i 0 % 128 * 2 ^ (7 * i)) (i + 1)) ∙ sym (resume_cons v i (get_or s i 0) (gives [])) ∙ f)

      pub going_more : 128 ≤ get_or s i 0 → Going s r (i + 1)
      unfolding taken pick
      going_more l =
          let e : 10 - i ≡ suc (10 - (i + 1)) = omega arith in
          let d : drop i s ≡ get_or s i 0 ∷ drop (i + 1) s = rw (add-one, drop-cons s i 0) in
          record { same = rw (sum, ← resume_cons v i (get_or s i 0)) (rw (e, d, le-ltb (get_or s i 0) 128 l) at g.same) }

-- ---- at a place
module _ (s : List ℕ) (pos : ℕ) where
  pub read_past : length s ≤ pos → refuses 1 ≡ read_u64 s pos
  unfolding read_u64 read_from taken and_then
  read_past l = rw (drop_of_length-le s l)

  rest : take (length s - pos) (drop pos s) ≡ drop pos s
  rest = take_all (length s - pos) (drop pos s) (le_of_eq (length-drop pos s))

  module _ (h : pos < length s) {v : ℕ} (e : v ≡ get_or s pos 0) where
    pub read_byte : v < 128 → gives (v, 1) ≡ read_u64 s pos
    unfolding read_u64 read_from taken and_then pick sum_from
    read_byte l =
        let m : v ≡ (v % 128 * 2 ^ (7 * 0) + 0) % 2 ^ 64 = omega arith in
        rw (drop-cons s pos 0, ← e, lt-ltb v 128 l) (ap (λ (x : ℕ). gives (x, 1)) m)

    -- one byte is read, and the number goes on
    pub going_second : 128 ≤ v → Going (take (length s - pos) (drop pos s)) (v % 128) 1
    going_second l =
        let n : 0 < length (drop pos s) = rw (length-drop pos s) (omega arith) in
        let d : get_or (drop pos s) 0 0 ≡ v = rw (get_or-drop pos s 0 0, add-zero pos, e) in
        let m : v % 128 ≡ (0 + get_or (drop pos s) 0 0 % 128 * 2 ^ (7 * 0)) % 2 ^ 64 = rw d (omega arith) in
        rw rest (going_more (drop pos s) (going_start (drop pos s)) (omega arith) n m (rw d l))

  -- what is read of the part behind the place is read at the place
  pub read_rest : {a : Answer (ℕ × ℕ)} → a ≡ read_from (take (length s - pos) (drop pos s)) → a ≡ read_u64 s pos
  unfolding read_u64
  read_rest e = rw rest at e

pub ruleset scanning = (going_start, going_end, going_short, going_last, going_more)

pub ruleset places = (read_past, read_byte, going_second, read_rest)
