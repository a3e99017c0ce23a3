-- A number at a place, and the place behind it: made by the code here, and used by callers.
-- Assumes nothing.
use Rattle.std.proofs.Common.{◌≡◌, ℕ, ◌+◌, ◌-◌, ◌<◌, ◌≤◌, List, length, get_or, take, drop, ℤ, sym, refl, arith, length-drop, length-take-le, drop-drop, take-add, drop_at}
use Rattle.paper.specs.Answer.{Answer, gives, refuses, and_then}
use Rattle.paper.proofs.Laws.{gives_one, gives_refuses}
use Rattle.varint.specs.Leb.{read_from, read_u64, end_u64}
use Rattle.varint.specs.Number.{read_as, read_i64}
use Rattle.varint.specs.Zigzag.{unzigzag}
use Rattle.varint.proofs.Laws.{read_is, read_take}
use Rattle.varint.proofs.Reading.{read_past, read_byte, read_rest, going_second}

-- ---- used
module _ (s : List ℕ) (pos : ℕ) {v n : ℕ} (e : gives (v, n) ≡ read_u64 s pos) where
  -- a number has a byte at least
  pub at_some : 1 ≤ n
  unfolding read_u64
  at_some = (read_is (drop pos s) (sym e)).some

  -- and lies inside the buffer
  pub at_inside : pos + n ≤ length s
  unfolding read_u64
  at_inside =
      let i : n ≤ length s - pos = rw (length-drop pos s) at (read_is (drop pos s) (sym e)).inside in
      let o : 1 ≤ n = at_some in
      omega arith

-- ---- in a part

-- what a part of at + k bytes holds from place at on
pub part_rest : (s : List ℕ) (from at k : ℕ) → from + at ≤ length s → drop at (take (at + k) (drop from s)) ≡ take k (drop (from + at) s)
part_rest s from at k l =
    let n : length (take at (drop from s)) ≡ at = length-take-le at (drop from s) (rw (length-drop from s) (omega arith)) in
    rw (take-add at k (drop from s), drop_at (take at (drop from s)) (take k (drop at (drop from s))) at n, drop-drop at from s)

-- a number whose bytes lie in the part is the same there
pub found_inside : (s : List ℕ) (from at k : ℕ) {v n : ℕ} → gives (v, n) ≡ read_u64 s (from + at) → n ≤ k
    → gives (v, n) ≡ read_u64 (take (at + k) (drop from s)) at
unfolding read_u64
found_inside s from at k e h =
    let o = at_some s (from + at) e in
    let i = at_inside s (from + at) e in
    rw (part_rest s from at k (omega arith)) (sym (read_take (drop (from + at) s) (sym e) k h))

-- ---- what the generic calls promise, of each integer
module _ (s : List ℕ) (pos : ℕ) where
  pub read_as_u64 : read_as (λ v. v) s pos ≡ read_u64 s pos
  unfolding read_as and_then
  read_as_u64 = by (read_u64 s pos)
    where
      by : (a : Answer (ℕ × ℕ)) → and_then a (λ (v, n). gives (v, n)) ≡ a
      by (gives a) = refl
      by (refuses k) = refl

  pub read_as_i64 : read_as unzigzag s pos ≡ read_i64 s pos
  unfolding read_as read_i64
  read_as_i64 = refl

  -- signed: the same bytes, then ZigZag
  pub signed_gives : {v n : ℕ} {z : ℤ} → gives (v, n) ≡ read_u64 s pos → z ≡ unzigzag v → gives (z, n) ≡ read_i64 s pos
  unfolding read_i64 and_then
  signed_gives e d = rw (← e, d)

  pub signed_refuses : {k : ℕ} → refuses k ≡ read_u64 s pos → refuses k ≡ read_i64 s pos
  unfolding read_i64 and_then
  signed_refuses e = rw (← e)

-- ---- the place behind
module _ (s : List ℕ) (pos : ℕ) where
  pub end_gives : {v n : ℕ} → gives (v, n) ≡ read_u64 s pos → gives (pos + n) ≡ end_u64 s pos
  unfolding end_u64 and_then
  end_gives e = rw (← e)

  pub end_refuses : {k : ℕ} → refuses k ≡ read_u64 s pos → refuses k ≡ end_u64 s pos
  unfolding end_u64 and_then
  end_refuses e = rw (← e)

  pub end_past : length s ≤ pos → refuses 1 ≡ end_u64 s pos
  end_past l = end_refuses (read_past s pos l)

  pub end_byte : pos < length s → get_or s pos 0 < 128 → gives (pos + 1) ≡ end_u64 s pos
  end_byte h l = end_gives (read_byte s pos h refl l)

  -- behind a number that was read of the part from its place on
  pub rest_gives : {v n : ℕ} → gives (v, n) ≡ read_from (take (length s - pos) (drop pos s)) → gives (pos + n) ≡ end_u64 s pos
  rest_gives e = end_gives (read_rest s pos e)

  pub rest_refuses : {k : ℕ} → refuses k ≡ read_from (take (length s - pos) (drop pos s)) → refuses k ≡ end_u64 s pos
  rest_refuses e = end_refuses (read_rest s pos e)

  pub rest_inside : {v n : ℕ} → gives (v, n) ≡ read_from (take (length s - pos) (drop pos s)) → pos + n ≤ length s
  rest_inside e = at_inside s pos (read_rest s pos e)

-- it lies inside the buffer, past the number's own place
pub end_inside : (s : List ℕ) (pos : ℕ) {r : ℕ} → gives r ≡ end_u64 s pos → (pos < r) × (r ≤ length s)
unfolding end_u64 and_then
end_inside s pos {r} e = by (read_u64 s pos) refl e
  where
    by : (a : Answer (ℕ × ℕ)) → a ≡ read_u64 s pos → gives r ≡ and_then a (λ (v, n). gives (pos + n)) → (pos < r) × (r ≤ length s)
    by (gives p) h f =
        let o = at_some s pos h in
        let i = at_inside s pos h in
        let d : r ≡ pos + p.1 = gives_one f in
        (omega arith, omega arith)
    by (refuses k) h f = absurd (gives_refuses f)

pub ruleset ends = (end_past, end_byte, going_second, rest_gives, rest_refuses, rest_inside)
