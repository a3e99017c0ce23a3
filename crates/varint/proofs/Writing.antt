-- The loop that writes a number: what is left, stored from here on, fills the output as the answer does.
-- Assumes nothing.
use Rattle.std.proofs.Common.{◌≡◌, ℕ, suc, ◌+◌, ◌-◌, ◌*◌, ◌/◌, ◌%◌, ◌^◌, ◌<◌, ◌≤◌, List, [], ◌∷◌, ◌++◌, length, drop, set, refl, ap, ◌∙◌, le_trans, zero-add, add-one, arith, length-set, shr_lt, le-ltb, lt-ltb}
use lib.Arith.{lt_of_le-ne}
use lib.Seq.{sets, sets-eq}
use Rattle.paper.specs.Answer.{gives, refuses, pick, put, over, size_of}
use Rattle.varint.specs.Leb.{groups, leb_bytes, len_u64, write_u64}
use Rattle.varint.proofs.Limits.{groups_last, groups_more, groups_some, groups_most}

pub record Filling (out₀ : List ℕ) (value : ℕ) (out : List ℕ) (v i : ℕ) : Type 0 where
  pub room : len_u64 value ≤ length out₀
  pub long : length out ≡ length out₀
  pub below : i < 10
  pub small : v < 2 ^ (70 - 7 * i)
  pub count : i + length (groups (10 - i) v) ≡ len_u64 value
  pub same : sets out i (groups (10 - i) v) ≡ sets out₀ 0 (leb_bytes value)

pub filling_start : {out : List ℕ} {value : ℕ} → value < 2 ^ 64 → len_u64 value ≤ length out → Filling out value out value 0
unfolding leb_bytes
filling_start {out} {value} f r =
    record {
      room = r;
      long = refl;
      below = omega arith;
      small = omega arith;
      count = zero-add (length (groups 10 value));
      same = refl;
    }

module _ {out₀ out : List ℕ} {value v i : ℕ} (w : Filling out₀ value out v i) where
  pub filling_inside : i < length out
  filling_inside =
      let e : 10 - i ≡ suc (9 - i) = omega (arith, w.below) in
      let s : 1 ≤ length (groups (10 - i) v) = rw e (groups_some (9 - i) v) in
      let l : i + length (groups (10 - i) v) ≡ len_u64 value = w.count in
      let m : length out ≡ length out₀ = w.long in
      let r : len_u64 value ≤ length out₀ = w.room in
      omega arith

  -- a number of more than seven bits leaves room for one group more
  not_last : 128 ≤ v → i < 9
  not_last h =
      lt_of_le-ne (omega (arith, w.below)) (λ e. let s : v < 128 = rw e at w.small in omega arith)

  pub filling_more : 128 ≤ v → Filling out₀ value (set out i (128 + v % 128)) (v / 128) (i + 1)
  filling_more h =
      let t : i < 9 = not_last h in
      let e : 10 - i ≡ suc (10 - (i + 1)) = omega arith in
      let g : groups (10 - i) v ≡ (128 + v % 128) ∷ groups (10 - (i + 1)) (v / 128) = rw e (groups_more (10 - (i + 1)) v h) in
      let n : i + suc (length (groups (10 - (i + 1)) (v / 128))) ≡ len_u64 value = rw g at w.count in
      let k : 70 - 7 * i ≡ 70 - 7 * (i + 1) + 7 = omega arith in
      record {
        room = w.room;
        long = length-set out i (128 + v % 128) ∙ w.long;
        below = omega arith;
        small = shr_lt (70 - 7 * (i + 1)) 7 (rw k at w.small);
        count = omega arith;
        same = rw (add-one i) (rw (g, add-one i) at w.same);
      }

  pub filling_count : v < 128 → i + 1 ≡ len_u64 value
  filling_count h =
      let e : 10 - i ≡ suc (9 - i) = omega (arith, w.below) in
      rw (e, groups_last (9 - i) v h) at w.count

  pub filling_done : v < 128 → set out i v ≡ over out₀ (leb_bytes value)
  unfolding over
  filling_done h =
      let e : 10 - i ≡ suc (9 - i) = omega (arith, w.below) in
      let r : len_u64 value ≤ length out₀ = w.room in
      let f : set out i v ≡ sets out₀ 0 (leb_bytes value) = rw (e, groups_last (9 - i) v h) at w.same in
      let z : 0 + length (leb_bytes value) ≡ length (leb_bytes value) = zero-add (length (leb_bytes value)) in
      let l : 0 + length (leb_bytes value) ≤ length out₀ = omega arith in
      f ∙ sets-eq (leb_bytes value) out₀ 0 l ∙ ap (λ (n : ℕ). leb_bytes value ++ drop n out₀) z

-- ---- the call, by the length of the number
pub any_room : (value room : ℕ) → 10 ≤ room → len_u64 value ≤ room
unfolding leb_bytes
any_room value room h = le_trans (groups_most 10 value) h

module _ (value room : ℕ) where
  pub refused_size : room < len_u64 value → refuses 16 ≡ size_of (write_u64 value room)
  unfolding size_of write_u64 pick
  refused_size h = rw (lt-ltb room (len_u64 value) h)

  pub refused_output : room < len_u64 value → (out : List ℕ) → out ≡ put out (write_u64 value room)
  unfolding put write_u64 pick
  refused_output h out = rw (lt-ltb room (len_u64 value) h)

  pub accepted_size : len_u64 value ≤ room → {n : ℕ} → n ≡ len_u64 value → gives n ≡ size_of (write_u64 value room)
  unfolding size_of write_u64 pick
  accepted_size h d = rw (d, le-ltb room (len_u64 value) h)

  pub accepted_output : len_u64 value ≤ room → (out : List ℕ) {new : List ℕ} → new ≡ over out (leb_bytes value) → new ≡ put out (write_u64 value room)
  unfolding put write_u64 pick
  accepted_output h out d = rw (le-ltb room (len_u64 value) h) d

-- ---- one byte
module _ (value : ℕ) (h : value < 128) where
  one_byte : leb_bytes value ≡ value ∷ []
  unfolding leb_bytes
  one_byte = groups_last 9 value h

  pub one_long : len_u64 value ≡ 1
  one_long = ap length one_byte

  pub byte_output : (out : List ℕ) → 1 ≤ length out → set out 0 value ≡ put out (write_u64 value (length out))
  byte_output out l =
      let r : len_u64 value ≤ length out = rw one_byte l in
      accepted_output value (length out) r out (filling_done (filling_start (omega arith) r) h)

pub ruleset filling = (filling_start, filling_inside, filling_more, filling_count, filling_done)

pub ruleset writing = (any_room, refused_size, refused_output, accepted_size, accepted_output, one_long, byte_output)
