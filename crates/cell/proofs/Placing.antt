-- Writers one after another: each writes its bytes over a part of the output that was lent to it.
-- Assumes nothing.
use Rattle.std.proofs.Common.{◌≡◌, ℕ, ◌+◌, ◌-◌, ◌<◌, ◌≤◌, List, [], ◌∷◌, ◌++◌, length, get_or, take, drop, set, sym, refl, ap, ◌∙◌, append_assoc, append-nil, zero-add, add-one, arith, length-append, length-drop, length-set, drop_of_length-le, length-take-le, take_all, drop-cons, drop-drop, take_at, drop_at, le-ltb, lt-ltb}
use lib.Seq.{sets, sets-eq}
use borrow.Rule.Slice.PartMut.{put_mid}
use Rattle.paper.specs.Answer.{gives, refuses, pick, over, put, size_of}
use Rattle.cell.specs.Entry.{fitted}
use Rattle.cell.specs.Keyed.{over_at}

-- what a part that goes to the end is
pub rest_all : (s : List ℕ) (a : ℕ) → take (length s - a) (drop a s) ≡ drop a s
rest_all s a = take_all (length s - a) (drop a s) (rw (length-drop a s) (omega arith))

pub length_over : (out bytes : List ℕ) → length bytes ≤ length out → length (over out bytes) ≡ length out
unfolding over
length_over out bytes l = rw (length-append bytes (drop (length bytes) out), length-drop (length bytes) out) (omega arith)

-- a part was lent and is back
pub lent : (out : List ℕ) (at : ℕ) (bytes : List ℕ) {new : List ℕ} → new ≡ over (take (length out - at) (drop at out)) bytes → at ≤ length out
    → put_mid at (length out - at) out new ≡ over_at out at bytes
lent out at bytes e l =
    let d : drop (length out - at) (drop at out) ≡ [] = drop_of_length-le (drop at out) {i = length out - at} (rw (length-drop at out) (omega arith)) in
    rw (d, e, rest_all out at, append-nil (over (drop at out) bytes))

pub set_first : (out : List ℕ) (v : ℕ) → 0 < length out → set out 0 v ≡ over out (v ∷ [])
unfolding over
set_first [] v l = absurd (omega arith)
set_first (x ∷ out) v l = refl

-- a second writer after a first
pub over_then : (out a b : List ℕ) (n : ℕ) → n ≡ length a → length a + length b ≤ length out → over_at (over out a) n b ≡ over out (a ++ b)
unfolding over
over_then out a b n e l =
    let t : take n (a ++ drop (length a) out) ≡ a = take_at a (drop (length a) out) n (sym e) in
    let d : drop n (a ++ drop (length a) out) ≡ drop (length a) out = drop_at a (drop (length a) out) n (sym e) in
    rw (t, d, length-append a b, drop-drop (length b) (length a) out, append_assoc a b (drop (length a + length b) out))

pub length_at : (out : List ℕ) (at : ℕ) (bytes : List ℕ) → at + length bytes ≤ length out → length (over_at out at bytes) ≡ length out
length_at out at bytes l =
    let k : length bytes ≤ length (drop at out) = rw (length-drop at out) (omega arith) in
    rw (length-append (take at out) (over (drop at out) bytes), length_over (drop at out) bytes k, length-drop at out, length-take-le at out (omega arith)) (omega arith)

pub at_then : (out : List ℕ) (at : ℕ) (a b : List ℕ) (n : ℕ) → n ≡ length a → at + length a ≤ length out
    → over_at (over_at out at a) (at + n) b ≡ over_at out at (a ++ b)
unfolding over
at_then out at a b n e l =
    let d : List ℕ = drop (length a) (drop at out) in
    let k : length (take at out ++ a) ≡ at + n = rw (length-append (take at out) a, length-take-le at out (omega arith)) (omega arith) in
    let s : take at out ++ (a ++ d) ≡ (take at out ++ a) ++ d = sym (append_assoc (take at out) a d) in
    let t : take (at + n) ((take at out ++ a) ++ d) ≡ take at out ++ a = take_at (take at out ++ a) d (at + n) k in
    let u : drop (at + n) ((take at out ++ a) ++ d) ≡ d = drop_at (take at out ++ a) d (at + n) k in
    let v : drop (length b) d ≡ drop (length (a ++ b)) (drop at out) = drop-drop (length b) (length a) (drop at out) ∙ ap (λ (m : ℕ). drop m (drop at out)) (sym (length-append a b)) in
    rw (s, t, u, v, append_assoc (take at out) a (b ++ drop (length (a ++ b)) (drop at out)), append_assoc a b (drop (length (a ++ b)) (drop at out)))

-- the same, where the second writer was lent the rest
module _ (out a b x new : List ℕ) (n : ℕ) where
  pub then_over : x ≡ over out a → n ≡ length a → length a + length b ≤ length out → new ≡ over (take (length x - n) (drop n x)) b
      → put_mid n (length x - n) x new ≡ over out (a ++ b)
  then_over d e l f =
      let k : length x ≡ length out = ap length d ∙ length_over out a (omega arith) in
      lent x n b f (omega arith) ∙ rw d (over_then out a b n e l)

-- the same, where the first wrote one byte
pub first_then : (out b new : List ℕ) (v : ℕ) → 1 + length b ≤ length out → new ≡ over (take (length (set out 0 v) - 1) (drop 1 (set out 0 v))) b
    → put_mid 1 (length (set out 0 v) - 1) (set out 0 v) new ≡ over out (v ∷ b)
first_then out b new v l e =
    then_over out (v ∷ []) b (set out 0 v) new 1 (set_first out v (omega arith)) refl (omega arith) e

-- ---- an entry into an output: the room decides
module _ (out entry : List ℕ) {n : ℕ} (e : length entry ≡ n) where
  pub short_size : length out < n → refuses 16 ≡ size_of (fitted (length out) entry)
  unfolding size_of fitted pick
  short_size l = rw (lt-ltb (length out) (length entry) (rw e l))

  pub short_output : length out < n → out ≡ put out (fitted (length out) entry)
  unfolding put fitted pick
  short_output l = rw (lt-ltb (length out) (length entry) (rw e l))

  pub whole_size : n ≤ length out → gives n ≡ size_of (fitted (length out) entry)
  unfolding size_of fitted pick
  whole_size l = rw (le-ltb (length out) (length entry) (rw e l), e)

  pub whole_output : n ≤ length out → over out entry ≡ put out (fitted (length out) entry)
  unfolding put fitted pick
  whole_output l = rw (le-ltb (length out) (length entry) (rw e l))

-- ---- a loop that stores byte after byte
pub record Storing (out₀ bytes out : List ℕ) (i : ℕ) : Type 0 where
  pub room : length bytes ≤ length out₀
  pub long : length out ≡ length out₀
  pub inside : i ≤ length bytes
  pub same : sets out i (drop i bytes) ≡ sets out₀ 0 bytes

pub storing_start : (out bytes : List ℕ) → length bytes ≤ length out → Storing out bytes out 0
storing_start out bytes l = record { room = l; long = refl; inside = omega arith; same = refl }

module _ {out₀ bytes out : List ℕ} {i : ℕ} (w : Storing out₀ bytes out i) where
  pub storing_inside : i < length bytes → i < length out
  storing_inside h = omega arith

  pub storing_more : {v : ℕ} → i < length bytes → v ≡ get_or bytes i 0 → Storing out₀ bytes (set out i v) (i + 1)
  storing_more {v} h e =
      record {
        room = w.room;
        long = length-set out i v ∙ w.long;
        inside = omega arith;
        same = rw (e, add-one i) (rw (drop-cons bytes i 0 h) at w.same);
      }

  pub storing_done : length bytes ≤ i → out ≡ over out₀ bytes
  unfolding over
  storing_done h =
      let z : 0 + length bytes ≡ length bytes = zero-add (length bytes) in
      let e : out ≡ sets out₀ 0 bytes = rw (drop_of_length-le bytes h) at w.same in
      let l : 0 + length bytes ≤ length out₀ = omega (arith, w.room) in
      e ∙ sets-eq bytes out₀ 0 l ∙ ap (λ (n : ℕ). bytes ++ drop n out₀) z

pub ruleset storing = (storing_start, storing_inside, storing_more, storing_done)
