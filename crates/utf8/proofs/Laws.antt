-- What callers may use of the check, so that they never open its definition.
-- Assumes nothing.
use Prim.Native.Nat.{ℕ, ◌+◌, ◌-◌, ◌≤◌, ◌<◌}
use native.Mathlib.Omega.{arith}
use mathlib.Core.Path.{◌≡◌, refl, sym, ap, ◌∙◌}
use mathlib.Core.Bool.{true, false}
use mathlib.Core.List.{List, [], ◌∷◌, ◌++◌}
use mathlib.Core.Option.{Option, none, some}
use lib.ListN.{length, take, drop, length-append, length-drop}
use lib.Seq.{take_all, take-append-le, drop-append-le}
use borrow.Author.Tests.{le-leb, lt-leb}
use Rattle.std.specs.List.{slice_range}
use Rattle.paper.specs.Answer.{gives, refuses, pick}
use Rattle.utf8.specs.Table.{Row}
use Rattle.utf8.specs.WellFormed.{after, whole, completes, well_formed, check_text, check_at}
use Rattle.utf8.proofs.Cases.{by_test, by_order, never}

-- ---- the answer

pub text_gives : (s : List ℕ) → well_formed s ≡ true → check_text s ≡ gives tt
unfolding check_text pick
text_gives s e = rw e

pub text_refuses : (s : List ℕ) → well_formed s ≡ false → check_text s ≡ refuses 8
unfolding check_text pick
text_refuses s e = rw e

pub gives_text : (s : List ℕ) → check_text s ≡ gives tt → well_formed s ≡ true
unfolding check_text pick
gives_text s e = by_test (well_formed s) (λ t. t) (λ f. let g : refuses 8 ≡ gives tt = rw f at e in cc)

-- ---- a part of a slice

module _ (s : List ℕ) (at len : ℕ) where
  pub at_inside : at + len ≤ length s → check_at s at len ≡ check_text (take len (drop at s))
  unfolding check_at pick
  at_inside h = rw (le-leb (at + len) (length s) h)

  pub at_outside : length s < at + len → check_at s at len ≡ refuses 7
  unfolding check_at pick
  at_outside h = rw (lt-leb (at + len) (length s) h)

  -- the part of a slice that the two reads `get(at..)` and `get(..len)` find
  pub part_inside : (behind : List ℕ) {part : List ℕ} → at + len ≤ length s → behind ≡ slice_range s at (length s) → part ≡ slice_range behind 0 len → check_text part ≡ check_at s at len
  part_inside behind {part} h b p =
      let all : behind ≡ drop at s = b ∙ take_all (length s - at) (drop at s) (omega (arith, length-drop at s)) in
      let none : len - 0 ≡ len = omega arith in
      ap check_text (rw none at p ∙ ap (take len) all) ∙ sym (at_inside h)

  -- what was checked lies inside the slice, and is text
  pub gives_inside : check_at s at len ≡ gives tt → at + len ≤ length s
  gives_inside e =
      by_order (length s) (at + len) (λ h. let f : refuses 7 ≡ gives tt = sym (at_outside h) ∙ e in cc) (λ h. h)

  pub gives_well_formed : check_at s at len ≡ gives tt → well_formed (take len (drop at s)) ≡ true
  gives_well_formed e = gives_text (take len (drop at s)) (sym (at_inside (gives_inside e)) ∙ e)

-- the same bytes read the same wherever they stand
pub at_moved : (s t : List ℕ) (at to len : ℕ) → at + len ≤ length s → to + len ≤ length t → take len (drop at s) ≡ take len (drop to t)
    → check_at s at len ≡ check_at t to len
at_moved s t at to len h k e = at_inside s at len h ∙ ap check_text e ∙ sym (at_inside t to len k)

-- with anything after them
pub at_append : (s t : List ℕ) (at len : ℕ) → at + len ≤ length s → check_at (s ++ t) at len ≡ check_at s at len
at_append s t at len h =
    at_moved (s ++ t) s at at len (omega (arith, length-append s t)) h
    (rw (drop-append-le at s t (omega arith), take-append-le len (drop at s) t (omega (arith, length-drop at s))))

-- and from a place on
pub at_drop : (s : List ℕ) (at len : ℕ) → at ≤ length s → check_at (drop at s) 0 len ≡ check_at s at len
at_drop s at len h =
    by_order (length s) (at + len)
    (λ g. at_outside (drop at s) 0 len (omega (arith, length-drop at s)) ∙ sym (at_outside s at len g))
    (λ g. at_moved (drop at s) s 0 at len (omega (arith, length-drop at s)) g refl)

-- ---- texts

pub empty_text : (s : List ℕ) → length s ≡ 0 → well_formed s ≡ true
unfolding well_formed completes whole
empty_text [] l = refl
empty_text (b ∷ s) l = absurd (omega arith)

appended : (left : Option Row) (s t : List ℕ) → completes left s ≡ true → completes left (s ++ t) ≡ completes (some []) t
unfolding completes whole
appended none [] t e = never e
appended (some []) [] t e = refl
appended (some (r ∷ rs)) [] t e = never e
appended left (b ∷ s) t e = appended (after left b) s t e

-- behind a text, what follows decides
pub text_append : (s t : List ℕ) → well_formed s ≡ true → well_formed (s ++ t) ≡ well_formed t
unfolding well_formed
text_append s t e = appended (some []) s t e
