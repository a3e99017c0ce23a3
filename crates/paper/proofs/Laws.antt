-- Laws of the words that promises are written with.
-- Assumes nothing.
use mathlib.Core.Path.{◌≡◌, sym, ◌∙◌}
use mathlib.Core.List.{List, ◌++◌}
use Prim.Native.Nat.{ℕ, ◌≤◌, ◌<◌}
use native.Mathlib.Omega.{arith}
use lib.Dec.{leb, ltb, eqb}
use lib.ListN.{length, drop}
use borrow.Author.Rules.{rules}
use borrow.Author.Tests.{lt-ltb, le-ltb, le-leb, lt-leb, eq-eqb, ne_eqb}
use Rattle.std.specs.Prelude.{Result, Ok, Err, IsErrAnd}
use Rattle.paper.specs.Answer.{Answer, gives, refuses, told, and_then, pick, over, put, size_of}
use Rattle.paper.specs.Refusal.{number}
use Rattle.paper.specs.declared.Refusal.{Refusal}

-- ---- a promise that is an equation with a definition leaves one answer and one content

-- `paper` gives document 01's number and values for an answer of the code. Where it loses nothing, the equation leaves one answer.
pub one_answer : {R : Type 0} {A : Type 0} (paper : R → A) (exact : (a b : R) → paper a ≡ paper b → a ≡ b)
    (d : A) (a b : R) → paper a ≡ d → paper b ≡ d → a ≡ b
one_answer paper exact d a b p q = exact a b (p ∙ sym q)

pub one_content : {A : Type 0} (d x y : A) → x ≡ d → y ≡ d → x ≡ y
one_content d x y p q = p ∙ sym q

-- the parts of a pair, for `ap`
abbrev pub first : {A B : Type 0} → A × B → A
first p = p.0

abbrev pub second : {A B : Type 0} → A × B → B
second p = p.1

-- ---- an answer gives or refuses, and says what
pub gives_one : {A : Type 0} {a b : A} → gives a ≡ gives b → a ≡ b
gives_one e = cc

pub refuses_one : {A : Type 0} {k l : ℕ} → ◌≡◌ {A = Answer A} (refuses k) (refuses l) → k ≡ l
refuses_one e = cc

pub gives_refuses : {A : Type 0} {a : A} {k : ℕ} → gives a ≡ refuses k → ⊥
gives_refuses e = let z : ◌≡◌ {A = ℕ} 0 1 = cc in omega arith

-- ---- tests: each closes one branch of a definition, by the fact that the code's own test gives there
module _ {A : Type 0} {x : A} (a b : ℕ) (p q : A) where
  pub pick_lt : a < b → x ≡ p → x ≡ pick (ltb a b) p q
  unfolding pick
  pick_lt h e = rw (lt-ltb a b h) e

  pub pick_not_lt : b ≤ a → x ≡ q → x ≡ pick (ltb a b) p q
  unfolding pick
  pick_not_lt h e = rw (le-ltb a b h) e

  pub pick_le : a ≤ b → x ≡ p → x ≡ pick (leb a b) p q
  unfolding pick
  pick_le h e = rw (le-leb a b h) e

  pub pick_not_le : b < a → x ≡ q → x ≡ pick (leb a b) p q
  unfolding pick
  pick_not_le h e = rw (lt-leb a b h) e

  pub pick_eq : a ≡ b → x ≡ p → x ≡ pick (eqb a b) p q
  unfolding pick
  pick_eq h e = rw (eq-eqb a b h) e

  pub pick_ne : (a ≡ b → ⊥) → x ≡ q → x ≡ pick (eqb a b) p q
  unfolding pick
  pick_ne h e = rw (ne_eqb a b h) e

-- ---- steps
module _ {A B : Type 0} (f : A → Answer B) {q : Answer A} where
  pub then_gives : {a : A} {x : Answer B} → gives a ≡ q → x ≡ f a → x ≡ and_then q f
  unfolding and_then
  then_gives h e = rw (sym h) e

  pub then_refuses : {k : ℕ} → refuses k ≡ q → refuses k ≡ and_then q f
  unfolding and_then
  then_refuses h = rw (sym h)

-- ---- what a step of the code answers where a `?` hands a refusal on: the refusal, in words of any type
pub told_err : {A B : Type 0} (words : A → B) (r : Result A Refusal) (refusal : Refusal) {q : Answer B} → IsErrAnd r (λ e. e ≡ refusal) → refuses (number refusal) ≡ q
    → told words r ≡ q
told_err words (Ok a) refusal p h = elim p [ ]
told_err words (Err e) refusal p h = rw p h

-- ---- outputs
pub put_gives : (out bytes : List ℕ) {d : Answer (List ℕ)} → d ≡ gives bytes → put out d ≡ bytes ++ drop (length bytes) out
unfolding put over
put_gives out bytes e = rw e

pub put_refuses : (out : List ℕ) {k : ℕ} {d : Answer (List ℕ)} → d ≡ refuses k → put out d ≡ out
unfolding put
put_refuses out e = rw e

pub size_gives : (bytes : List ℕ) {d : Answer (List ℕ)} → d ≡ gives bytes → size_of d ≡ gives (length bytes)
unfolding size_of
size_gives bytes e = rw e

pub size_refuses : {k : ℕ} {d : Answer (List ℕ)} → d ≡ refuses k → size_of d ≡ refuses k
unfolding size_of
size_refuses e = rw e

-- the ruleset that every other one starts from
pub ruleset paper = (rules, pick_lt, pick_not_lt, pick_le, pick_not_le, pick_eq, pick_ne, then_gives, then_refuses, put_gives, put_refuses, size_gives, size_refuses)
