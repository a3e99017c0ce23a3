-- The number and the answer array of a call, from what the call under it gives or refuses.
-- Assumes nothing.
use mathlib.Core.Path.{◌≡◌}
use mathlib.Core.List.{List}
use Prim.Native.Nat.{ℕ}
use Rattle.paper.specs.Answer.{Answer, gives, refuses}
use Rattle.seremonek.specs.Interface.{code_of, answered}

module _ {A : Type 0} (q : Answer A) where
  pub given_code : {a : A} → gives a ≡ q → 0 ≡ code_of q
  given_code e = rw (← e)

  pub refused_code : {k : ℕ} → refuses k ≡ q → k ≡ code_of q
  refused_code e = rw (← e)

  module _ (words : A → List ℕ) (old : List ℕ) where
    pub given_answer : {a : A} → gives a ≡ q → words a ≡ answered words q old
    given_answer e = rw (← e)

    pub refused_answer : {k : ℕ} → refuses k ≡ q → old ≡ answered words q old
    refused_answer e = rw (← e)
