-- Going by cases on a test, with what it says in each.
-- Assumes nothing.
use Prim.Native.Nat.{ℕ, ◌≤◌, ◌<◌}
use mathlib.Core.Path.{◌≡◌, refl}
use mathlib.Core.Bool.{Bool, true, false}
use lib.Dec.{ltb}
use borrow.Author.Tests.{ltb-true, ltb-false}

pub by_test : {A : Type 0} (x : Bool) → (x ≡ true → A) → (x ≡ false → A) → A
by_test true f g = f refl
by_test false f g = g refl

pub by_order : {A : Type 0} (a b : ℕ) → (a < b → A) → (b ≤ a → A) → A
by_order a b f g = by_test (ltb a b) (λ e. f (ltb-true a b e)) (λ e. g (ltb-false a b e))

pub never : {A : Type 0} → false ≡ true → A
never e = cc
