-- What an answer was accepted with: each test on the way went on, and each step gave something.
-- Assumes nothing.
use Rattle.std.proofs.Common.{◌≡◌, ℕ, Bool, true, false, sym, refl}
use Rattle.paper.specs.Answer.{Answer, gives, refuses, and_then, pick}
use Rattle.paper.proofs.Laws.{gives_refuses}

pub not_refused : {A : Type 0} (t : Bool) (k : ℕ) (x : Answer A) {a : A} → pick t (refuses k) x ≡ gives a → (t ≡ false) × (x ≡ gives a)
unfolding pick
not_refused true k x e = absurd (gives_refuses (sym e))
not_refused false k x e = (refl, e)

pub not_other : {A : Type 0} (t : Bool) (k : ℕ) (x : Answer A) {a : A} → pick t x (refuses k) ≡ gives a → (t ≡ true) × (x ≡ gives a)
unfolding pick
not_other true k x e = (refl, e)
not_other false k x e = absurd (gives_refuses (sym e))

-- what the first step gave, and the second from it
pub then_gave : {A B : Type 0} (q : Answer A) (f : A → Answer B) {b : B} → and_then q f ≡ gives b → (a : A) × (q ≡ gives a) × (f a ≡ gives b)
unfolding and_then
then_gave (gives a) f e = (a, refl, e)
then_gave (refuses k) f e = absurd (gives_refuses (sym e))
