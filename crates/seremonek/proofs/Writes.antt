-- What a write answers has the number of what it writes.
-- Assumes nothing.
use mathlib.Core.Path.{◌≡◌, refl}
use Rattle.std.specs.Prelude.{ℕ, List}
use Rattle.paper.specs.Answer.{Answer, gives, refuses, size_of}
use Rattle.seremonek.specs.Interface.{code_of}

pub size_code : (q : Answer (List ℕ)) → code_of (size_of q) ≡ code_of q
unfolding size_of
size_code (gives bytes) = refl
size_code (refuses k) = refl
