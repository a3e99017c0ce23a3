-- The plain form and the quick one answer the same on every text.
-- Assumes nothing.
use mathlib.Core.Path.{◌≡◌}
use mathlib.Core.List.{List}
use Prim.Native.Nat.{ℕ}
use contract.Lifetimes.{Lfts}
use denote.Triple.Clauses.{AtExit}
use borrow.Fn.Kinds.{Dens, ended_of}
use Rattle.paper.proofs.Laws.{one_answer}
use Rattle.std.specs.Prelude.{Result}
use Rattle.paper.specs.Answer.{answer_of}
use Rattle.paper.specs.declared.Refusal.{Refusal}
use Rattle.paper.proofs.Exact.{answer_exact}
use Rattle.utf8.specs.WellFormed.{check_text}
use Rattle.utf8.proofs.check.Kinds.{ps, r}
use Rattle.utf8.proofs.check.Reads as quick
use Rattle.utf8.proofs.plain.check.Reads as plain

-- what both promise of the answer to a text holds of one answer only
pub one_check : (s : List ℕ) (a b : Result (Unit {0}) Refusal) → answer_of a ≡ check_text s → answer_of b ≡ check_text s → a ≡ b
one_check s = one_answer answer_of answer_exact (check_text s)

-- The same, read off the two functions' contracts as they stand in the source: let `plain::check` answer a and `check` answer b
-- to the same bytes. By what a caller learns of the two calls, a is b.
pub forms_agree : (κs : Lfts 1) (bytes : Dens κs ps) (a b : Result (Unit {0}) Refusal) (s t : AtExit (ended_of 1 ps r) κs)
    → plain.Learnt κs bytes a s → quick.Learnt κs bytes b t → a ≡ b
forms_agree κs bytes a b s t = one_check bytes.0.now a b
