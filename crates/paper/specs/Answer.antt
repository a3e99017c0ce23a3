-- The words of a promise. A call of document 01 either gives something or refuses by number.
use Rattle.std.specs.Prelude.{ℕ, Bool, true, false, List, ◌++◌, length, drop, Result, Ok, Err}
use Rattle.paper.specs.declared.Refusal.{Refusal}
use Rattle.paper.specs.Refusal.{number}

pub data Answer (A : Type 0) : Type 0 where
  gives : A → Answer A
  refuses : ℕ → Answer A

-- what an answer of the code stands for: its value in document 01's words, or the number of its refusal
abbrev pub told : {A B : Type 0} → (A → B) → Result A Refusal → Answer B
told words (Ok a) = gives (words a)
told words (Err refusal) = refuses (number refusal)

-- the same, where the value is in those words
abbrev pub answer_of : {A : Type 0} → Result A Refusal → Answer A
answer_of answer = told (λ a. a) answer

-- one step after another: the first refusal is the answer
unfoldable pub and_then : {A B : Type 0} → Answer A → (A → Answer B) → Answer B
and_then (gives a) f = f a
and_then (refuses k) f = refuses k

-- the first where the test holds, else the second
unfoldable pub pick : {A : Type 0} → Bool → A → A → A
pick true a b = a
pick false a b = b

-- lent bytes after a call whose definition gives their new content: a refused call changes none of them
unfoldable pub kept : List ℕ → Answer (List ℕ) → List ℕ
kept old (gives new) = new
kept old (refuses k) = old

-- an output that was lent: the answer's bytes from its start, and the rest as it was
unfoldable pub over : List ℕ → List ℕ → List ℕ
over out bytes = bytes ++ drop (length bytes) out

-- the output after a call whose definition gives the bytes to write
unfoldable pub put : List ℕ → Answer (List ℕ) → List ℕ
put out (gives bytes) = over out bytes
put out (refuses k) = out

-- how many bytes an accepted writer answers
unfoldable pub size_of : Answer (List ℕ) → Answer ℕ
size_of (gives bytes) = gives (length bytes)
size_of (refuses k) = refuses k
