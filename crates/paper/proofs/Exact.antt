-- An answer of the code stands for one answer of document 01, and no two stand for the same.
-- Assumes nothing.
use mathlib.Core.Path.{◌≡◌, refl, sym, ap, ◌∙◌}
use Prim.Native.Nat.{ℕ}
use Rattle.std.specs.Prelude.{Result, Ok, Err, ◌∷◌, [], get_or}
use Rattle.paper.specs.Answer.{answer_of, told}
use Rattle.paper.specs.Refusal.{number}
use Rattle.paper.specs.declared.Refusal.{Refusal}
use Rattle.paper.specs.declared.Refusal.TheVariants as R
use Rattle.paper.proofs.Laws.{gives_one, refuses_one, gives_refuses}

-- the refusals in the order of their numbers; 0 is none
named : ℕ → Refusal
named k =
    get_or (
    R.VarintPastEnd ∷
    R.VarintPastEnd ∷
    R.VarintTooLong ∷
    R.EntryPastEnd ∷
    R.NoKind ∷
    R.WrongKind ∷
    R.EntryCutShort ∷
    R.ValueCutShort ∷
    R.NotUtf8 ∷
    R.UnknownTag ∷
    R.BytesLeftOver ∷
    R.BadPage ∷
    R.AboveCount ∷
    R.AlreadyPresent ∷
    R.DoesNotFit ∷
    R.BadValueList ∷
    R.OutputTooShort ∷
    R.NothingToChain ∷
    R.TooFewPages ∷
    R.UnusablePage ∷
    R.PageBeyondStore ∷
    R.WrongPageType ∷
    R.PayloadTooLong ∷
    R.ChainNeverEnds ∷
    R.ChainLengthDiffers ∷
    R.WrongSize ∷
    R.NotOneEntry ∷
    R.NullInValue ∷ [])
    k R.NullInValue

named_number : (r : Refusal) → named (number r) ≡ r
unfolding named
named_number R.VarintPastEnd = refl
named_number R.VarintTooLong = refl
named_number R.EntryPastEnd = refl
named_number R.NoKind = refl
named_number R.WrongKind = refl
named_number R.EntryCutShort = refl
named_number R.ValueCutShort = refl
named_number R.NotUtf8 = refl
named_number R.UnknownTag = refl
named_number R.BytesLeftOver = refl
named_number R.BadPage = refl
named_number R.AboveCount = refl
named_number R.AlreadyPresent = refl
named_number R.DoesNotFit = refl
named_number R.BadValueList = refl
named_number R.OutputTooShort = refl
named_number R.NothingToChain = refl
named_number R.TooFewPages = refl
named_number R.UnusablePage = refl
named_number R.PageBeyondStore = refl
named_number R.WrongPageType = refl
named_number R.PayloadTooLong = refl
named_number R.ChainNeverEnds = refl
named_number R.ChainLengthDiffers = refl
named_number R.WrongSize = refl
named_number R.NotOneEntry = refl
named_number R.NullInValue = refl

pub number_one : (r q : Refusal) → number r ≡ number q → r ≡ q
number_one r q e = sym (named_number r) ∙ ap named e ∙ named_number q

pub told_exact : {A B : Type 0} (words : A → B) → ((a b : A) → words a ≡ words b → a ≡ b) → (p q : Result A Refusal) → told words p ≡ told words q → p ≡ q
told_exact words exact (Ok a) (Ok b) e = ap Ok (exact a b (gives_one e))
told_exact words exact (Ok a) (Err r) e = absurd (gives_refuses e)
told_exact words exact (Err r) (Ok b) e = absurd (gives_refuses (sym e))
told_exact words exact (Err r) (Err q) e = ap Err (number_one r q (refuses_one e))

pub answer_exact : {A : Type 0} (p q : Result A Refusal) → answer_of p ≡ answer_of q → p ≡ q
answer_exact = told_exact (λ a. a) (λ a b e. e)
