-- Document 01, "Refusal numbers": the number of each refusal.
use Rattle.std.specs.Prelude.{ℕ}
use Rattle.paper.specs.declared.Refusal.{Refusal}
use Rattle.paper.specs.declared.Refusal.TheVariants as R

abbrev pub number : Refusal → ℕ
number R.VarintPastEnd = 1
number R.VarintTooLong = 2
number R.EntryPastEnd = 3
number R.NoKind = 4
number R.WrongKind = 5
number R.EntryCutShort = 6
number R.ValueCutShort = 7
number R.NotUtf8 = 8
number R.UnknownTag = 9
number R.BytesLeftOver = 10
number R.BadPage = 11
number R.AboveCount = 12
number R.AlreadyPresent = 13
number R.DoesNotFit = 14
number R.BadValueList = 15
number R.OutputTooShort = 16
number R.NothingToChain = 17
number R.TooFewPages = 18
number R.UnusablePage = 19
number R.PageBeyondStore = 20
number R.WrongPageType = 21
number R.PayloadTooLong = 22
number R.ChainNeverEnds = 23
number R.ChainLengthDiffers = 24
number R.WrongSize = 25
number R.NotOneEntry = 26
number R.NullInValue = 27
