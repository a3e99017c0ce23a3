-- Document 01, "Entries": the value list for writing. Kinds are bytes, words 64-bit numbers, data bytes.
use Rattle.std.specs.Prelude.{ℕ, zero, suc, ◌*◌, ◌/◌, ◌%◌, List, [], ◌∷◌, length, take, drop, ◌==◌, nat_lt}
use Rattle.std.specs.Int.{w64}
use Rattle.std.proofs.Common.{to_z}
use Rattle.paper.specs.Answer.{Answer, gives, refuses, and_then, pick}
use Rattle.field.specs.Field.{le}
use Rattle.utf8.specs.WellFormed.{check_text}
use Rattle.cell.specs.Content.{Content, none, whole, float, truth, letters, floats}

-- one column: its value, and the data that it leaves. A word is the integer's or Real's bits, the Bool as 0 or 1, the text's byte
-- length, the dimension; 0 for null. Unknown kind, wrong word, data short: 15; kind 5, any word: 27; bad text: 8
unfoldable pub item : ℕ → ℕ → List ℕ → Answer (Content × List ℕ)
item kind word rest =
    pick (kind == 0) (gives (whole (to_z w64 word), rest))
    (pick (kind == 1) (gives (float word, rest))
    (pick (kind == 2)
    (pick (nat_lt (length rest) word) (refuses 15)
    (and_then (check_text (take word rest)) (λ _. gives (letters (take word rest), drop word rest))))
    (pick (kind == 3) (pick (nat_lt 1 word) (refuses 15) (gives (truth (word == 1), rest)))
    (pick (kind == 4)
    (pick (nat_lt (length rest / 4) word) (refuses 15) (gives (floats (take (4 * word) rest), drop (4 * word) rest)))
    (pick (kind == 5) (refuses 27)
    (pick (kind == 255) (pick (word == 0) (gives (none, rest)) (refuses 15)) (refuses 15)))))))

-- the columns in order; data left over is 15
unfoldable pub items : List ℕ → List ℕ → List ℕ → Answer (List Content)
items [] words rest = pick (length rest == 0) (gives []) (refuses 15)
items (kind ∷ kinds) [] rest = refuses 15
items (kind ∷ kinds) (word ∷ words) rest =
    and_then (item kind word rest) (λ (c, left). and_then (items kinds words left) (λ cs. gives (c ∷ cs)))

-- words are lent as bytes, eight each, lowest first
unfoldable pub words_of : ℕ → List ℕ → List ℕ
words_of zero s = []
words_of (suc n) s = le 8 0 s ∷ words_of n (drop 8 s)

-- Over 65,536 kinds or words, over 16 MiB of data, or words that are no whole number of eight bytes: 25. Kinds and words of
-- different length: 15. Then the columns.
unfoldable pub value_list : List ℕ → List ℕ → List ℕ → Answer (List Content)
value_list kinds words rest =
    pick (nat_lt 0 (length words % 8)) (refuses 25)
    (pick (nat_lt 65536 (length kinds)) (refuses 25)
    (pick (nat_lt 65536 (length words / 8)) (refuses 25)
    (pick (nat_lt 16777216 (length rest)) (refuses 25)
    (pick (length kinds == length words / 8) (items kinds (words_of (length words / 8) words) rest) (refuses 15)))))
