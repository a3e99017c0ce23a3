-- A value list, column by column, where it is good: what the steps of the writer say to each other. No public promise names these.
use Rattle.std.specs.Prelude.{◌≡◌, ℕ, zero, suc, ◌+◌, ◌-◌, ◌*◌, ◌/◌, ◌%◌, ◌^◌, ◌<◌, ◌≤◌, List, [], ◌∷◌, ◌++◌, length, take, drop, ◌==◌, nat_lt, Result, Ok, Err}
use Rattle.std.specs.Int.{w64}
use Rattle.std.proofs.Common.{to_z}
use Rattle.paper.specs.Answer.{Answer, gives, refuses, pick}
use Rattle.paper.specs.Refusal.{number}
use Rattle.paper.specs.declared.Refusal.{Refusal}
use Rattle.field.specs.Field.{le, bytes}
use Rattle.varint.specs.Leb.{leb_bytes}
use Rattle.varint.specs.Zigzag.{zigzag}
use Rattle.cell.specs.Content.{Content, none, whole, float, truth, letters, floats}
use Rattle.cell.specs.ValueList.{item, items, words_of}
use Rattle.cell.specs.Block.{bitmap_bytes}
use Rattle.cell.specs.Written.{bitmap, blocks_bytes}

-- the words that are lent as bytes, and the same in arrays of eight bytes
unfoldable pub word_list : List ℕ → List ℕ
word_list words = words_of (length words / 8) words

unfoldable pub numbers : List (List ℕ) → List ℕ
numbers [] = []
numbers (word ∷ words) = le 8 0 word ∷ numbers words

-- ---- one column

-- the data bytes that it takes
unfoldable pub used : ℕ → ℕ → ℕ
used kind word = pick (kind == 2) word (pick (kind == 4) (4 * word) 0)

-- what it holds
unfoldable pub held : ℕ → ℕ → List ℕ → Content
held kind word rest =
    pick (kind == 0) (whole (to_z w64 word))
    (pick (kind == 1) (float word)
    (pick (kind == 2) (letters (take word rest))
    (pick (kind == 3) (truth (word == 1)) (pick (kind == 4) (floats (take (4 * word) rest)) none))))

-- its value block after the tag
unfoldable pub payload : ℕ → ℕ → List ℕ → List ℕ
payload kind word rest =
    pick (kind == 0) (leb_bytes (zigzag (to_z w64 word)))
    (pick (kind == 1) (bytes 8 word)
    (pick (kind == 3) (pick (word == 1) 1 0 ∷ []) (leb_bytes word ++ take (used kind word) rest)))

-- the length of its value block: only a tag of 0 to 4 begins one
unfoldable pub block_len : ℕ → ℕ → ℕ
block_len kind word =
    pick (nat_lt 4 kind) 0
    (pick (kind == 0) (1 + length (leb_bytes (zigzag (to_z w64 word))))
    (pick (kind == 1) 9 (pick (kind == 3) 2 (1 + length (leb_bytes word) + used kind word))))

-- its bit of the bitmap
unfoldable pub kind_bit : ℕ → ℕ
kind_bit kind = pick (kind == 255) 1 0

-- ---- all columns

unfoldable pub used_all : List ℕ → List ℕ → ℕ
used_all [] words = 0
used_all (kind ∷ kinds) [] = 0
used_all (kind ∷ kinds) (word ∷ words) = used kind word + used_all kinds words

unfoldable pub held_all : List ℕ → List ℕ → List ℕ → List Content
held_all [] words rest = []
held_all (kind ∷ kinds) [] rest = []
held_all (kind ∷ kinds) (word ∷ words) rest = held kind word rest ∷ held_all kinds words (drop (used kind word) rest)

unfoldable pub kind_bits : List ℕ → ℕ
kind_bits [] = 0
kind_bits (kind ∷ kinds) = kind_bit kind + 2 * kind_bits kinds

-- n bytes of the bitmap, eight columns each
unfoldable pub kind_map : ℕ → List ℕ → List ℕ
kind_map zero kinds = []
kind_map (suc n) kinds = kind_bits (take 8 kinds) ∷ kind_map n (drop 8 kinds)

-- an accepted column holds what `held` says; the data bytes that it takes, and the length of its value block
pub record Accepted (kind word : ℕ) (rest : List ℕ) (taken len : ℕ) : Type 0 where
  pub same : gives (held kind word rest, drop (used kind word) rest) ≡ item kind word rest
  pub taken_is : taken ≡ used kind word
  pub fits : used kind word ≤ length rest
  pub len_is : len ≡ block_len kind word
  pub most : len ≤ 11 + used kind word

-- both of a column, or what is wrong with it
abbrev pub Judged : ℕ → ℕ → List ℕ → Result (ℕ × ℕ) Refusal → Type 0
Judged kind word rest (Ok p) = Accepted kind word rest p.0 p.1
Judged kind word rest (Err refusal) = refuses (number refusal) ≡ item kind word rest

-- ---- the quick reading: what its steps say of a column

-- a null, or a kind before the vector
pub record Common (kind : ℕ) : Type 0 where
  pub byte : kind < 256
  pub near : (kind + 1) % 256 < 5

-- the largest word of such a kind, where so many bytes of data are left
unfoldable pub largest : ℕ → ℕ → ℕ
largest kind left = pick (kind == 255) 0 (pick (kind == 3) 1 (pick (kind == 2) left (2 ^ 64 - 1)))

-- the length of all value blocks
unfoldable pub blocks_len : Answer (List Content) → Answer ℕ
blocks_len (gives cs) = gives (length (blocks_bytes cs))
blocks_len (refuses k) = refuses k

-- ---- the body, by a rowid's ZigZag number: kind byte, rowid and count; then the bitmap and the value blocks
unfoldable pub head_of : ℕ → ℕ → List ℕ
head_of id count = 1 ∷ (leb_bytes id ++ leb_bytes count)

unfoldable pub body_of : ℕ → List ℕ → List ℕ → List ℕ → List ℕ
body_of id kinds words rest =
    head_of id (length kinds) ++ (kind_map (bitmap_bytes (length kinds)) kinds ++ blocks_bytes (held_all kinds words rest))

-- ---- a good list: what it holds, and the length of the body
pub record Good (id : ℕ) (kinds words rest : List ℕ) (size : ℕ) : Type 0 where
  pub listed : items kinds words rest ≡ gives (held_all kinds words rest)
  pub count : length (held_all kinds words rest) ≡ length kinds
  pub nulls : bitmap (bitmap_bytes (length kinds)) (held_all kinds words rest) ≡ kind_map (bitmap_bytes (length kinds)) kinds
  pub fits : used_all kinds words ≤ length rest
  pub sum : size
      ≡ 1 + (length (leb_bytes id) + length (leb_bytes (length kinds))) + (bitmap_bytes (length kinds) + length (blocks_bytes (held_all kinds words rest)))
  pub small : size < 2 ^ 32
