-- The cases on numbers and entries that document 01 marks with a star, under "Numbers on either side", in its order. Bytes are in
-- hexadecimal.
use Rattle.std.specs.Prelude.{ℕ, ◌-◌, ◌^◌, List, [], ◌∷◌, ℤ, pos, neg_ℤ}
use Rattle.paper.specs.Answer.{gives, refuses}
use Rattle.cases.specs.Question.{Row, ◌⇒◌, ask_read_u64, ask_write_u64, zigzag_encode, zigzag_decode, cell_head, cell_value, ask_write_cell, reference, ask_write_reference, divider, write_divider}

abbrev minus : ℕ → ℤ
minus n = neg_ℤ (pos n)

abbrev nine : ℕ → List ℕ → List ℕ
nine b then = b ∷ b ∷ b ∷ b ∷ b ∷ b ∷ b ∷ b ∷ b ∷ then

-- rowid 1, Integer 5, null, Text A, Bool true
abbrev entry : List ℕ
entry = 0x0B ∷ 0x01 ∷ 0x02 ∷ 0x04 ∷ 0x02 ∷ 0x00 ∷ 0x0A ∷ 0x02 ∷ 0x01 ∷ 0x41 ∷ 0x03 ∷ 0x01 ∷ []

unfoldable pub rows : List Row
rows =
    -- 300 is AC 02
    (ask_write_u64 300 ⇒ gives (0xAC ∷ 0x02 ∷ []))
    ∷ (ask_read_u64 (0xAC ∷ 0x02 ∷ []) ⇒ gives (300 ∷ 2 ∷ []))
    -- 16,383 is FF 7F
    ∷ (ask_write_u64 16_383 ⇒ gives (0xFF ∷ 0x7F ∷ []))
    ∷ (ask_read_u64 (0xFF ∷ 0x7F ∷ []) ⇒ gives (16_383 ∷ 2 ∷ []))
    -- 2^64 - 1 is nine FF, then 01
    ∷ (ask_write_u64 (2 ^ 64 - 1) ⇒ gives (nine 0xFF (0x01 ∷ [])))
    ∷ (ask_read_u64 (nine 0xFF (0x01 ∷ [])) ⇒ gives ((2 ^ 64 - 1) ∷ 10 ∷ []))
    -- nine 80, then 02 reads 0, ten bytes
    ∷ (ask_read_u64 (nine 0x80 (0x02 ∷ [])) ⇒ gives (0 ∷ 10 ∷ []))
    -- nine FF, then 80: 2
    ∷ (ask_read_u64 (nine 0xFF (0x80 ∷ [])) ⇒ refuses 2)
    -- 80 alone: 1
    ∷ (ask_read_u64 (0x80 ∷ []) ⇒ refuses 1)
    -- ZigZag: -1 to 1, -64 to 127, 64 to 128, least i64 to 2^64 - 1
    ∷ (zigzag_encode (minus 1) ⇒ gives (1 ∷ []))
    ∷ (zigzag_encode (minus 64) ⇒ gives (127 ∷ []))
    ∷ (zigzag_encode (pos 64) ⇒ gives (128 ∷ []))
    ∷ (zigzag_encode (minus (2 ^ 63)) ⇒ gives ((2 ^ 64 - 1) ∷ []))
    -- and back: a negative number by its pattern
    ∷ (zigzag_decode 1 ⇒ gives ((2 ^ 64 - 1) ∷ []))
    ∷ (zigzag_decode 127 ⇒ gives ((2 ^ 64 - 64) ∷ []))
    ∷ (zigzag_decode 128 ⇒ gives (64 ∷ []))
    ∷ (zigzag_decode (2 ^ 64 - 1) ⇒ gives (2 ^ 63 ∷ []))
    -- the entry: its head; its values, the Text's one byte at place 9; and written
    ∷ (cell_head entry ⇒ gives (1 ∷ 4 ∷ 12 ∷ []))
    ∷ (cell_value entry 0 ⇒ gives (0 ∷ 5 ∷ 0 ∷ []))
    ∷ (cell_value entry 1 ⇒ gives (255 ∷ 0 ∷ 0 ∷ []))
    ∷ (cell_value entry 2 ⇒ gives (2 ∷ 1 ∷ 9 ∷ []))
    ∷ (cell_value entry 3 ⇒ gives (3 ∷ 1 ∷ 0 ∷ []))
    ∷ (cell_value entry 4 ⇒ refuses 12)
    ∷ (ask_write_cell (pos 1) (0 ∷ 255 ∷ 2 ∷ 3 ∷ []) (5 ∷ 0 ∷ 1 ∷ 1 ∷ []) (0x41 ∷ []) ⇒ gives entry)
    -- rowid 7, total 5,000, page 9: 08 02 0E 88 27 09 00 00 00
    ∷ (reference (0x08 ∷ 0x02 ∷ 0x0E ∷ 0x88 ∷ 0x27 ∷ 0x09 ∷ 0x00 ∷ 0x00 ∷ 0x00 ∷ []) ⇒ gives (7 ∷ 5_000 ∷ 9 ∷ 9 ∷ []))
    ∷ (ask_write_reference (pos 7) 5_000 9 ⇒ gives (0x08 ∷ 0x02 ∷ 0x0E ∷ 0x88 ∷ 0x27 ∷ 0x09 ∷ 0x00 ∷ 0x00 ∷ 0x00 ∷ []))
    -- divider 10, child 3: 06 03 14 03 00 00 00
    ∷ (divider (0x06 ∷ 0x03 ∷ 0x14 ∷ 0x03 ∷ 0x00 ∷ 0x00 ∷ 0x00 ∷ []) ⇒ gives (10 ∷ 3 ∷ 7 ∷ []))
    ∷ (write_divider (pos 10) 3 ⇒ gives (0x06 ∷ 0x03 ∷ 0x14 ∷ 0x03 ∷ 0x00 ∷ 0x00 ∷ 0x00 ∷ []))
    ∷ []
