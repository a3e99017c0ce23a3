-- The entry of a good value list, and the calls.
-- Assumes nothing.
use Rattle.std.proofs.Common.{◌≡◌, ℕ, ◌+◌, ◌-◌, ◌*◌, ◌<◌, ◌≤◌, List, ◌++◌, length, take, drop, ℤ, sym, refl, ap, ◌∙◌, append_assoc, arith, length-append, w64, SFits, to_z, of_z}
use borrow.Rule.Slice.PartMut.{put_mid}
use Rattle.paper.specs.Answer.{Answer, gives, refuses, and_then, over, put, size_of}
use Rattle.paper.proofs.Laws.{told_err, gives_one, gives_refuses, refuses_one}
use Rattle.varint.specs.Leb.{leb_bytes}
use Rattle.varint.specs.Zigzag.{zigzag}
use Rattle.cell.specs.Block.{bitmap_bytes}
use Rattle.cell.specs.Content.{Content}
use Rattle.cell.specs.ValueList.{items, value_list}
use Rattle.cell.specs.Entry.{with_length, fitted}
use Rattle.cell.specs.Written.{blocks_bytes, body_bytes, entry_bytes, encoded, write_cell}
use Rattle.cell.specs.Listing.{held_all, kind_map, blocks_len, head_of, body_of, Good}
use Rattle.cell.proofs.Placing.{then_over, short_size, short_output as output-kept, whole_size, whole_output}
use Rattle.cell.proofs.Numbers.{id_is}
use Rattle.cell.proofs.Nulls.{map_length}
use Rattle.cell.proofs.Listed.{items_listed, marked_length, marked_map}
use Rattle.cell.proofs.Lengths.{blocks_most}

-- ---- the list as a whole
module _ (kinds words rest : List ℕ) where
  pub list_refused : {k : ℕ} → refuses k ≡ blocks_len (items kinds words rest) → refuses k ≡ items kinds words rest
  unfolding blocks_len
  list_refused {k} g = by (items kinds words rest) g
    where
      by : (a : Answer (List Content)) → refuses k ≡ blocks_len a → refuses k ≡ a
      by (gives cs) g = absurd (gives_refuses (sym g))
      by (refuses j) g = ap refuses (refuses_one g)

  module _ (b : length kinds ≤ 65536) (d : length rest ≤ 16777216) where
    pub list_most : {n : ℕ} → gives n ≡ blocks_len (items kinds words rest) → n ≤ 11 * 65536 + 16777216
    unfolding blocks_len
    list_most {n} j = by (items kinds words rest) refl j
      where
        by : (a : Answer (List Content)) → items kinds words rest ≡ a → gives n ≡ blocks_len a → n ≤ 11 * 65536 + 16777216
        by (refuses k) f g = absurd (gives_refuses g)
        by (gives cs) f g =
            let w = items_listed kinds words rest f in
            let h : n ≡ length (blocks_bytes (held_all kinds words rest)) = gives_one g ∙ ap (λ (ds : List Content). length (blocks_bytes ds)) w.holds in
            omega (arith, w.fits, blocks_most kinds words rest w.fits)

    pub list_good : {id n p q o : ℕ} → gives n ≡ blocks_len (items kinds words rest) → (p ≡ length (leb_bytes id)) × (p ≤ 10) → (q ≡ length (leb_bytes (length kinds))) × (q ≤ 10)
        → (o ≡ bitmap_bytes (length kinds)) × (o ≤ length kinds) → Good id kinds words rest (1 + (p + q) + (o + n))
    unfolding blocks_len
    list_good {id} {n} {p} {q} {o} j ep eq eo = by (items kinds words rest) refl j
      where
        by : (a : Answer (List Content)) → items kinds words rest ≡ a → gives n ≡ blocks_len a → Good id kinds words rest (1 + (p + q) + (o + n))
        by (refuses k) f g = absurd (gives_refuses g)
        by (gives cs) f g =
            let w = items_listed kinds words rest f in
            let h : n ≡ length (blocks_bytes (held_all kinds words rest)) = gives_one g ∙ ap (λ (ds : List Content). length (blocks_bytes ds)) w.holds in
            record {
              listed = f ∙ ap gives w.holds;
              count = rw (← w.holds) (marked_length w.marks);
              nulls = rw (← w.holds) (marked_map (bitmap_bytes (length kinds)) w.marks);
              fits = w.fits;
              sum = omega arith;
              small = omega (arith, list_most j);
            }

-- ---- the entry, part after part
head_length : (id count : ℕ) → length (head_of id count) ≡ 1 + (length (leb_bytes id) + length (leb_bytes count))
unfolding head_of
head_length id count = rw (length-append (leb_bytes id) (leb_bytes count)) (omega arith)

module _ (kinds words rest : List ℕ) {id size : ℕ} (g : Good id kinds words rest size) where
  abbrev head : List ℕ
  head = head_of id (length kinds)

  abbrev nulls : List ℕ
  nulls = kind_map (bitmap_bytes (length kinds)) kinds

  abbrev blocks : List ℕ
  blocks = blocks_bytes (held_all kinds words rest)

  parts_length : length head + (length nulls + length blocks) ≡ size
  parts_length = rw (head_length id (length kinds), map_length (bitmap_bytes (length kinds)) kinds) (sym g.sum)

  body_length : length (body_of id kinds words rest) ≡ size
  unfolding body_of
  body_length = rw (length-append head (nulls ++ blocks), length-append nulls blocks) parts_length

  pub entry_output : (out : List ℕ) {x second third last : List ℕ} {n m o : ℕ} → length (leb_bytes size) + size ≤ length out
      → x ≡ over out (leb_bytes size) → n ≡ length (leb_bytes size)
      → second ≡ over (take (length x - n) (drop n x)) head → m ≡ 1 + (length (leb_bytes id) + length (leb_bytes (length kinds)))
      → let y : List ℕ = put_mid n (length x - n) x second in third ≡ over (take (length y - (n + m)) (drop (n + m) y)) nulls → o ≡ bitmap_bytes (length kinds)
      → let z : List ℕ = put_mid (n + m) (length y - (n + m)) y third in last ≡ over (take (length z - (n + m + o)) (drop (n + m + o) z)) blocks
      → put_mid (n + m + o) (length z - (n + m + o)) z last ≡ over out (leb_bytes size ++ body_of id kinds words rest)
  unfolding body_of
  entry_output out {x} {second} {third} {last} {n} {m} {o} room e1 l1 e2 l2 e3 l3 e4 =
      let l : List ℕ = leb_bytes size in
      let k : m ≡ length head = l2 ∙ sym (head_length id (length kinds)) in
      let p : o ≡ length nulls = l3 ∙ sym (map_length (bitmap_bytes (length kinds)) kinds) in
      let two = then_over out l head x second n e1 l1 (omega (arith, parts_length)) e2 in
      let k2 : n + m ≡ length (l ++ head) = rw (length-append l head) (omega arith) in
      let three = then_over out (l ++ head) nulls _ third (n + m) two k2 (omega (arith, parts_length, length-append l head)) e3 in
      let k3 : n + m + o ≡ length ((l ++ head) ++ nulls) = rw (length-append (l ++ head) nulls, length-append l head) (omega arith) in
      let four = then_over out ((l ++ head) ++ nulls) blocks _ last (n + m + o) three k3 (omega (arith, parts_length, length-append (l ++ head) nulls, length-append l head)) e4 in
      four ∙ rw (append_assoc (l ++ head) nulls blocks, append_assoc l head (nulls ++ blocks))

-- ---- the calls
module _ (rowid : ℤ) (kinds words rest : List ℕ) where
  module _ {k : ℕ} (e : refuses k ≡ value_list kinds words rest) where
    pub refused_size : refuses k ≡ size_of (encoded rowid kinds words rest)
    unfolding encoded and_then size_of
    refused_size = rw (← e)

    pub refused_write : (room : ℕ) → refuses k ≡ size_of (write_cell rowid kinds words rest room)
    unfolding encoded and_then size_of write_cell
    refused_write room = rw (← e)

    pub refused_output : (out : List ℕ) → out ≡ put out (write_cell rowid kinds words rest (length out))
    unfolding encoded and_then put write_cell
    refused_output out = rw (← e)

  -- the columns, as they were lent in arrays
  module _ {left numbers data_left : List ℕ} (v : value_list kinds words rest ≡ items left numbers data_left) (f : SFits w64 rowid) {id : ℕ} (i : id ≡ zigzag (to_z w64 (of_z w64 rowid)))
      {s : ℕ} (g : Good id left numbers data_left s) {l : ℕ} (e : l ≡ length (leb_bytes s)) where
    body_is : body_bytes (rowid, held_all left numbers data_left) ≡ body_of id left numbers data_left
    unfolding body_bytes body_of head_of
    body_is =
        rw (
          g.count,
          g.nulls,
          id_is rowid f i,
          append_assoc (leb_bytes (zigzag rowid)) (leb_bytes (length left)) (kind_map (bitmap_bytes (length left)) left ++ blocks_bytes (held_all left numbers data_left)),
        )

    good_is : encoded rowid kinds words rest ≡ gives (leb_bytes s ++ body_of id left numbers data_left)
    unfolding encoded and_then entry_bytes with_length
    good_is = rw (v, g.listed, body_is, body_length left numbers data_left g)

    write_is : (room : ℕ) → write_cell rowid kinds words rest room ≡ fitted room (leb_bytes s ++ body_of id left numbers data_left)
    unfolding write_cell and_then
    write_is room = rw good_is

    entry_length : length (leb_bytes s ++ body_of id left numbers data_left) ≡ l + s
    entry_length = rw (length-append (leb_bytes s) (body_of id left numbers data_left), body_length left numbers data_left g, e)

    pub good_size : gives (l + s) ≡ size_of (encoded rowid kinds words rest)
    unfolding size_of
    good_size = rw (good_is, entry_length)

    module _ (out : List ℕ) where
      pub short_write : length out < l + s → refuses 16 ≡ size_of (write_cell rowid kinds words rest (length out))
      short_write h = rw (write_is (length out)) (short_size out (leb_bytes s ++ body_of id left numbers data_left) entry_length h)

      pub good_write : l + s ≤ length out → gives (l + s) ≡ size_of (write_cell rowid kinds words rest (length out))
      good_write h = rw (write_is (length out)) (whole_size out (leb_bytes s ++ body_of id left numbers data_left) entry_length h)

      pub short_output : length out < l + s → out ≡ put out (write_cell rowid kinds words rest (length out))
      short_output h = rw (write_is (length out)) (output-kept out (leb_bytes s ++ body_of id left numbers data_left) entry_length h)

      pub good_output : {new : List ℕ} → l + s ≤ length out → new ≡ over out (leb_bytes s ++ body_of id left numbers data_left)
          → new ≡ put out (write_cell rowid kinds words rest (length out))
      good_output h d = d ∙ rw (write_is (length out)) (whole_output out (leb_bytes s ++ body_of id left numbers data_left) entry_length h)

pub ruleset lists = (list_refused, list_most, list_good)

pub ruleset calls = (told_err, refused_size, refused_write, refused_output, good_size, short_write, good_write, short_output, good_output)
