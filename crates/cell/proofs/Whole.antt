-- A whole entry: it reads as it was written, and the same with anything behind it; it lies inside its list; its rowid is the one
-- that is peeked at.
-- Assumes nothing.
use Rattle.std.proofs.Common.{◌≡◌, ℕ, ◌+◌, ◌-◌, ◌^◌, ◌<◌, ◌≤◌, eqb, ltb, List, ◌++◌, length, get_or, take, drop, ℤ, sym, refl, ap, ◌∙◌, append_assoc, add-zero, arith, length-append, length-drop, take-append-drop, length-take-le, get_or-drop, get_or-take, drop-drop, take_at, take-add, drop_at, ltb-false, le-ltb, lt-ltb, eqb-true}
use lib.Seq.{drop-append-le, take-append_seam, drop-append_seam}
use borrow.Author.Tests.{eqb-false}
use Rattle.paper.specs.Answer.{Answer, gives, refuses, and_then, pick}
use Rattle.paper.proofs.Laws.{gives_one, gives_refuses, first, second}
use Rattle.varint.specs.Leb.{read_from, read_u64, leb_bytes, len_u64}
use Rattle.varint.specs.Number.{read_i64}
use Rattle.varint.specs.Zigzag.{unzigzag}
use Rattle.varint.proofs.Laws.{read_is, read_append}
use Rattle.varint.proofs.Standard.{written_read}
use Rattle.cell.specs.Entry.{framed, body_at, entry, with_length, peek_kind, peek_rowid, rowid_at}
use Rattle.cell.specs.Block.{Block}
use Rattle.cell.specs.Keyed.{keyed_at}
use Rattle.cell.specs.Local.{blocks_at, row_of, local_body}
use Rattle.cell.proofs.Accepting.{not_refused, not_other, then_gave}

-- a part that lies inside is as long as it says
pub part_length : (n at : ℕ) (s : List ℕ) → at + n ≤ length s → length (take n (drop at s)) ≡ n
part_length n at s l = length-take-le n (drop at s) (rw (length-drop at s) (omega arith))

-- ---- the frame
pub record Framing (s : List ℕ) (n len : ℕ) : Type 0 where
  pub read : read_from s ≡ gives (len, n)
  pub some : 1 ≤ n
  pub inside : n + len ≤ length s

pub framing : (s : List ℕ) {n len : ℕ} → framed s ≡ gives (n, len) → Framing s n len
unfolding framed
framing s {n} {len} e =
    let (v, v-is, v-then) = then_gave (read_from s) _ e in
    let w = read_is s v-is in
    let (t, g) = not_refused (ltb (length s - v.1) v.0) 3 _ v-then in
    let c : v.0 ≤ length s - v.1 = ltb-false (length s - v.1) v.0 t in
    let a : v.1 ≡ n = ap first (gives_one g) in
    let b : v.0 ≡ len = ap second (gives_one g) in
    record { read = v-is ∙ ap (λ (p : ℕ × ℕ). gives (p.1, p.0)) (gives_one g); some = omega (arith, w.some); inside = omega (arith, w.inside) }

module _ (s : List ℕ) {n len : ℕ} (w : Framing s n len) (t : List ℕ) where
  whole_length : length (take (n + len) s) ≡ n + len
  whole_length = length-take-le (n + len) s w.inside

  -- the length varint stands in the entry's own bytes
  whole_read : read_from (take (n + len) s ++ t) ≡ gives (len, n)
  whole_read =
      let r = read_is s w.read in
      let d : take (n + len) s ++ t ≡ take n s ++ (take len (drop n s) ++ t)
      = rw (take-add n len s, append_assoc (take n s) (take len (drop n s)) t) in
      rw d (r.anywhere (take len (drop n s) ++ t))

  pub whole_framed : framed (take (n + len) s ++ t) ≡ gives (n, len)
  unfolding framed and_then pick
  whole_framed =
      let l : len ≤ length (take (n + len) s ++ t) - n = rw (length-append (take (n + len) s) t, whole_length) (omega arith) in
      rw (whole_read, le-ltb (length (take (n + len) s ++ t) - n) len l)

  pub whole_body : body_at (take (n + len) s ++ t) n len ≡ body_at s n len
  whole_body =
      let a : take (n + len) s ++ t ≡ take n s ++ (take len (drop n s) ++ t)
      = rw (take-add n len s, append_assoc (take n s) (take len (drop n s)) t) in
      let k : length (take n s) ≡ n = length-take-le n s (omega (arith, w.inside)) in
      let m : length (take len (drop n s)) ≡ len = part_length len n s w.inside in
      rw (a, drop_at (take n s) (take len (drop n s) ++ t) n k, take_at (take len (drop n s)) t len m)

-- a body that was written behind its length
module _ (body : List ℕ) (l : length body < 2 ^ 64) (t : List ℕ) where
  behind_length : with_length body ++ t ≡ leb_bytes (length body) ++ (body ++ t)
  unfolding with_length
  behind_length = append_assoc (leb_bytes (length body)) body t

  pub written_framed : framed (with_length body ++ t) ≡ gives (len_u64 (length body), length body)
  unfolding framed and_then pick
  written_framed =
      let s : List ℕ = leb_bytes (length body) ++ (body ++ t) in
      let r : length body ≤ length s - len_u64 (length body)
      = rw (length-append (leb_bytes (length body)) (body ++ t), length-append body t) (omega arith) in
      rw (behind_length, written_read (length body) l (body ++ t), le-ltb (length s - len_u64 (length body)) (length body) r)

  pub written_body : body_at (with_length body ++ t) (len_u64 (length body)) (length body) ≡ body
  written_body = rw (behind_length, drop-append_seam (leb_bytes (length body)) (body ++ t), take-append_seam body t)

-- ---- an entry of any kind
pub record Whole {A : Type 0} (read : List ℕ → Answer A) (s : List ℕ) (a : A) (size : ℕ) : Type 0 where
  pub place : ℕ
  pub len : ℕ
  pub frame : Framing s place len
  pub sum : place + len ≡ size
  pub body : read (body_at s place len) ≡ gives a

module _ {A : Type 0} (read : List ℕ → Answer A) where
  pub whole_is : (s : List ℕ) {a : A} {size : ℕ} → entry read s ≡ gives (a, size) → Whole read s a size
  unfolding entry
  whole_is s e =
      let (v, v-is, v-then) = then_gave (framed s) _ e in
      let (w, w-is, w-then) = then_gave (read (body_at s v.0 v.1)) _ v-then in
      record {
        place = v.0;
        len = v.1;
        frame = framing s v-is;
        sum = ap second (gives_one w-then);
        body = w-is ∙ ap gives (ap first (gives_one w-then));
      }

  module _ (s : List ℕ) {a : A} {size : ℕ} (w : Whole read s a size) where
    pub whole_some : 1 ≤ size
    whole_some = omega (arith, w.frame.some, w.sum)

    pub whole_inside : size ≤ length s
    whole_inside = omega (arith, w.frame.inside, w.sum)

    pub whole_anywhere : (t : List ℕ) → entry read (take size s ++ t) ≡ gives (a, size)
    unfolding entry and_then
    whole_anywhere t =
        rw (← w.sum, whole_framed s w.frame t, whole_body s w.frame t, w.body)

  -- a body that reads, written behind its length
  pub entry_back : (body : List ℕ) {a : A} → length body < 2 ^ 64 → read body ≡ gives a → (t : List ℕ)
      → entry read (with_length body ++ t) ≡ gives (a, length (with_length body))
  unfolding entry and_then with_length
  entry_back body l e t = rw (written_framed body l t, written_body body l t, e, length-append (leb_bytes (length body)) body)

-- ---- a body that has a kind and a rowid
pub record HasKey (kind : ℕ) (body : List ℕ) (rowid : ℤ) : Type 0 where
  pub some : 1 ≤ length body
  pub first_byte : get_or body 0 0 ≡ kind
  pub taken : ℕ
  pub read : read_i64 body 1 ≡ gives (rowid, taken)

pub local_key : (body : List ℕ) {rowid : ℤ} {bs : List Block} → local_body body ≡ gives (rowid, bs) → HasKey 1 body rowid
unfolding local_body row_of
local_key body e =
    let (t, g) = not_refused (eqb (length body) 0) 4 _ e in
    let (u, h) = not_other (eqb (get_or body 0 0) 1) 5 _ g in
    let (v, v-is, v-then) = then_gave (read_i64 body 1) _ h in
    let (w, w-is, w-then) = then_gave (read_u64 body (1 + v.1)) _ v-then in
    let (x, x-is, x-then) = then_gave (blocks_at w.0 body (1 + v.1 + w.1)) _ w-then in
    let z = eqb-false (length body) 0 t in
    record {
      some = omega (arith, z);
      first_byte = eqb-true (get_or body 0 0) 1 u;
      taken = v.1;
      read = v-is ∙ ap (λ (r : ℤ). gives (r, v.1)) (ap first (gives_one x-then));
    }

pub keyed_key : (kind : ℕ) (body : List ℕ) {rowid : ℤ} {at : ℕ} → keyed_at kind body ≡ gives (rowid, at) → HasKey kind body rowid
unfolding keyed_at
keyed_key kind body e =
    let (t, g) = not_refused (eqb (length body) 0) 5 _ e in
    let (u, h) = not_other (eqb (get_or body 0 0) kind) 5 _ g in
    let (v, v-is, v-then) = then_gave (read_i64 body 1) _ h in
    let z = eqb-false (length body) 0 t in
    record {
      some = omega (arith, z);
      first_byte = eqb-true (get_or body 0 0) kind u;
      taken = v.1;
      read = v-is ∙ ap (λ (r : ℤ). gives (r, v.1)) (ap first (gives_one v-then));
    }

-- ---- what is peeked at is what is read
module _ (s : List ℕ) {n len kind : ℕ} {rowid : ℤ} (w : Framing s n len) (k : HasKey kind (body_at s n len) rowid) where
  body_length : length (body_at s n len) ≡ len
  body_length = part_length len n s w.inside

  kind_inside : n < length s
  kind_inside = omega (arith, w.inside, k.some, body_length)

  kind_byte : get_or s n 0 ≡ kind
  kind_byte =
      let l : 0 < len = omega (arith, k.some, body_length) in
      let e : get_or (take len (drop n s)) 0 0 ≡ get_or s (n + 0) 0 = get_or-take len (drop n s) 0 0 l ∙ get_or-drop n s 0 0 in
      rw (add-zero n) at (sym e ∙ k.first_byte)

  pub kind_peeked : peek_kind s ≡ gives kind
  unfolding peek_kind and_then pick
  kind_peeked = rw (w.read, lt-ltb n (length s) kind_inside, kind_byte)

  -- the rowid's bytes are those behind the kind byte, whatever stands behind the body
  rowid_bytes : drop (n + 1) s ≡ drop 1 (body_at s n len) ++ drop (n + len) s
  rowid_bytes =
      let l : 1 ≤ length (take len (drop n s)) = k.some in
      let e : drop n s ≡ take len (drop n s) ++ drop (n + len) s = sym (rw (drop-drop len n s) at (take-append-drop len (drop n s))) in
      sym (drop-drop 1 n s) ∙ ap (drop 1) e ∙ drop-append-le 1 (take len (drop n s)) (drop (n + len) s) l

  pub rowid_peeked : peek_rowid s ≡ gives rowid
  unfolding peek_rowid rowid_at read_i64 read_u64 and_then pick
  rowid_peeked = rw (w.read, lt-ltb n (length s) kind_inside, rowid_bytes) (by (read_from (drop 1 (body_at s n len))) refl k.read)
    where
      by : (a : Answer (ℕ × ℕ)) → read_from (drop 1 (body_at s n len)) ≡ a → and_then {B = ℤ × ℕ} a (λ (u, m). gives (unzigzag u, m)) ≡ gives (rowid, k.taken)
          → and_then (and_then {B = ℤ × ℕ} (read_from (drop 1 (body_at s n len) ++ drop (n + len) s)) (λ (u, m). gives (unzigzag u, m))) (λ (z, m). gives z) ≡ gives rowid
      by (gives p) h f = rw (read_append (drop 1 (body_at s n len)) h (drop (n + len) s)) (ap gives (ap first (gives_one f)))
      by (refuses j) h f = absurd (gives_refuses (sym f))

-- the kind stands in the entry's own bytes
pub kind_anywhere : {A : Type 0} (read : List ℕ → Answer A) (s : List ℕ) {a : A} {size kind : ℕ} {rowid : ℤ} (w : Whole read s a size)
    → HasKey kind (body_at s w.place w.len) rowid → (t : List ℕ) → peek_kind (take size s ++ t) ≡ gives kind
kind_anywhere read s {size = size} {rowid = rowid} w k t =
    let f = framing (take (w.place + w.len) s ++ t) (whole_framed s w.frame t) in
    rw (← w.sum) (kind_peeked (take (w.place + w.len) s ++ t) {rowid = rowid} f (rw (whole_body s w.frame t) k))
