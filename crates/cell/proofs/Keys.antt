-- The rowid after a kind byte, the page number at a body's end, and entries of any kind from their frame and their body.
-- Assumes nothing.
use Rattle.std.proofs.Common.{◌≡◌, ℕ, ◌+◌, ◌-◌, ◌<◌, ◌≤◌, List, length, get_or, take, drop, ℤ, ap, sym, ◌∙◌, add-zero, arith, drop_of_length-le, le-ltb, eqb, eq-eqb, ne_eqb}
use Rattle.paper.proofs.Laws.{told_err, gives_one, second}
use Rattle.paper.specs.Answer.{Answer, gives, refuses, and_then, pick}
use Rattle.field.specs.Field.{le}
use Rattle.field.proofs.Laws.{le_drop}
use Rattle.varint.specs.Leb.{read_u64, read_from, taken}
use Rattle.varint.specs.Number.{read_as, read_i64}
use Rattle.varint.specs.Zigzag.{unzigzag}
use Rattle.varint.proofs.Places.{at_inside, read_as_i64}
use Rattle.cell.specs.declared.inner.framing.Framed.{Framed}
use Rattle.cell.specs.Entry.{framed, entry}
use Rattle.cell.specs.Framing.{FrameAt}
use Rattle.cell.specs.Keyed.{keyed_at, page_at}
use Rattle.cell.proofs.Accepting.{not_refused, not_other, then_gave}
use Rattle.cell.proofs.Placing.{rest_all}

-- the page number
pub page_given : (body : List ℕ) (at : ℕ) {p : ℕ} → length body - at ≡ 4 → p ≡ le 4 0 (take (length body - at) (drop at body)) → gives p ≡ page_at body at
unfolding page_at pick
page_given body at {p} l e =
    let d : p ≡ le 4 (at + 0) body = e ∙ ap (le 4 0) (rest_all body at) ∙ le_drop 4 0 at body in
    let g : p ≡ le 4 at body = rw (add-zero at) at d in
    rw (le-ltb (length body - at) 4 (omega arith), eq-eqb (length body - at) 4 l) (ap gives g)

-- ---- the rowid

-- a signed number that was read lies inside the buffer
pub signed_inside : (s : List ℕ) (pos : ℕ) {z : ℤ} {n : ℕ} → gives (z, n) ≡ read_as unzigzag s pos → pos + n ≤ length s
unfolding read_as
signed_inside s pos {n = n} e =
    let (q, f, g) = then_gave (read_u64 s pos) (λ (v, n). gives (unzigzag v, n)) (sym e) in
    let l = at_inside s pos (sym f) in
    let m : q.1 ≡ n = ap second (gives_one g) in
    omega arith

pub key_empty : (kind : ℕ) (body : List ℕ) → length body ≡ 0 → refuses 5 ≡ keyed_at kind body
unfolding keyed_at pick
key_empty kind body e = rw (eq-eqb (length body) 0 e)

pub key_given : (kind : ℕ) (body : List ℕ) {z : ℤ} {n : ℕ} → 0 < length body → get_or body 0 0 ≡ kind → gives (z, n) ≡ read_i64 body 1
    → gives (z, 1 + n) ≡ keyed_at kind body
unfolding keyed_at pick and_then
key_given kind body p k e =
    let some : length body ≡ 0 → ⊥ = λ d. omega arith in
    rw (ne_eqb (length body) 0 some, eq-eqb (get_or body 0 0) kind k, ← e)

-- the place behind the rowid lies inside the body
pub key_inside : (kind : ℕ) (body : List ℕ) {z : ℤ} {at : ℕ} → gives (z, at) ≡ keyed_at kind body → at ≤ length body
unfolding keyed_at
key_inside kind body {at = at} e =
    let (t, f) = not_refused (eqb (length body) 0) 5 _ (sym e) in
    let (u, g) = not_other (eqb (get_or body 0 0) kind) 5 _ f in
    let (p, h, i) = then_gave (read_i64 body 1) (λ (z, n). gives (z, 1 + n)) g in
    let l : 1 + p.1 ≤ length body = signed_inside body 1 (sym h ∙ sym (read_as_i64 body 1)) in
    let n : 1 + p.1 ≡ at = ap second (gives_one i) in
    omega arith

-- ---- entries of any kind: from the frame, and from what the body says
module _ {A : Type 0} (read : List ℕ → Answer A) (s : List ℕ) where
  pub entry_past : (pos : ℕ) → length s ≤ pos → refuses 1 ≡ entry read (drop pos s)
  unfolding entry framed and_then read_from taken
  entry_past pos l = rw (drop_of_length-le s l)

  pub entry_unframed : {k : ℕ} → refuses k ≡ framed s → refuses k ≡ entry read s
  unfolding entry and_then
  entry_unframed e = rw (← e)

  module _ {f : Framed} (w : FrameAt s f) where
    pub entry_refused : {k : ℕ} → refuses k ≡ read (take (f.end - f.at) (drop f.at s)) → refuses k ≡ entry read s
    unfolding entry and_then
    entry_refused g = rw (← w.given, ← g)

    pub entry_given : {x : A} → gives x ≡ read (take (f.end - f.at) (drop f.at s)) → gives (x, f.end) ≡ entry read s
    unfolding entry and_then
    entry_given g =
        let l = w.ordered in
        let n : f.at + (f.end - f.at) ≡ f.end = omega arith in
        rw (← w.given, ← g, n)

pub ruleset entries = (told_err, entry_past, entry_unframed, entry_refused, entry_given)

pub ruleset keys = (told_err, signed_inside, read_as_i64)
