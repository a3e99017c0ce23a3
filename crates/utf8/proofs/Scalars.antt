-- A byte string is a sequence of Table 3-7's rows exactly if it is the encoding of a sequence of scalar values, and then of only one.
-- Assumes nothing.
use Prim.Native.Nat.{ℕ, suc, ◌+◌, ◌-◌, ◌*◌, ◌/◌, ◌%◌, ◌≤◌, ◌<◌}
use native.Mathlib.Omega.{arith}
use mathlib.Core.Path.{◌≡◌, refl, sym, ap, subst, ◌∙◌}
use mathlib.Core.Bool.{true}
use mathlib.Core.List.{List, [], ◌∷◌, ◌++◌, append-nil}
use mathlib.Core.Logic.{inl, inr, ◌↔◌}
use lib.Dec.{ltb, lit<}
use lib.ListN.{length, get_or}
use lib.Seq.{append_snoc}
use borrow.Author.Tests.{lt-ltb, le-ltb}
use Rattle.paper.specs.Answer.{pick}
use Rattle.utf8.specs.Table.{◌‥◌, Row, table}
use Rattle.utf8.specs.WellFormed.{In, Fits, done, byte, OfRows, end, row, well_formed}
use Rattle.utf8.specs.Scalar.{Scalar, Scalars, bytes_of, encode}
use Rattle.utf8.proofs.Rows.{nth, Each, each, rows_pass, passes_rows}
use Rattle.utf8.proofs.Cases.{by_order}

-- ---- Table 3-6, line by line

bytes_1 : (v : ℕ) → v < 0x80 → bytes_of v ≡ v ∷ []
unfolding bytes_of pick
bytes_1 v h = rw (lt-ltb v 0x80 h)

bytes_2 : (v : ℕ) → 0x80 ≤ v → v < 0x800 → bytes_of v ≡ (0xC0 + v / 64) ∷ (0x80 + v % 64) ∷ []
unfolding bytes_of pick
bytes_2 v l h = rw (le-ltb v 0x80 l, lt-ltb v 0x800 h)

bytes_3 : (v : ℕ) → 0x800 ≤ v → v < 0x10000 → bytes_of v ≡ (0xE0 + v / 4096) ∷ (0x80 + v / 64 % 64) ∷ (0x80 + v % 64) ∷ []
unfolding bytes_of pick
bytes_3 v l h = rw (le-ltb v 0x80 (omega arith), le-ltb v 0x800 l, lt-ltb v 0x10000 h)

bytes_4 : (v : ℕ) → 0x10000 ≤ v → bytes_of v ≡ (0xF0 + v / 262144) ∷ (0x80 + v / 4096 % 64) ∷ (0x80 + v / 64 % 64) ∷ (0x80 + v % 64) ∷ []
unfolding bytes_of pick
bytes_4 v l = rw (le-ltb v 0x80 (omega arith), le-ltb v 0x800 (omega arith), le-ltb v 0x10000 l)

-- ---- an encoding is a sequence of rows

-- `Fits` of a row and bytes that are written out, as one product of bounds
abbrev Held : Row → List ℕ → Type 0
Held [] [] = Unit {0}
Held [] (b ∷ u) = ⊥
Held (r ∷ rs) [] = ⊥
Held (r ∷ rs) (b ∷ u) = In r b × Held rs u

fits : (r : Row) (u : List ℕ) → Held r u → Fits r u
fits [] [] h = done
fits [] (b ∷ u) h = absurd h
fits (r ∷ rs) [] h = absurd h
fits (r ∷ rs) (b ∷ u) h = byte h.0 (fits rs u h.1)

past_surrogates : (v : ℕ) → Scalar v → 0xD800 ≤ v → (0xE000 ≤ v) × (v < 0x110000)
past_surrogates v (inl h) l = omega arith
past_surrogates v (inr h) l = h

module _ (v : ℕ) (t : List ℕ) (o : OfRows t) where
  by_row : (k : ℕ) {u : List ℕ} → k < length table → bytes_of v ≡ u → Held (get_or table k []) u → OfRows (bytes_of v ++ t)
  by_row k {u} l e h = rw e (row (nth [] table k l) (fits (get_or table k []) u h) o)

  spelled : Scalar v → OfRows (bytes_of v ++ t)
  unfolding table
  spelled s =
      by_order v 0x80 (λ h. by_row 0 (lit< tt) (bytes_1 v h) (omega arith)) (λ a.
      by_order v 0x800 (λ h. by_row 1 (lit< tt) (bytes_2 v a h) (omega arith)) (λ b.
      by_order v 0x1000 (λ h. by_row 2 (lit< tt) (bytes_3 v b (omega arith)) (omega arith)) (λ c.
      by_order v 0xD000 (λ h. by_row 3 (lit< tt) (bytes_3 v b (omega arith)) (omega arith)) (λ d.
      by_order v 0xD800 (λ h. by_row 4 (lit< tt) (bytes_3 v b (omega arith)) (omega arith)) (λ e.
      let p = past_surrogates v s e in
      by_order v 0x10000 (λ h. by_row 5 (lit< tt) (bytes_3 v b h) (omega arith)) (λ f.
      by_order v 0x40000 (λ h. by_row 6 (lit< tt) (bytes_4 v f) (omega arith)) (λ g.
      by_order v 0x100000 (λ h. by_row 7 (lit< tt) (bytes_4 v f) (omega arith)) (λ i.
      by_row 8 (lit< tt) (bytes_4 v f) (omega arith)))))))))

pub encode_rows : (vs : List ℕ) → Scalars vs → OfRows (encode vs)
unfolding encode
encode_rows [] s = end
encode_rows (v ∷ vs) s = spelled v (encode vs) (encode_rows vs s.1) s.0

-- ---- a sequence of rows is an encoding

record Spells (u : List ℕ) : Type 0 where
  value : ℕ
  scalar : Scalar value
  spells : bytes_of value ≡ u

spells_1 : (a : ℕ) → a < 0x80 → Spells (a ∷ [])
spells_1 a h = record { value = a; scalar = inl (omega arith); spells = bytes_1 a h }

-- a lead byte and bytes 80..BF, by the value that they are to have
spells_2 : (a b v : ℕ) → v ≡ 64 * (a - 0xC0) + (b - 0x80) → Held (0xC2 ‥ 0xDF ∷ 0x80 ‥ 0xBF ∷ []) (a ∷ b ∷ []) → Spells (a ∷ b ∷ [])
spells_2 a b v e h =
    let ea : 0xC0 + v / 64 ≡ a = omega arith in
    let eb : 0x80 + v % 64 ≡ b = omega arith in
    record { value = v; scalar = inl (omega arith); spells = bytes_2 v (omega arith) (omega arith) ∙ cc }

spells_3 : (a b c v : ℕ) → v ≡ 4096 * (a - 0xE0) + 64 * (b - 0x80) + (c - 0x80) → Scalar v → 0x800 ≤ v
    → Held (0xE0 ‥ 0xEF ∷ 0x80 ‥ 0xBF ∷ 0x80 ‥ 0xBF ∷ []) (a ∷ b ∷ c ∷ []) → Spells (a ∷ b ∷ c ∷ [])
spells_3 a b c v e s l h =
    let ea : 0xE0 + v / 4096 ≡ a = omega arith in
    let eb : 0x80 + v / 64 % 64 ≡ b = omega arith in
    let ec : 0x80 + v % 64 ≡ c = omega arith in
    record { value = v; scalar = s; spells = bytes_3 v l (omega arith) ∙ cc }

spells_4 : (a b c d v : ℕ) → v ≡ 262144 * (a - 0xF0) + 4096 * (b - 0x80) + 64 * (c - 0x80) + (d - 0x80) → 0x10000 ≤ v → v < 0x110000
    → Held (0xF0 ‥ 0xF4 ∷ 0x80 ‥ 0xBF ∷ 0x80 ‥ 0xBF ∷ 0x80 ‥ 0xBF ∷ []) (a ∷ b ∷ c ∷ d ∷ []) → Spells (a ∷ b ∷ c ∷ d ∷ [])
spells_4 a b c d v e l m h =
    let ea : 0xF0 + v / 262144 ≡ a = omega arith in
    let eb : 0x80 + v / 4096 % 64 ≡ b = omega arith in
    let ec : 0x80 + v / 64 % 64 ≡ c = omega arith in
    let ed : 0x80 + v % 64 ≡ d = omega arith in
    record { value = v; scalar = inr (omega arith); spells = bytes_4 v l ∙ cc }

-- byte after byte of a row, with its bound, the bytes p before them
abbrev Read : Row → List ℕ → Type 0
Read [] p = Spells p
Read (r ∷ rs) p = (b : ℕ) → In r b → Read rs (p ++ (b ∷ []))

of_row : (rs : Row) (p : List ℕ) {u : List ℕ} → Read rs p → Fits rs u → Spells (p ++ u)
of_row [] p f done = rw append-nil f
of_row (r ∷ rs) p f (byte {b = b} {s = s} h g) = rw append_snoc at (of_row rs (p ++ (b ∷ [])) (f b h) g)

read : Each (λ r. Read r []) table
unfolding table
read = (
  (λ a h. spells_1 a (omega arith)),
  (
    (λ a h b i. spells_2 a b _ refl (omega arith)),
    (
      (λ a h b i c j. spells_3 a b c _ refl (inl (omega arith)) (omega arith) (omega arith)),
      (
        (λ a h b i c j. spells_3 a b c _ refl (inl (omega arith)) (omega arith) (omega arith)),
        (
          (λ a h b i c j. spells_3 a b c _ refl (inl (omega arith)) (omega arith) (omega arith)),
          (
            (λ a h b i c j. spells_3 a b c _ refl (inr (omega arith)) (omega arith) (omega arith)),
            (
              (λ a h b i c j d k. spells_4 a b c d _ refl (omega arith) (omega arith) (omega arith)),
              (
                (λ a h b i c j d k. spells_4 a b c d _ refl (omega arith) (omega arith) (omega arith)),
                (
                  (λ a h b i c j d k. spells_4 a b c d _ refl (omega arith) (omega arith) (omega arith)),
                  tt,
                ),
              ),
            ),
          ),
        ),
      ),
    ),
  ),
)

pub record Encodes (s : List ℕ) : Type 0 where
  pub values : List ℕ
  pub scalars : Scalars values
  pub encodes : encode values ≡ s

pub rows_encode : {s : List ℕ} → OfRows s → Encodes s
unfolding encode
rows_encode end = record { values = []; scalars = tt; encodes = refl }
rows_encode (row {r = r} m f o) =
    let w = of_row r [] (each (λ (x : Row). Read x []) table read r m) f in
    let k = rows_encode o in
    record { values = w.value ∷ k.values; scalars = (w.scalar, k.scalars); encodes = rw (w.spells, k.encodes) }

-- ---- of only one sequence: the values are read back from the bytes

-- the values that the bytes spell, where `left` more bytes of a value are to come and `high` holds its bits so far
decode : ℕ → ℕ → List ℕ → List ℕ
decode left high [] = []
decode ℕ.zero high (b ∷ s) =
    pick (ltb b 0x80) (b ∷ decode 0 0 s) (pick (ltb b 0xE0) (decode 1 (b - 0xC0) s) (pick (ltb b 0xF0) (decode 2 (b - 0xE0) s) (decode 3 (b - 0xF0) s)))
decode (suc ℕ.zero) high (b ∷ s) = (64 * high + (b - 0x80)) ∷ decode 0 0 s
decode (suc (suc left)) high (b ∷ s) = decode (suc left) (64 * high + (b - 0x80)) s

decoded : (v : ℕ) (t : List ℕ) → Scalar v → decode 0 0 (bytes_of v ++ t) ≡ v ∷ decode 0 0 t
unfolding decode pick
decoded v t s =
    by_order v 0x80 (λ h. rw (bytes_1 v h, lt-ltb v 0x80 h)) (λ a.
    by_order v 0x800 (λ h.
    let e : 64 * (0xC0 + v / 64 - 0xC0) + (0x80 + v % 64 - 0x80) ≡ v = omega arith in
    rw (bytes_2 v a h, le-ltb (0xC0 + v / 64) 0x80 (omega arith), lt-ltb (0xC0 + v / 64) 0xE0 (omega arith), e)) (λ b.
    by_order v 0x10000 (λ h.
    let e : 64 * (64 * (0xE0 + v / 4096 - 0xE0) + (0x80 + v / 64 % 64 - 0x80)) + (0x80 + v % 64 - 0x80) ≡ v = omega arith in
    rw (bytes_3 v b h, le-ltb (0xE0 + v / 4096) 0x80 (omega arith), le-ltb (0xE0 + v / 4096) 0xE0 (omega arith), lt-ltb (0xE0 + v / 4096) 0xF0 (omega arith), e)) (λ c.
    let f : v / 4096 / 64 ≡ v / 262144 = omega arith in
    let g : v / 64 / 64 ≡ v / 4096 = omega arith in
    let e : 64 * (64 * (64 * (0xF0 + v / 262144 - 0xF0) + (0x80 + v / 4096 % 64 - 0x80)) + (0x80 + v / 64 % 64 - 0x80)) + (0x80 + v % 64 - 0x80) ≡ v = omega arith in
    rw (bytes_4 v c, le-ltb (0xF0 + v / 262144) 0x80 (omega arith), le-ltb (0xF0 + v / 262144) 0xE0 (omega arith), le-ltb (0xF0 + v / 262144) 0xF0 (omega arith), e))))

decode_encode : (vs : List ℕ) → Scalars vs → decode 0 0 (encode vs) ≡ vs
unfolding decode encode
decode_encode [] s = refl
decode_encode (v ∷ vs) s = decoded v (encode vs) s.0 ∙ ap (λ (x : List ℕ). v ∷ x) (decode_encode vs s.1)

pub encode_one : (vs ws : List ℕ) → Scalars vs → Scalars ws → encode vs ≡ encode ws → vs ≡ ws
encode_one vs ws p q e = sym (decode_encode vs p) ∙ ap (decode 0 0) e ∙ decode_encode ws q

-- ---- the theorem

-- a byte string is well-formed exactly if it is the encoding of a sequence of scalar values
pub well_formed_is_encoding : (s : List ℕ) → (well_formed s ≡ true) ↔ Encodes s
well_formed_is_encoding s = (λ e. rows_encode (passes_rows s e), λ k. subst (λ (x : List ℕ). well_formed x ≡ true) k.encodes (rows_pass (encode_rows k.values k.scalars)))

-- and of only one
pub encoding_is_one : (s : List ℕ) (j k : Encodes s) → j.values ≡ k.values
encoding_is_one s j k = encode_one j.values k.values j.scalars k.scalars (j.encodes ∙ sym k.encodes)
