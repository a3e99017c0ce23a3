-- The test `well_formed` is the statement `OfRows`: a byte string passes exactly if it is a sequence of the table's rows.
-- Assumes nothing.
use Prim.Native.Nat.{ℕ, suc, ◌≤◌, ◌<◌}
use native.Mathlib.Nat.{not-suc-le-zero, le_of_suc-le-suc}
use native.Mathlib.Omega.{arith}
use mathlib.Core.Path.{◌≡◌, refl, sym, ap, subst, ◌∙◌}
use mathlib.Core.Bool.{true, false}
use mathlib.Core.List.Memᴰ
use mathlib.Core.List.{List, [], ◌∷◌, ◌++◌, Memᴰ}
use mathlib.Core.Logic.{◌⊎◌, inl, inr, ◌↔◌}
use mathlib.Core.Option.{Option, none, some}
use lib.Dec.{leb}
use lib.ListN.{length, get_or}
use borrow.Author.Tests.{le-leb, leb-true}
use Rattle.paper.specs.Answer.{pick}
use Rattle.utf8.specs.Table.{Range, ◌‥◌, Row, table}
use Rattle.utf8.specs.WellFormed.{In, Fits, done, byte, OfRows, end, row, inside, begun, after, whole, completes, well_formed}
use Rattle.utf8.proofs.Cases.{by_test, never}

-- ---- lists of rows

pub nth : {A : Type 0} (d : A) (l : List A) (k : ℕ) → k < length l → Memᴰ (get_or l k d) l
nth d [] k h = absurd (not-suc-le-zero h)
nth d (a ∷ l) ℕ.zero h = Memᴰ.head refl
nth d (a ∷ l) (suc k) h = Memᴰ.tail (nth d l k (le_of_suc-le-suc h))

-- what holds of each row that is listed holds of a row of the list
abbrev pub Each : (Row → Type 0) → List Row → Type 0
Each P [] = Unit {0}
Each P (r ∷ rows) = P r × Each P rows

pub each : (P : Row → Type 0) (rows : List Row) → Each P rows → (r : Row) → Memᴰ r rows → P r
each P [] h r m = absurd (Memᴰ.not-nil m)
each P (q ∷ rows) h r m = go (Memᴰ.cases_cons m) (each P rows h.1 r)
  where
    go : (r ≡ q) ⊎ Memᴰ r rows → (Memᴰ r rows → P r) → P r
    go (inl e) f = subst P (sym e) h.0
    go (inr n) f = f n

-- ---- one byte and one range

pub inside_in : (r : Range) (b : ℕ) → In r b → inside r b ≡ true
unfolding inside pick
inside_in (lo ‥ hi) b h = rw (le-leb lo b h.0, le-leb b hi h.1)

in_inside : (r : Range) (b : ℕ) → inside r b ≡ true → In r b
unfolding inside pick
in_inside (lo ‥ hi) b e =
    by_test (leb lo b) (λ low. (leb-true lo b low, leb-true b hi (rw low at e))) (λ low. never (rw low at e))

pub not_inside : (r : Range) (b : ℕ) → (In r b → ⊥) → inside r b ≡ false
not_inside r b h = by_test (inside r b) (λ e. absurd (h (in_inside r b e))) (λ e. e)

-- ---- the row that a byte begins

-- the first ranges of the rows go upwards, from `low` on, so a byte begins at most one row
abbrev Ascending : ℕ → List Row → Type 0
Ascending low [] = Unit {0}
Ascending low ([] ∷ rows) = ⊥
Ascending low ((lo ‥ hi ∷ rs) ∷ rows) = (low ≤ lo) × ((lo ≤ hi) × Ascending (suc hi) rows)

table_ascending : Ascending 0 table
unfolding table
table_ascending = omega arith

above : (low : ℕ) (rows : List Row) → Ascending low rows → (lo hi : ℕ) (rs : Row) → Memᴰ (lo ‥ hi ∷ rs) rows → low ≤ lo
above low [] a lo hi rs m = absurd (Memᴰ.not-nil m)
above low ([] ∷ rows) a lo hi rs m = absurd a
above low ((lo' ‥ hi' ∷ rs') ∷ rows) a lo hi rs m = go (Memᴰ.cases_cons m) (above (suc hi') rows a.1.1 lo hi rs)
  where
    go : ((lo ‥ hi ∷ rs) ≡ (lo' ‥ hi' ∷ rs')) ⊎ Memᴰ (lo ‥ hi ∷ rs) rows → (Memᴰ (lo ‥ hi ∷ rs) rows → suc hi' ≤ lo) → low ≤ lo
    go (inl e) f = let g : lo ≡ lo' = cc in omega arith
    go (inr n) f = let g : suc hi' ≤ lo = f n in omega arith

begins : (low : ℕ) (rows : List Row) → Ascending low rows → (r : Range) (rs : Row) (b : ℕ) → Memᴰ (r ∷ rs) rows → In r b → begun rows b ≡ some rs
unfolding begun pick
begins low [] a r rs b m h = absurd (Memᴰ.not-nil m)
begins low ([] ∷ rows) a r rs b m h = absurd a
begins low ((lo' ‥ hi' ∷ rs') ∷ rows) a (lo ‥ hi) rs b m h = go (Memᴰ.cases_cons m) (begins (suc hi') rows a.1.1 (lo ‥ hi) rs b)
  where
    go : ((lo ‥ hi ∷ rs) ≡ (lo' ‥ hi' ∷ rs')) ⊎ Memᴰ (lo ‥ hi ∷ rs) rows
        → (Memᴰ (lo ‥ hi ∷ rs) rows → In (lo ‥ hi) b → begun rows b ≡ some rs) → begun ((lo' ‥ hi' ∷ rs') ∷ rows) b ≡ some rs
    go (inl e) f =
        let el : lo ≡ lo' = cc in
        let eh : hi ≡ hi' = cc in
        let er : rs' ≡ rs = cc in
        rw (inside_in (lo' ‥ hi') b (omega arith)) (ap some er)
    go (inr n) f =
        let g : suc hi' ≤ lo = above (suc hi') rows a.1.1 lo hi rs n in
        rw (not_inside (lo' ‥ hi') b (omega arith)) (f n h)

pub table_begins : (r : Range) (rs : Row) (b : ℕ) → Memᴰ (r ∷ rs) table → In r b → begun table b ≡ some rs
table_begins = begins 0 table table_ascending

record Begun (rows : List Row) (b : ℕ) (rs : Row) : Type 0 where
  first : Range
  listed : Memᴰ (first ∷ rs) rows
  holds : In first b

later : {rows : List Row} {b : ℕ} {rs r : Row} → Begun rows b rs → Begun (r ∷ rows) b rs
later w = record { first = w.first; listed = Memᴰ.tail w.listed; holds = w.holds }

begun_by : (rows : List Row) (b : ℕ) (rs : Row) → begun rows b ≡ some rs → Begun rows b rs
unfolding begun pick
begun_by [] b rs e = cc
begun_by ([] ∷ rows) b rs e = later (begun_by rows b rs e)
begun_by ((r ∷ rs') ∷ rows) b rs e = by_test (inside r b) (λ i. here i (rw i at e)) (λ i. later (begun_by rows b rs (rw i at e)))
  where
    here : inside r b ≡ true → some rs' ≡ some rs → Begun ((r ∷ rs') ∷ rows) b rs
    here i e' =
        let same : rs ≡ rs' = cc in
        record { first = r; listed = Memᴰ.head (ap (λ (x : Row). r ∷ x) same); holds = in_inside r b i }

-- ---- the statement passes the test

pub along : {o o' : Option Row} (s : List ℕ) → o ≡ o' → completes o s ≡ completes o' s
along s e = ap (λ (o : Option Row). completes o s) e

through : (rs : Row) {u : List ℕ} (t : List ℕ) → Fits rs u → completes (some rs) (u ++ t) ≡ completes (some []) t
unfolding completes after pick
through [] t done = refl
through (r ∷ rs) t (byte {b = b} {s = s} h f) = along (s ++ t) (rw (inside_in r b h)) ∙ through rs t f

row_through : (rs : Row) {u : List ℕ} (t : List ℕ) → Memᴰ rs table → Fits rs u → completes (some []) (u ++ t) ≡ completes (some []) t
unfolding completes after
row_through [] t m done = refl
row_through (r ∷ rs) t m (byte {b = b} {s = s} h f) = along (s ++ t) (table_begins r rs b m h) ∙ through rs t f

pub rows_pass : {s : List ℕ} → OfRows s → well_formed s ≡ true
unfolding well_formed completes whole
rows_pass end = refl
rows_pass (row {r = r} {t = t} m f o) = row_through r t m f ∙ rows_pass o

-- ---- and what passes is of the statement

-- what completes a row is the rest of that row, and then whole rows
record Completed (rs : Row) (s : List ℕ) : Type 0 where
  head : List ℕ
  tail : List ℕ
  split : head ++ tail ≡ s
  fits : Fits rs head
  rows : OfRows tail

pub nowhere : (s : List ℕ) → completes none s ≡ false
unfolding completes after whole
nowhere [] = refl
nowhere (b ∷ s) = nowhere s

passed : (rs : Row) (s : List ℕ) → completes (some rs) s ≡ true → Completed rs s
unfolding completes after whole pick
passed [] [] e = record { head = []; tail = []; split = refl; fits = done; rows = end }
passed (r ∷ rs) [] e = never e
passed [] (b ∷ s) e = go (begun table b) refl e (λ (rs : Row). passed rs s)
  where
    go : (o : Option Row) → begun table b ≡ o → completes o s ≡ true → ((rs : Row) → completes (some rs) s ≡ true → Completed rs s) → Completed [] (b ∷ s)
    go none w e' f = never (sym (nowhere s) ∙ e')
    go (some rs) w e' f =
        let k = f rs e' in
        let g = begun_by table b rs w in
        record { head = []; tail = b ∷ s; split = refl; fits = done; rows = subst OfRows (ap (λ (x : List ℕ). b ∷ x) k.split) (row g.listed (byte g.holds k.fits) k.rows) }
passed (r ∷ rs) (b ∷ s) e = by_test (inside r b) (λ i. more i (passed rs s (rw i at e))) (λ i. never (sym (nowhere s) ∙ (rw i at e)))
  where
    more : inside r b ≡ true → Completed rs s → Completed (r ∷ rs) (b ∷ s)
    more i k = record { head = b ∷ k.head; tail = k.tail; split = ap (λ (x : List ℕ). b ∷ x) k.split; fits = byte (in_inside r b i) k.fits; rows = k.rows }

pub passes_rows : (s : List ℕ) → well_formed s ≡ true → OfRows s
unfolding well_formed
passes_rows s e = let k = passed [] s e in subst OfRows k.split (alone k.fits k.rows)
  where
    alone : {u t : List ℕ} → Fits [] u → OfRows t → OfRows (u ++ t)
    alone done o = o

-- a byte string is well-formed by the test exactly if it is a sequence of the table's rows
pub well_formed_is_rows : (s : List ℕ) → (well_formed s ≡ true) ↔ OfRows s
well_formed_is_rows s = (passes_rows s, rows_pass)
