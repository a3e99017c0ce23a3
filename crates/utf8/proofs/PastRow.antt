-- The plain form reads the table: where a row stands the text goes on behind it, and where none does there is no text.
-- Assumes nothing.
use Rattle.std.proofs.Common.{◌≡◌, refl, sym, ap, ◌∙◌, ℕ, suc, ◌+◌, ◌-◌, ◌<◌, false, List, [], ◌∷◌, ◌++◌, length, get_or, take, drop, add-one, arith}
use Rattle.std.proofs.Math.Option.{some}
use Rattle.std.proofs.lemmas.List.{drop-drop, length-drop}
use Rattle.std.proofs.Math.Seq.{drop-cons, take_all}
use Rattle.paper.specs.Answer.{pick}
use Rattle.utf8.specs.Table.{Range, Row, table}
use Rattle.utf8.specs.WellFormed.{In, Fits, done, byte, OfRows, end, row, begun, after, completes, well_formed}
use Rattle.utf8.proofs.Cases.{by_test}
use Rattle.utf8.proofs.Rows.{inside_in, table_begins, along, passes_rows, nth, Each, each}

-- the row stands in s from place i on
abbrev pub Stands : Row → List ℕ → ℕ → Type 0
Stands [] s i = Unit {0}
Stands (r ∷ rs) s i = (i < length s) × (In r (get_or s i 0) × Stands rs s (i + 1))

-- ---- a row that stands

stands_past : (rs : Row) (s : List ℕ) (i : ℕ) → Stands rs s i → completes (some rs) (drop i s) ≡ completes (some []) (drop (length rs) (drop i s))
unfolding completes after pick
stands_past [] s i h = refl
stands_past (r ∷ rs) s i h =
    let e : drop i s ≡ get_or s i 0 ∷ drop (i + 1) s = rw (add-one i) (drop-cons s i 0 h.0) in
    rw e (along (drop (i + 1) s) (rw (inside_in r (get_or s i 0) h.1.0)) ∙ stands_past rs s (i + 1) h.1.1)

module _ (s : List ℕ) (k : ℕ) {r : Range} {rs : Row} (e : get_or table k [] ≡ (r ∷ rs)) (l : k < length table) (h : Stands (r ∷ rs) s 0) where
  behind_row : well_formed (drop (length (r ∷ rs)) s) ≡ well_formed s
  unfolding well_formed completes after
  behind_row =
      let more : 1 + length rs ≡ suc (length rs) = omega arith in
      let begins : begun table (get_or s 0 0) ≡ some rs = table_begins r rs (get_or s 0 0) (rw e at (nth [] table k l)) h.1.0 in
      sym (ap (completes (some [])) (drop-cons s 0 0 h.0) ∙ along (drop 1 s) begins ∙ stands_past rs s 1 h.1.1 ∙ ap (completes (some [])) (drop-drop (length rs) 1 s ∙ ap (λ n. drop n s) more))

  -- what the code finds behind it is the rest of s
  pub row_stands : (length (take (length s - length (r ∷ rs)) (drop (length (r ∷ rs)) s)) < length s)
      × (well_formed (take (length s - length (r ∷ rs)) (drop (length (r ∷ rs)) s)) ≡ well_formed s)
  row_stands =
      let part = take_all (length s - length (r ∷ rs)) (drop (length (r ∷ rs)) s) (omega (arith, length-drop (length (r ∷ rs)) s)) in
      rw part (omega (arith, h.0, length-drop (length (r ∷ rs)) s), behind_row)

-- ---- none

stands_fits : (rs : Row) (s : List ℕ) (i : ℕ) {u : List ℕ} (t : List ℕ) → drop i s ≡ u ++ t → Fits rs u → Stands rs s i
stands_fits [] s i t e done = tt
stands_fits (r ∷ rs) s i t e (byte {b = b} {s = u} h f) =
    let l : i < length s = omega (arith, ap length e, length-drop i s) in
    let d : (get_or s i 0 ∷ drop (suc i) s) ≡ (b ∷ (u ++ t)) = sym (drop-cons s i 0 l) ∙ e in
    let first : get_or s i 0 ≡ b = cc in
    let more : drop (suc i) s ≡ u ++ t = cc in
    (l, (rw first h, stands_fits rs s (i + 1) t (rw (add-one i) more) f))

some_stands : {s : List ℕ} → 0 < length s → Each (λ row. Stands row s 0 → ⊥) table → OfRows s → ⊥
some_stands l none end = omega arith
some_stands l none (row {r = r} {u = u} {t = t} m f o) = each (λ row. Stands row (u ++ t) 0 → ⊥) table none r m (stands_fits r (u ++ t) 0 t refl f)

pub no_row_stands : (s : List ℕ) → 0 < length s → Each (λ row. Stands row s 0 → ⊥) table → well_formed s ≡ false
no_row_stands s l none = by_test (well_formed s) (λ e. absurd (some_stands l none (passes_rows s e))) (λ e. e)
