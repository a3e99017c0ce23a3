-- A value list that is accepted says, column by column, what `held` says.
-- Assumes nothing.
use Rattle.std.proofs.Common.{◌≡◌, ℕ, zero, suc, ◌*◌, ◌/◌, ◌^◌, ◌<◌, ◌≤◌, Bool, true, false, eqb, ltb, List, [], ◌∷◌, length, take, drop, sym, refl, ap, arith, length-drop, length-take-le, w64, SFits, ltb-false, ne_eqb, eqb-true}
use mir.ValLaws.{to_z-Fits}
use Rattle.paper.specs.Answer.{Answer, gives, refuses, and_then, pick}
use Rattle.paper.proofs.Laws.{gives_one, gives_refuses}
use Rattle.utf8.specs.WellFormed.{check_text}
use Rattle.cell.specs.Content.{Content, none, whole, float, truth, letters, floats}
use Rattle.cell.specs.ValueList.{item, items}
use Rattle.cell.specs.Written.{null_bit, null_bits, bitmap}
use Rattle.cell.specs.Listing.{used, held, used_all, held_all, kind_bit, kind_bits, kind_map}

-- ---- contents of 64-bit words and whole texts and vectors
abbrev pub Sound : Content → Type 0
Sound none = Unit {0}
Sound (whole v) = SFits w64 v
Sound (float bits) = bits < 2 ^ 64
Sound (truth b) = Unit {0}
Sound (letters t) = (check_text t ≡ gives tt) × (length t < 2 ^ 64)
Sound (floats v) = (4 * (length v / 4) ≡ length v) × (length v / 4 < 2 ^ 64)

abbrev pub AllSound : List Content → Type 0
AllSound [] = Unit {0}
AllSound (c ∷ cs) = Sound c × AllSound cs

-- ---- one column
pub record Column (kind word : ℕ) (rest : List ℕ) (c : Content) (left : List ℕ) : Type 0 where
  pub holds : c ≡ held kind word rest
  pub leaves : left ≡ drop (used kind word) rest
  pub fits : used kind word ≤ length rest
  pub marks : null_bit c ≡ kind_bit kind
  pub sound : word < 2 ^ 64 → Sound c

-- what an accepted column is
abbrev Fine : ℕ → ℕ → List ℕ → Answer (Content × List ℕ) → Type 0
Fine kind word rest (gives (c, left)) = Column kind word rest c left
Fine kind word rest (refuses k) = Unit {0}

module _ (word : ℕ) (rest : List ℕ) where
  text_fine : (t : Bool) → ltb (length rest) word ≡ t → (a : Answer (Unit {0})) → check_text (take word rest) ≡ a
      → Fine 2 word rest (pick t (refuses 15) (and_then a (λ _. gives (letters (take word rest), drop word rest))))
  unfolding pick and_then held used null_bit kind_bit
  text_fine true e a g = tt
  text_fine false e (refuses k) g = tt
  text_fine false e (gives u) g =
      let l : word ≤ length rest = ltb-false (length rest) word e in
      record {
        holds = refl;
        leaves = refl;
        fits = l;
        marks = refl;
        sound = λ h. (g, rw (length-take-le word rest l) h);
      }

  bool_fine : (t : Bool) → Fine 3 word rest (pick t (refuses 15) (gives (truth (eqb word 1), rest)))
  unfolding pick held used null_bit kind_bit
  bool_fine true = tt
  bool_fine false = record { holds = refl; leaves = refl; fits = omega arith; marks = refl; sound = λ h. tt }

  vector_fine : (t : Bool) → ltb (length rest / 4) word ≡ t → Fine 4 word rest (pick t (refuses 15) (gives (floats (take (4 * word) rest), drop (4 * word) rest)))
  unfolding pick held used null_bit kind_bit
  vector_fine true e = tt
  vector_fine false e =
      let l : word ≤ length rest / 4 = ltb-false (length rest / 4) word e in
      let n : length (take (4 * word) rest) ≡ 4 * word = length-take-le (4 * word) rest (omega arith) in
      record { holds = refl; leaves = refl; fits = omega arith; marks = refl; sound = λ h. rw n (omega arith, omega arith) }

  null_column : Column 255 word rest none rest
  unfolding held used null_bit kind_bit pick
  null_column = record { holds = refl; leaves = refl; fits = omega arith; marks = refl; sound = λ h. tt }

  null_fine : (kind : ℕ) (s t : Bool) → eqb kind 255 ≡ s → Fine kind word rest (pick s (pick t (gives (none, rest)) (refuses 15)) (refuses 15))
  unfolding pick
  null_fine kind false t e = tt
  null_fine kind true false e = tt
  null_fine kind true true e = let k : kind ≡ 255 = eqb-true kind 255 e in rw k null_column

other_item : (kind word : ℕ) (rest : List ℕ) → 5 < kind
    → item kind word rest ≡ pick (eqb kind 255) (pick (eqb word 0) (gives (none, rest)) (refuses 15)) (refuses 15)
unfolding item pick
other_item kind word rest l =
    let a : kind ≡ 0 → ⊥ = λ e. omega arith in
    let b : kind ≡ 1 → ⊥ = λ e. omega arith in
    let c : kind ≡ 2 → ⊥ = λ e. omega arith in
    let d : kind ≡ 3 → ⊥ = λ e. omega arith in
    let f : kind ≡ 4 → ⊥ = λ e. omega arith in
    let g : kind ≡ 5 → ⊥ = λ e. omega arith in
    rw (ne_eqb kind 0 a, ne_eqb kind 1 b, ne_eqb kind 2 c, ne_eqb kind 3 d, ne_eqb kind 4 f, ne_eqb kind 5 g)

item_fine : (kind word : ℕ) (rest : List ℕ) → Fine kind word rest (item kind word rest)
unfolding item pick held used null_bit kind_bit
item_fine zero word rest =
    record { holds = refl; leaves = refl; fits = omega arith; marks = refl; sound = λ h. to_z-Fits w64 word (record { fits = h }) }
item_fine (suc zero) word rest = record { holds = refl; leaves = refl; fits = omega arith; marks = refl; sound = λ h. h }
item_fine (suc (suc zero)) word rest = text_fine word rest (ltb (length rest) word) refl (check_text (take word rest)) refl
item_fine (suc (suc (suc zero))) word rest = bool_fine word rest (ltb 1 word)
item_fine (suc (suc (suc (suc zero)))) word rest = vector_fine word rest (ltb (length rest / 4) word) refl
item_fine (suc (suc (suc (suc (suc zero))))) word rest = tt
item_fine (suc (suc (suc (suc (suc (suc kind)))))) word rest =
    let k : ℕ = suc (suc (suc (suc (suc (suc kind))))) in
    rw (other_item k word rest (omega arith)) (null_fine word rest k (eqb k 255) (eqb word 0) refl)

-- ---- all columns
pub data Marked : List ℕ → List Content → Type 0 where
  ended : Marked [] []
  column : {kind : ℕ} {kinds : List ℕ} {c : Content} {cs : List Content} → null_bit c ≡ kind_bit kind → Marked kinds cs → Marked (kind ∷ kinds) (c ∷ cs)

-- words of 64 bits
abbrev pub AllBelow : List ℕ → Type 0
AllBelow [] = Unit {0}
AllBelow (word ∷ words) = (word < 2 ^ 64) × AllBelow words

pub record Listed (kinds words rest : List ℕ) (cs : List Content) : Type 0 where
  pub holds : cs ≡ held_all kinds words rest
  pub fits : used_all kinds words ≤ length rest
  pub marks : Marked kinds cs
  pub sound : AllBelow words → AllSound cs

column_listed : {kind word : ℕ} {kinds words rest left : List ℕ} {c : Content} {cs : List Content} → Column kind word rest c left → Listed kinds words left cs
    → Listed (kind ∷ kinds) (word ∷ words) rest (c ∷ cs)
unfolding held_all used_all
column_listed {kind} {word} {kinds} {words} {rest} {left} {c} {cs} w l =
    let h : cs ≡ held_all kinds words (drop (used kind word) rest) = rw (← w.leaves) l.holds in
    let k : used_all kinds words ≤ length (drop (used kind word) rest) = rw w.leaves at l.fits in
    record {
      holds = rw (w.holds, h);
      fits = omega (arith, w.fits, length-drop (used kind word) rest);
      marks = column w.marks l.marks;
      sound = λ h. (w.sound h.0, l.sound h.1);
    }

pub items_listed : (kinds words rest : List ℕ) {cs : List Content} → items kinds words rest ≡ gives cs → Listed kinds words rest cs
unfolding items and_then pick held_all used_all
items_listed [] words rest {cs} e = by (eqb (length rest) 0) e
  where
    by : (t : Bool) → pick t (gives []) (refuses 15) ≡ gives cs → Listed [] words rest cs
    by true f = rw (← gives_one f) (record { holds = refl; fits = omega arith; marks = ended; sound = λ h. tt })
    by false f = absurd (gives_refuses (sym f))
items_listed (kind ∷ kinds) [] rest e = absurd (gives_refuses (sym e))
items_listed (kind ∷ kinds) (word ∷ words) rest {cs} e =
    by (item kind word rest) (item_fine kind word rest) e (λ left ds. items_listed kinds words left {cs = ds})
  where
    next : (c : Content) (left : List ℕ) → Column kind word rest c left → (b : Answer (List Content)) → ((ds : List Content) → b ≡ gives ds → Listed kinds words left ds)
        → and_then b (λ ds. gives (c ∷ ds)) ≡ gives cs → Listed (kind ∷ kinds) (word ∷ words) rest cs
    next c left w (gives ds) ih f = rw (← gives_one f) (column_listed w (ih ds refl))
    next c left w (refuses k) ih f = absurd (gives_refuses (sym f))

    by : (a : Answer (Content × List ℕ)) → Fine kind word rest a
        → and_then a (λ (c, left). and_then (items kinds words left) (λ ds. gives (c ∷ ds))) ≡ gives cs
        → ((left : List ℕ) (ds : List Content) → items kinds words left ≡ gives ds → Listed kinds words left ds) → Listed (kind ∷ kinds) (word ∷ words) rest cs
    by (gives (c, left)) w f ih = next c left w (items kinds words left) (ih left) f
    by (refuses k) w f ih = absurd (gives_refuses (sym f))

-- ---- the bitmap of the contents is that of the kinds
pub marked_length : {kinds : List ℕ} {cs : List Content} → Marked kinds cs → length cs ≡ length kinds
marked_length ended = refl
marked_length (column e m) = ap suc (marked_length m)

marked_take : {kinds : List ℕ} {cs : List Content} (n : ℕ) → Marked kinds cs → Marked (take n kinds) (take n cs)
marked_take zero m = ended
marked_take (suc n) ended = ended
marked_take (suc n) (column e m) = column e (marked_take n m)

marked_drop : {kinds : List ℕ} {cs : List Content} (n : ℕ) → Marked kinds cs → Marked (drop n kinds) (drop n cs)
marked_drop zero m = m
marked_drop (suc n) ended = ended
marked_drop (suc n) (column e m) = marked_drop n m

marked_bits : {kinds : List ℕ} {cs : List Content} → Marked kinds cs → null_bits cs ≡ kind_bits kinds
unfolding null_bits kind_bits
marked_bits ended = refl
marked_bits (column e m) = let f = marked_bits m in rw (e, f)

pub marked_map : (n : ℕ) {kinds : List ℕ} {cs : List Content} → Marked kinds cs → bitmap n cs ≡ kind_map n kinds
unfolding bitmap kind_map
marked_map zero m = refl
marked_map (suc n) m = rw (marked_bits (marked_take 8 m), marked_map n (marked_drop 8 m))
