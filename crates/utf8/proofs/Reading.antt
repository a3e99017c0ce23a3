-- A text is read part by part.
-- Assumes nothing.
use Rattle.std.proofs.Common.{◌≡◌, refl, sym, ap, ◌∙◌, ℕ, true, false, List, [], ◌∷◌, ◌++◌, take, drop, fold}
use Rattle.std.proofs.Math.Option.{Option, none, some}
use Rattle.std.proofs.lemmas.List.{append-nil, take-append-drop}
use Rattle.utf8.specs.Table.{Row}
use Rattle.utf8.specs.WellFormed.{after, whole, completes, well_formed}
use Rattle.utf8.specs.Machine.{no_row}
use Rattle.utf8.specs.Ascii.{Past}
use Rattle.utf8.proofs.Rows.{nowhere}
use Rattle.utf8.proofs.Ascii.{past_same}

read_part : (left : Option Row) (u t : List ℕ) → completes left (u ++ t) ≡ completes (fold after left u) t
unfolding completes
read_part left [] t = refl
read_part left (b ∷ u) t = read_part (after left b) u t

is_no_row : (left : Option Row) → true ≡ no_row left → left ≡ none
unfolding no_row
is_no_row none h = refl
is_no_row (some left) h = cc

is_whole : (left : Option Row) → true ≡ whole left → left ≡ some []
unfolding whole
is_whole none h = cc
is_whole (some []) h = refl
is_whole (some (r ∷ rs)) h = cc

-- with this left of the row that was begun, the rest is as good a text as all of s
pub record Reads (s : List ℕ) (left : Option Row) (rest : List ℕ) : Type 0 where
  pub same : completes left rest ≡ well_formed s

pub reads_all : {left : Option Row} (s : List ℕ) → left ≡ some [] → Reads s left s
unfolding well_formed
reads_all s e = record { same = ap (λ o. completes o s) e }

-- the same behind ASCII
pub reads_behind : {left : Option Row} {s rest : List ℕ} → left ≡ some [] → Past s rest → Reads s left rest
unfolding well_formed
reads_behind {left} {s} {rest} e p = record { same = ap (λ o. completes o rest) e ∙ past_same p }

module _ {s rest : List ℕ} {left : Option Row} (r : Reads s left rest) where
  pub read_word : (n : ℕ) {next : Option Row} {word more : List ℕ} → word ≡ take n rest → more ≡ drop n rest → next ≡ fold after left word → Reads s next more
  read_word n {next} {word} {more} w m f =
      record { same = rw (f, w, m) (sym (read_part left (take n rest) (drop n rest)) ∙ ap (completes left) (take-append-drop n rest) ∙ r.same) }

  pub read_last : {next : Option Row} → next ≡ fold after left rest → whole next ≡ well_formed s
  unfolding completes
  read_last f = rw f (sym (read_part left rest []) ∙ ap (completes left) (append-nil rest) ∙ r.same)

  pub read_dead : true ≡ no_row left → false ≡ well_formed s
  read_dead h = sym (nowhere rest) ∙ ap (λ o. completes o rest) (sym (is_no_row left h)) ∙ r.same

  -- between two rows ASCII may be passed over
  pub read_past : {past : List ℕ} → true ≡ whole left → Past rest past → Reads s left past
  unfolding well_formed
  read_past {past} h p =
      record { same = ap (λ o. completes o past) (is_whole left h) ∙ past_same p ∙ ap (λ o. completes o rest) (sym (is_whole left h)) ∙ r.same }
