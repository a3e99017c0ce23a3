-- ASCII is text, and may be passed over.
-- Assumes nothing.
use Rattle.std.proofs.Common.{◌≡◌, refl, sym, ap, ◌∙◌, ℕ, suc, ◌+◌, ◌-◌, ◌<◌, true, List, [], ◌∷◌, ◌++◌, length, take, drop, append_assoc, arith, fold, bit_or, nat_lt, IsTrue, IsAscii, ltb-true, ◌^◌, ◌↔◌, lit<}
use borrow.Author.Tests.{lt-ltb}
use Rattle.std.proofs.lemmas.List.{append-nil, take-append-drop, length-append, drop-drop}
use Rattle.std.proofs.Math.Seq.{drop-append_seam}
use Rattle.std.proofs.lemmas.Nat.{le_or_l, le_or_r, or_lt}
use Rattle.std.proofs.lemmas.Str.Ascii.{IsAscii-nil, IsAscii-cons, IsAscii-from_reads}
use Rattle.std.proofs.lemmas.Str.{IsAscii-take, IsAscii-drop, IsAscii-append}
use Rattle.paper.specs.Answer.{pick}
use Rattle.utf8.specs.Table.{◌‥◌, table}
use Rattle.utf8.specs.WellFormed.{begun, after, completes, whole, well_formed}
use Rattle.utf8.specs.Ascii.{Plain, Past}
use Rattle.utf8.proofs.Rows.{inside_in}

-- bytes are below 80 each exactly if their bits together are
each_below : (a : ℕ) (s : List ℕ) → fold bit_or a s < 128 → (a < 128) × IsAscii s
each_below a [] h = (h, IsAscii-nil)
each_below a (b ∷ s) h =
    let below = each_below (bit_or a b) s h in
    (omega (arith, le_or_l a b, below.0), IsAscii-cons b s (omega (arith, le_or_r a b, below.0)) below.1)

all_below : (a : ℕ) (s : List ℕ) → a < 2 ^ 7 → IsAscii s → fold bit_or a s < 128
all_below a [] l h = l
all_below a (b ∷ s) l h = all_below (bit_or a b) s (or_lt 7 a b l (h 0)) (λ i. h (suc i))

pub or_ascii : {all : ℕ} (s : List ℕ) → all ≡ fold bit_or 0 s → IsTrue (nat_lt all 128) ↔ IsAscii s
or_ascii s e = (λ h. (each_below 0 s (rw e at (ltb-true _ _ h))).1, λ h. lt-ltb _ _ (rw e (all_below 0 s (lit< tt) h)))

ascii_one : (b : ℕ) (s : List ℕ) → b < 128 → well_formed (b ∷ s) ≡ well_formed s
unfolding well_formed completes after begun table pick
ascii_one b s h = ap (λ o. completes o s) (rw (inside_in (0x00 ‥ 0x7F) b (omega arith)))

-- what stands behind ASCII decides
pub ascii_past : (u t : List ℕ) → IsAscii u → well_formed (u ++ t) ≡ well_formed t
ascii_past [] t a = refl
ascii_past (b ∷ u) t a = ascii_one b (u ++ t) (a 0) ∙ ascii_past u t (λ i. a (suc i))

pub ascii_text : (s : List ℕ) → IsAscii s → well_formed s ≡ true
unfolding well_formed completes whole
ascii_text s a = rw append-nil at (ascii_past s [] a)

-- any part of it is a text
pub ascii_part : (s : List ℕ) → IsAscii s → (n from : ℕ) → well_formed (take n (drop from s)) ≡ true
ascii_part s a n from = ascii_text _ (IsAscii-take _ n (IsAscii-drop s from a))

pub plain_part : {s : List ℕ} → Plain s 0 (length s) → (n from : ℕ) → well_formed (take n (drop from s)) ≡ true
plain_part {s} p = ascii_part s (IsAscii-from_reads s (length s) (omega arith) (λ i l. p.ascii i (omega arith) l))

-- ---- from place to place

pub past_none : (s : List ℕ) → Past s s
past_none s = record { passed = []; ascii = λ i. omega arith; split = refl }

pub past_more : (n : ℕ) {s rest words more : List ℕ} → Past s rest → words ≡ take n rest → more ≡ drop n rest → IsAscii words → Past s more
past_more n {s} {rest} {words} {more} p w m a =
    record {
      passed = p.passed ++ words;
      ascii = IsAscii-append p.passed words p.ascii a;
      split = append_assoc p.passed words more ∙ ap (λ t. p.passed ++ t) (rw (w, m) (take-append-drop n rest)) ∙ p.split;
    }

pub past_both : {s rest more : List ℕ} → Past s rest → Past rest more → Past s more
past_both p q =
    record {
      passed = p.passed ++ q.passed;
      ascii = IsAscii-append p.passed q.passed p.ascii q.ascii;
      split = append_assoc p.passed q.passed _ ∙ ap (λ t. p.passed ++ t) q.split ∙ p.split;
    }

pub past_same : {s rest : List ℕ} → Past s rest → well_formed rest ≡ well_formed s
past_same p = sym (ascii_past p.passed _ p.ascii) ∙ ap well_formed p.split

-- fewer than eight bytes are left, and the last eight are ASCII
pub past_all : {s rest : List ℕ} → Past s rest → length rest < 8 → IsAscii (drop (length s - 8) s) → IsAscii s
past_all {s} {rest} p l a =
    let n : ℕ = length p.passed in
    let k : (length s - 8) + (n - (length s - 8)) ≡ n = omega (arith, ap length p.split, length-append p.passed rest) in
    let e : drop (n - (length s - 8)) (drop (length s - 8) s) ≡ rest = drop-drop (n - (length s - 8)) (length s - 8) s ∙ ap (λ m. drop m s) k ∙ ap (drop n) (sym p.split) ∙ drop-append_seam p.passed rest in
    rw p.split at (IsAscii-append p.passed rest p.ascii (rw e at (IsAscii-drop (drop (length s - 8) s) (n - (length s - 8)) a)))

pub past_last : {s rest : List ℕ} → Past s rest → length rest < 8 → IsAscii (drop (length s - 8) s) → well_formed s ≡ true
past_last {s} p l a = ascii_text s (past_all p l a)

pub plain_all : {s : List ℕ} → IsAscii s → Plain s 0 (length s)
plain_all a = record { ahead = omega arith; inside = omega arith; ascii = λ i f l. a i }
