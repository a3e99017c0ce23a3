-- What callers know of a number that was read or written. They cite these laws and open no definition.
-- Assumes nothing.
use Rattle.std.proofs.Common.{◌≡◌, ℕ, zero, suc, ◌+◌, ◌-◌, ◌%◌, ◌^◌, ◌<◌, ◌≤◌, Bool, true, false, ltb, List, [], ◌∷◌, ◌++◌, length, take, drop, sym, refl, ap, append_assoc, suc-le-suc, zero-le, mod-lt, arith, take-append-drop, take-add, pow_pos, ltb-false, ltb-true, le-ltb, lt-ltb}
use Rattle.paper.specs.Answer.{Answer, gives, refuses, and_then, pick}
use Rattle.paper.proofs.Laws.{gives_one, gives_refuses, first, second}
use Rattle.varint.specs.Leb.{taken, sum_from, read_from}

-- ---- the bytes taken

-- they are the first bytes of the list: one at least, and no more than were allowed
pub record Taken (k : ℕ) (s bs : List ℕ) : Type 0 where
  pub some : 1 ≤ length bs
  pub most : length bs ≤ k
  pub inside : length bs ≤ length s
  pub front : bs ≡ take (length bs) s
  -- and whatever stands behind them, they are the bytes taken
  pub anywhere : (t : List ℕ) → taken k (bs ++ t) ≡ gives bs

module _ (k b : ℕ) (s : List ℕ) where
  taken_last : b < 128 → Taken (suc k) (b ∷ s) (b ∷ [])
  unfolding taken pick
  taken_last l =
      record {
        some = suc-le-suc zero-le;
        most = suc-le-suc zero-le;
        inside = suc-le-suc zero-le;
        front = refl;
        anywhere = λ t. rw (lt-ltb b 128 l);
      }

  taken_more : 128 ≤ b → {cs : List ℕ} → Taken k s cs → Taken (suc k) (b ∷ s) (b ∷ cs)
  unfolding taken pick and_then
  taken_more l {cs} w =
      record {
        some = suc-le-suc zero-le;
        most = suc-le-suc w.most;
        inside = suc-le-suc w.inside;
        front = ap (λ (r : List ℕ). b ∷ r) w.front;
        anywhere = λ t. rw (le-ltb b 128 l, w.anywhere t);
      }

pub taken_is : (k : ℕ) (s : List ℕ) {bs : List ℕ} → taken k s ≡ gives bs → Taken k s bs
unfolding taken pick and_then
taken_is zero s e = absurd (gives_refuses (sym e))
taken_is (suc k) [] e = absurd (gives_refuses (sym e))
taken_is (suc k) (b ∷ s) {bs} e = by (ltb b 128) refl (taken k s) refl e (λ cs. taken_is k s {bs = cs})
  where
    by : (t : Bool) → ltb b 128 ≡ t → (a : Answer (List ℕ)) → taken k s ≡ a
        → pick t (gives (b ∷ [])) (and_then a (λ cs. gives (b ∷ cs))) ≡ gives bs
        → ((cs : List ℕ) → taken k s ≡ gives cs → Taken k s cs) → Taken (suc k) (b ∷ s) bs
    by true t a h f ih = rw (← gives_one f) (taken_last k b s (ltb-true b 128 t))
    by false t (gives cs) h f ih = rw (← gives_one f) (taken_more k b s (ltb-false b 128 t) (ih cs h))
    by false t (refuses n) h f ih = absurd (gives_refuses (sym f))

-- ---- a number that was read
pub record Read (s : List ℕ) (v n : ℕ) : Type 0 where
  pub some : 1 ≤ n
  pub most : n ≤ 10
  pub inside : n ≤ length s
  pub fits : v < 2 ^ 64
  -- its bytes read the same with anything behind them
  pub anywhere : (t : List ℕ) → read_from (take n s ++ t) ≡ gives (v, n)

pub read_is : (s : List ℕ) {v n : ℕ} → read_from s ≡ gives (v, n) → Read s v n
unfolding read_from and_then
read_is s {v} {n} e = by (taken 10 s) refl e
  where
    by : (a : Answer (List ℕ)) → taken 10 s ≡ a
        → and_then {B = ℕ × ℕ} a (λ bs. gives (sum_from 0 bs % 2 ^ 64, length bs)) ≡ gives (v, n) → Read s v n
    by (gives bs) h f =
        let w = taken_is 10 s h in
        let d : sum_from 0 bs % 2 ^ 64 ≡ v = ap first (gives_one f) in
        let l : length bs ≡ n = ap second (gives_one f) in
        record {
          some = rw l at w.some;
          most = rw l at w.most;
          inside = rw l at w.inside;
          fits = rw (← d) (mod-lt (sum_from 0 bs) (pow_pos 64));
          anywhere = λ t. rw (← l, ← w.front, w.anywhere t, d);
        }
    by (refuses k) h f = absurd (gives_refuses (sym f))

module _ (s : List ℕ) {v n : ℕ} (e : read_from s ≡ gives (v, n)) where
  -- with more behind the list
  pub read_append : (t : List ℕ) → read_from (s ++ t) ≡ gives (v, n)
  read_append t =
      let w = read_is s e in
      let d : s ++ t ≡ take n s ++ (drop n s ++ t) = rw (← append_assoc (take n s) (drop n s) t, take-append-drop n s) in
      rw d (w.anywhere (drop n s ++ t))

  -- with less behind the number
  pub read_take : (k : ℕ) → n ≤ k → read_from (take k s) ≡ gives (v, n)
  read_take k l =
      let w = read_is s e in
      let d : k ≡ n + (k - n) = omega arith in
      rw (d, take-add n (k - n) s) (w.anywhere (take (k - n) (drop n s)))
