-- A number in a word of eight bytes: the first byte with its high bit clear ends it, and the groups of seven bits up to there, with
-- the gaps between them closed, are its value.
-- Assumes nothing.
use Rattle.std.proofs.Common.{◌≡◌, ℕ, zero, suc, ◌+◌, ◌-◌, ◌*◌, ◌/◌, ◌%◌, ◌^◌, ◌<◌, ◌≤◌, Bool, true, false, ltb, List, [], ◌∷◌, length, get_or, sym, refl, ap, ◌∙◌, suc-le-suc, zero-le, le_of_suc-le-suc, mod-eq_of_lt, arith, pow-add, w8, w64, Fits, ltb-false, ltb-true, le-ltb, lt-ltb, Some}
use lib.Bits.{bit_and, and_zero_r, and_le_l, and_le_r, and_self, and_block, and_mask, and_high, shifted_half, shifted_even}
use lib.Count.{count_trailing_zeros, trailing_le}
use Rattle.paper.specs.Answer.{gives, and_then, pick}
use Rattle.field.specs.Field.{le}
use Rattle.field.proofs.Laws.{le_drop}
use Rattle.varint.specs.Leb.{taken, sum_from, read_from}
use Rattle.varint.specs.Word.{groups_at, ClosesUp, InWord}

-- ---- a word is a byte, and the word of the bytes behind it

and_byte : (a b x y : ℕ) → a < 256 → b < 256 → bit_and (a + 256 * x) (b + 256 * y) ≡ bit_and a b + 256 * bit_and x y
and_byte a b x y p q =
    let e : a + 256 * x ≡ x * 2 ^ 8 + a = omega arith in
    let f : b + 256 * y ≡ y * 2 ^ 8 + b = omega arith in
    rw (e, f, and_block 8 x y a b p q) (omega arith)

-- n bytes m
marks : ℕ → ℕ → ℕ
marks m zero = 0
marks m (suc n) = m + 256 * marks m n

-- every element is a byte
abbrev Bytes : List ℕ → Type 0
Bytes s = (i : ℕ) → Fits w8 (get_or s i 0)

le_cons : (n b : ℕ) (s : List ℕ) → le (suc n) 0 (b ∷ s) ≡ b + 256 * le n 0 s
le_cons n b s = ap (λ (x : ℕ). b + 256 * x) (sym (le_drop n 0 1 (b ∷ s)))

le_below : (n i : ℕ) (s : List ℕ) → Bytes s → le n i s ≤ marks 255 n
unfolding marks
le_below zero i s f = zero-le
le_below (suc n) i s f = let l = le_below n (suc i) s f in omega (arith, l, f i)

groups_cons : (w n i b : ℕ) (s : List ℕ) → groups_at w n (suc i) (b ∷ s) ≡ groups_at w n i s
groups_cons w zero i b s = refl
groups_cons w (suc n) i b s = ap (λ (x : ℕ). get_or s i 0 % 128 + w * x) (groups_cons w n (suc i) b s)

groups_none : (w n i : ℕ) → groups_at w n i [] ≡ 0
groups_none w zero i = refl
groups_none w (suc n) i = rw (groups_none w n (suc i)) (omega arith)

-- ---- the zeros below the lowest set bit
trailing_shifted : (j k x : ℕ) → count_trailing_zeros (j + k) (x * 2 ^ j) ≡ j + count_trailing_zeros k x
unfolding count_trailing_zeros
trailing_shifted zero k x =
    let e : x * 2 ^ 0 ≡ x = omega arith in
    let f : 0 + k ≡ k = omega arith in
    rw (e, f) (omega arith)
trailing_shifted (suc j) k x =
    let e : suc j + k ≡ suc (j + k) = omega arith in
    let f : suc j + count_trailing_zeros k x ≡ suc (j + count_trailing_zeros k x) = omega arith in
    rw (e, f, shifted_even x j, shifted_half x j) (ap suc (trailing_shifted j k x))

trailing_odd : (k x : ℕ) → x % 2 ≡ 1 → count_trailing_zeros (suc k) x ≡ 0
unfolding count_trailing_zeros
trailing_odd k x e = rw e

-- ---- the bytes that end a number have their high bit clear: that bit of each
ends : ℕ → List ℕ → ℕ
ends n s = bit_and (marks 255 n - le n 0 s) (marks 128 n)

end_bit : (b : ℕ) → b < 128 → bit_and (255 - b) 128 ≡ 128
end_bit b h =
    let e : (255 - b) / 2 ^ 7 % 2 ^ 1 ≡ 1 = omega arith in
    and_high (255 - b) 1 7 ∙ ap (λ (x : ℕ). x * 2 ^ 7) e

no_end_bit : (b : ℕ) → 128 ≤ b → b < 256 → bit_and (255 - b) 128 ≡ 0
no_end_bit b h l =
    let e : (255 - b) / 2 ^ 7 % 2 ^ 1 ≡ 0 = omega arith in
    and_high (255 - b) 1 7 ∙ ap (λ (x : ℕ). x * 2 ^ 7) e

ends_cons : (n b : ℕ) (s : List ℕ) → Bytes s → b < 256 → ends (suc n) (b ∷ s) ≡ bit_and (255 - b) 128 + 256 * ends n s
unfolding ends marks
ends_cons n b s f h =
    let l = le_below n 0 s f in
    let e : 255 + 256 * marks 255 n - (b + 256 * le n 0 s) ≡ 255 - b + 256 * (marks 255 n - le n 0 s) = omega arith in
    rw (le_cons n b s, e) (and_byte (255 - b) 128 (marks 255 n - le n 0 s) (marks 128 n) (omega arith) (omega arith))

-- ---- up to the first end
taken_end : (k b : ℕ) (s : List ℕ) → b < 128 → 1 ≤ k → taken k (b ∷ s) ≡ gives (b ∷ [])
unfolding taken pick
taken_end zero b s h l = absurd (omega arith)
taken_end (suc k) b s h l = rw (lt-ltb b 128 h)

taken_on : (n k b : ℕ) (s bs : List ℕ) → 128 ≤ b → ((k : ℕ) → n ≤ k → taken k s ≡ gives bs) → suc n ≤ k → taken k (b ∷ s) ≡ gives (b ∷ bs)
unfolding taken pick and_then
taken_on n zero b s bs h r l = absurd (omega arith)
taken_on n (suc k) b s bs h r l = rw (le-ltb b 128 h, r k (le_of_suc-le-suc l))

-- the bits above the low seven and those are none together
high_low : (n x : ℕ) → bit_and (bit_and x (marks 128 n)) (marks 127 n) ≡ 0
unfolding marks
high_low zero x = and_zero_r (bit_and x 0)
high_low (suc n) x =
    let e : x ≡ x % 256 + 256 * (x / 256) = omega arith in
    let h : bit_and (x % 256) 128 ≡ x % 256 / 2 ^ 7 % 2 ^ 1 * 2 ^ 7 = and_high (x % 256) 1 7 in
    let z : bit_and (bit_and (x % 256) 128) 127 ≡ 0 = and_mask (bit_and (x % 256) 128) 7 ∙ omega arith in
    let a : bit_and x (128 + 256 * marks 128 n) ≡ bit_and (x % 256) 128 + 256 * bit_and (x / 256) (marks 128 n)
    = ap (λ (y : ℕ). bit_and y (128 + 256 * marks 128 n)) e ∙ and_byte (x % 256) 128 (x / 256) (marks 128 n) (omega arith) (omega arith) in
    rw (a, and_byte (bit_and (x % 256) 128) 127 (bit_and (x / 256) (marks 128 n)) (marks 127 n) (omega (arith, and_le_r (x % 256) 128)) (omega arith), z, high_low n (x / 256))

-- what the word w holds below the lowest bit of e, of the bits l
abbrev kept_of : ℕ → ℕ → ℕ → ℕ
kept_of w e l = bit_and w (bit_and (e - 1) l)

module _ (b w e l : ℕ) (small : b < 256) where
  kept_here : bit_and e l ≡ 0 → kept_of (b + 256 * w) (128 + 256 * e) (127 + 256 * l) ≡ b % 128
  kept_here z =
      let d : 128 + 256 * e - 1 ≡ 127 + 256 * e = omega arith in
      let m : bit_and (127 + 256 * e) (127 + 256 * l) ≡ 127
      = and_byte 127 127 e l (omega arith) (omega arith) ∙ rw (z, and_self 127) in
      rw (d, m) (and_mask (b + 256 * w) 7 ∙ omega arith)

  kept_later : (e ≡ 0 → ⊥) → kept_of (b + 256 * w) (256 * e) (127 + 256 * l) ≡ b % 128 + 256 * kept_of w e l
  kept_later some =
      let d : 256 * e - 1 ≡ 255 + 256 * (e - 1) = omega arith in
      let m : bit_and (255 + 256 * (e - 1)) (127 + 256 * l) ≡ 127 + 256 * bit_and (e - 1) l
      = and_byte 255 127 (e - 1) l (omega arith) (omega arith) ∙ ap (λ (x : ℕ). x + 256 * bit_and (e - 1) l) (and_mask 255 7) in
      rw (d, m) (and_byte b 127 w (bit_and (e - 1) l) small (omega arith) ∙ ap (λ (x : ℕ). x + 256 * kept_of w e l) (and_mask b 7))

zeros_here : (n e : ℕ) → count_trailing_zeros (8 * suc n) (128 + 256 * e) ≡ 7
zeros_here n e =
    let c : 8 * suc n ≡ 7 + suc (8 * n) = omega arith in
    let y : 128 + 256 * e ≡ (2 * e + 1) * 2 ^ 7 = omega arith in
    let o : (2 * e + 1) % 2 ≡ 1 = omega arith in
    rw (c, y, trailing_shifted 7 (suc (8 * n)) (2 * e + 1), trailing_odd (8 * n) (2 * e + 1) o)

zeros_later : (n e : ℕ) → count_trailing_zeros (8 * suc n) (256 * e) ≡ 8 + count_trailing_zeros (8 * n) e
zeros_later n e =
    let c : 8 * suc n ≡ 8 + 8 * n = omega arith in
    let y : 256 * e ≡ e * 2 ^ 8 = omega arith in
    rw (c, y, trailing_shifted 8 (8 * n) e)

-- ---- the bytes up to the first end, and what the word holds of them
record Ended (n : ℕ) (s : List ℕ) : Type 0 where
  bytes : List ℕ
  read : (k : ℕ) → n ≤ k → taken k s ≡ gives bytes
  most : length bytes ≤ n
  zeros : count_trailing_zeros (8 * n) (ends n s) + 1 ≡ 8 * length bytes
  kept : kept_of (le n 0 s) (ends n s) (marks 127 n) ≡ groups_at 256 n 0 bytes

module _ (n b : ℕ) (s : List ℕ) (f : Bytes s) (small : b < 256) where
  ended_here : b < 128 → Ended (suc n) (b ∷ s)
  unfolding ends marks
  ended_here h =
      let e : ends (suc n) (b ∷ s) ≡ 128 + 256 * ends n s = ends_cons n b s f small ∙ ap (λ (x : ℕ). x + 256 * ends n s) (end_bit b h) in
      let g : groups_at 256 n 1 (b ∷ []) ≡ 0 = groups_cons 256 n 0 b [] ∙ groups_none 256 n 0 in
      record {
        bytes = b ∷ [];
        read = λ k l. taken_end k b s h (omega (arith, l));
        most = suc-le-suc zero-le;
        zeros = rw (e, zeros_here n (ends n s));
        kept = rw (e, le_cons n b s, kept_here b (le n 0 s) (ends n s) (marks 127 n) small (high_low n (marks 255 n - le n 0 s)), g) (omega arith);
      }

  no_end : 128 ≤ b → ends (suc n) (b ∷ s) ≡ 256 * ends n s
  no_end h = ends_cons n b s f small ∙ rw (no_end_bit b h small) (omega arith)

  ended_later : 128 ≤ b → (ends n s ≡ 0 → ⊥) → Ended n s → Ended (suc n) (b ∷ s)
  unfolding marks
  ended_later h some r =
      let z = r.zeros in
      record {
        bytes = b ∷ r.bytes;
        read = λ k l. taken_on n k b s r.bytes h r.read l;
        most = suc-le-suc r.most;
        zeros = rw (no_end h, zeros_later n (ends n s)) (omega arith);
        kept =
            rw (no_end h, le_cons n b s, kept_later b (le n 0 s) (ends n s) (marks 127 n) small some, r.kept, groups_cons 256 n 0 b r.bytes);
      }

ended : (n : ℕ) (s : List ℕ) → Bytes s → n ≤ length s → (ends n s ≡ 0 → ⊥) → Ended n s
unfolding ends marks
ended zero s f l h = absurd (h refl)
ended (suc n) [] f l h = absurd (omega arith)
ended (suc n) (b ∷ s) f l h = by (ltb b 128) refl (ended n s (λ i. f (suc i)) (le_of_suc-le-suc l))
  where
    small : b < 256
    small = omega (arith, f 0)

    by : (t : Bool) → ltb b 128 ≡ t → ((ends n s ≡ 0 → ⊥) → Ended n s) → Ended (suc n) (b ∷ s)
    by true t ih = ended_here n b s (λ i. f (suc i)) small (ltb-true b 128 t)
    by false t ih =
        let g : 128 ≤ b = ltb-false b 128 t in
        let some : ends n s ≡ 0 → ⊥ = λ z. h (no_end n b s (λ i. f (suc i)) small g ∙ rw z) in
        ended_later n b s (λ i. f (suc i)) small g some (ih some)

-- ---- the number
sum_groups : (n i : ℕ) (bs : List ℕ) → length bs ≤ n → sum_from i bs ≡ groups_at 128 n 0 bs * 2 ^ (7 * i)
unfolding sum_from
sum_groups n i [] l = rw (groups_none 128 n 0) (omega arith)
sum_groups zero i (b ∷ bs) l = absurd (omega arith)
sum_groups (suc n) i (b ∷ bs) l =
    let f : 7 * (i + 1) ≡ 7 + 7 * i = omega arith in
    let d : sum_from (i + 1) bs ≡ groups_at 128 n 0 bs * (128 * 2 ^ (7 * i))
    = sum_groups n (i + 1) bs (le_of_suc-le-suc l) ∙ ap (λ (x : ℕ). groups_at 128 n 0 bs * x) (rw f (pow-add 2 7 (7 * i))) in
    rw (d, groups_cons 128 n 0 b bs) (omega arith)

number_read : (s bs : List ℕ) {v : ℕ} → taken 10 s ≡ gives bs → v ≡ sum_from 0 bs → v < 2 ^ 64 → gives (v, length bs) ≡ read_from s
unfolding read_from and_then
number_read s bs t e f = rw (t, ← e, mod-eq_of_lt f)

module _ (s : List ℕ) (f : Bytes s) (l : 8 ≤ length s) {w : ℕ} (e : w ≡ le 8 0 s) where
  pub word_found : {v : ℕ} → (bit_and (2 ^ 64 - 1 - w) 0x8080_8080_8080_8080 ≡ 0 → ⊥)
      → ClosesUp (kept_of w (bit_and (2 ^ 64 - 1 - w) 0x8080_8080_8080_8080) 0x7F7F_7F7F_7F7F_7F7F) v → Fits w64 v
      → InWord s (Some (v, count_trailing_zeros 64 (bit_and (2 ^ 64 - 1 - w) 0x8080_8080_8080_8080) / 8 + 1))
  unfolding ends marks
  word_found {v} h c k =
      let d : bit_and (2 ^ 64 - 1 - w) 0x8080_8080_8080_8080 ≡ ends 8 s = ap (λ (x : ℕ). bit_and (2 ^ 64 - 1 - x) 0x8080_8080_8080_8080) e in
      let r = ended 8 s f l (rw d at h) in
      let z : count_trailing_zeros 64 (ends 8 s) + 1 ≡ 8 * length r.bytes = r.zeros in
      let n : count_trailing_zeros 64 (ends 8 s) / 8 + 1 ≡ length r.bytes = omega arith in
      let o : v ≡ groups_at 128 8 0 r.bytes = c.same r.bytes (rw (d, e) r.kept) in
      let g : v ≡ sum_from 0 r.bytes = o ∙ omega (arith, sum_groups 8 0 r.bytes r.most) in
      let q : v < 2 ^ 64 = k.fits in
      rw (d, n) (r.most, number_read s r.bytes (r.read 10 (omega arith)) g q)

-- ---- the gaps between the groups
and_odd : (j m k a b x y : ℕ) → b * 2 ^ j + a < 2 ^ k → 2 ^ (m + j) - 2 ^ j < 2 ^ k → (b * 2 ^ j + a) / 2 ^ j % 2 ^ m ≡ b
    → bit_and (x * 2 ^ k + (b * 2 ^ j + a)) (y * 2 ^ k + (2 ^ (m + j) - 2 ^ j)) ≡ bit_and x y * 2 ^ k + b * 2 ^ j
and_odd j m k a b x y p q r =
    and_block k x y (b * 2 ^ j + a) (2 ^ (m + j) - 2 ^ j) p q
    ∙ ap (λ (z : ℕ). bit_and x y * 2 ^ k + z) (and_high (b * 2 ^ j + a) m j ∙ ap (λ (z : ℕ). z * 2 ^ j) r)

odd_byte : (a b x y : ℕ) → a < 128 → b < 128 → bit_and (x * 2 ^ 16 + (b * 2 ^ 8 + a)) (y * 2 ^ 16 + 0x7F00) ≡ bit_and x y * 2 ^ 16 + b * 2 ^ 8
odd_byte a b x y p q = and_odd 8 7 16 a b x y (omega arith) (omega arith) (omega arith)

odd_two : (a b x y : ℕ) → a < 2 ^ 14 → b < 2 ^ 14 → bit_and (x * 2 ^ 32 + (b * 2 ^ 16 + a)) (y * 2 ^ 32 + 0x3FFF_0000) ≡ bit_and x y * 2 ^ 32 + b * 2 ^ 16
odd_two a b x y p q = and_odd 16 14 32 a b x y (omega arith) (omega arith) (omega arith)

-- twos of bytes, fours of twos, and the two fours
abbrev twos_of : ℕ → ℕ
twos_of x = x - bit_and x 0x7F00_7F00_7F00_7F00 / 2

abbrev fours_of : ℕ → ℕ
fours_of x = x - bit_and x 0x3FFF_0000_3FFF_0000 / 4 * 3

abbrev eight_of : ℕ → ℕ
eight_of x = x % 0x1_0000_0000 + x / 0x1_0000_0000 * 0x1000_0000

module _ (a b c d : ℕ) (p : a < 2 ^ 14) (q : b < 2 ^ 14) (r : c < 2 ^ 14) (s : d < 2 ^ 14) where
  fours_close : fours_of ((0 * 2 ^ 32 + (d * 2 ^ 16 + c)) * 2 ^ 32 + (b * 2 ^ 16 + a)) ≡ a + 2 ^ 14 * b + 2 ^ 32 * (c + 2 ^ 14 * d)
  fours_close =
      let o : bit_and ((0 * 2 ^ 32 + (d * 2 ^ 16 + c)) * 2 ^ 32 + (b * 2 ^ 16 + a)) 0x3FFF_0000_3FFF_0000 ≡ (0 * 2 ^ 32 + d * 2 ^ 16) * 2 ^ 32 + b * 2 ^ 16
      = odd_two a b (0 * 2 ^ 32 + (d * 2 ^ 16 + c)) 0x3FFF_0000 p q ∙ ap (λ (x : ℕ). x * 2 ^ 32 + b * 2 ^ 16) (odd_two c d 0 0 r s) in
      rw o (omega arith)

  eight_close : eight_of (a + 2 ^ 14 * b + 2 ^ 32 * (c + 2 ^ 14 * d)) ≡ a + 2 ^ 14 * (b + 2 ^ 14 * (c + 2 ^ 14 * d))
  eight_close = omega arith

module _ (a b c d e f g h : ℕ) (p : a < 128) (q : b < 128) (r : c < 128) (s : d < 128) (t : e < 128) (u : f < 128) (v : g < 128) (w : h < 128) where
  twos_close : twos_of (a + 256 * (b + 256 * (c + 256 * (d + 256 * (e + 256 * (f + 256 * (g + 256 * (h + 256 * 0))))))))
      ≡ (0 * 2 ^ 32 + ((g + 128 * h) * 2 ^ 16 + (e + 128 * f))) * 2 ^ 32 + ((c + 128 * d) * 2 ^ 16 + (a + 128 * b))
  twos_close =
      let x : a + 256 * (b + 256 * (c + 256 * (d + 256 * (e + 256 * (f + 256 * (g + 256 * (h + 256 * 0)))))))
      ≡ (((0 * 2 ^ 16 + (h * 2 ^ 8 + g)) * 2 ^ 16 + (f * 2 ^ 8 + e)) * 2 ^ 16 + (d * 2 ^ 8 + c)) * 2 ^ 16 + (b * 2 ^ 8 + a) = omega arith in
      let o : bit_and ((((0 * 2 ^ 16 + (h * 2 ^ 8 + g)) * 2 ^ 16 + (f * 2 ^ 8 + e)) * 2 ^ 16 + (d * 2 ^ 8 + c)) * 2 ^ 16 + (b * 2 ^ 8 + a)) 0x7F00_7F00_7F00_7F00
      ≡ (((0 * 2 ^ 16 + h * 2 ^ 8) * 2 ^ 16 + f * 2 ^ 8) * 2 ^ 16 + d * 2 ^ 8) * 2 ^ 16 + b * 2 ^ 8
      = odd_byte a b (((0 * 2 ^ 16 + (h * 2 ^ 8 + g)) * 2 ^ 16 + (f * 2 ^ 8 + e)) * 2 ^ 16 + (d * 2 ^ 8 + c)) 0x7F00_7F00_7F00 p q
      ∙ ap (λ (x : ℕ). x * 2 ^ 16 + b * 2 ^ 8)
      (odd_byte c d ((0 * 2 ^ 16 + (h * 2 ^ 8 + g)) * 2 ^ 16 + (f * 2 ^ 8 + e)) 0x7F00_7F00 r s
      ∙ ap (λ (x : ℕ). x * 2 ^ 16 + d * 2 ^ 8)
      (odd_byte e f (0 * 2 ^ 16 + (h * 2 ^ 8 + g)) 0x7F00 t u ∙ ap (λ (x : ℕ). x * 2 ^ 16 + f * 2 ^ 8) (odd_byte g h 0 0 v w))) in
      rw (x, o) (omega arith)

  bytes_close : eight_of (fours_of (twos_of (a + 256 * (b + 256 * (c + 256 * (d + 256 * (e + 256 * (f + 256 * (g + 256 * (h + 256 * 0))))))))))
      ≡ a + 128 * (b + 128 * (c + 128 * (d + 128 * (e + 128 * (f + 128 * (g + 128 * (h + 128 * 0)))))))
  bytes_close =
      let k : a + 128 * b < 2 ^ 14 = omega arith in
      let l : c + 128 * d < 2 ^ 14 = omega arith in
      let m : e + 128 * f < 2 ^ 14 = omega arith in
      let n : g + 128 * h < 2 ^ 14 = omega arith in
      ap (λ (x : ℕ). eight_of (fours_of x)) twos_close
      ∙ ap eight_of (fours_close (a + 128 * b) (c + 128 * d) (e + 128 * f) (g + 128 * h) k l m n)
      ∙ eight_close (a + 128 * b) (c + 128 * d) (e + 128 * f) (g + 128 * h) k l m n
      ∙ omega arith

pub closes_up : (x : ℕ) → ClosesUp x (eight_of (fours_of (twos_of x)))
closes_up x = record { same = λ s e. rw e (bytes_close _ _ _ _ _ _ _ _ (low s 0) (low s 1) (low s 2) (low s 3) (low s 4) (low s 5) (low s 6) (low s 7)) }
  where
    low : (s : List ℕ) (i : ℕ) → get_or s i 0 % 128 < 128
    low s i = omega arith

pub ruleset words = (and_le_l, trailing_le, closes_up, word_found)
