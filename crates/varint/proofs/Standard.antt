-- Reading and writing against the DWARF standard's LEB128.
-- Assumes nothing.
use Rattle.std.proofs.Common.{◌≡◌, ℕ, zero, suc, ◌+◌, ◌-◌, ◌*◌, ◌/◌, ◌%◌, ◌^◌, ◌<◌, ◌≤◌, Bool, true, false, ltb, List, [], ◌∷◌, ◌++◌, length, get_or, take, sym, refl, ap, ◌∙◌, suc-le-suc, zero-le, le_of_suc-le-suc, not-suc-le-zero, mod-eq_of_lt, arith, pow_mono, pow-add, shr_lt, ltb-false, ltb-true, le-ltb, lt-ltb}
use Rattle.paper.specs.Answer.{Answer, gives, refuses, and_then, pick}
use Rattle.paper.proofs.Laws.{gives_one, gives_refuses, first, second}
use Rattle.varint.specs.Leb.{taken, sum_from, read_from, groups, leb_bytes, len_u64}
use Rattle.varint.specs.Standard.{Leb128, last, more, Bytes}
use Rattle.varint.proofs.Laws.{taken_is}
use Rattle.varint.proofs.Limits.{groups_last, groups_more, groups_most}

-- ---- reading: every sequence of at most ten bytes is accepted, whatever stands behind it, and read modulo 2 ^ 64

sequence_taken : {bytes : List ℕ} {m : ℕ} → Leb128 bytes m → (k : ℕ) (t : List ℕ) → length bytes ≤ k → taken k (bytes ++ t) ≡ gives bytes
unfolding taken pick and_then
sequence_taken (last h) zero t l = absurd (not-suc-le-zero l)
sequence_taken (last {group = g} h) (suc k) t l = rw (lt-ltb g 128 h)
sequence_taken (more h r) zero t l = absurd (not-suc-le-zero l)
sequence_taken (more {group = g} h r) (suc k) t l =
    rw (le-ltb (128 + g) 128 (omega arith), sequence_taken r k t (le_of_suc-le-suc l))

sequence_sum : {bytes : List ℕ} {m : ℕ} → Leb128 bytes m → (i : ℕ) → sum_from i bytes ≡ m * 2 ^ (7 * i)
unfolding sum_from
sequence_sum (last {group = g} h) i = let e : g % 128 ≡ g = omega arith in rw e (omega arith)
sequence_sum (more {group = g} {rest = m} {bytes = bs} h r) i =
    let e : (128 + g) % 128 ≡ g = omega arith in
    let f : 7 * (i + 1) ≡ 7 + 7 * i = omega arith in
    let d : sum_from (i + 1) bs ≡ m * (128 * 2 ^ (7 * i)) = sequence_sum r (i + 1) ∙ ap (λ (x : ℕ). m * x) (rw f (pow-add 2 7 (7 * i))) in
    rw (e, d) (omega arith)

pub sequence_read : {bytes : List ℕ} {m : ℕ} → Leb128 bytes m → length bytes ≤ 10 → (t : List ℕ)
    → read_from (bytes ++ t) ≡ gives (m % 2 ^ 64, length bytes)
unfolding read_from and_then
sequence_read {bytes} {m} q l t =
    let e : sum_from 0 bytes ≡ m = sequence_sum q 0 ∙ omega arith in
    rw (sequence_taken q 10 t l, e)

-- ---- and what is accepted is a sequence
taken_sequence : (k : ℕ) (s : List ℕ) {bs : List ℕ} → Bytes s → taken k s ≡ gives bs → (m : ℕ) × Leb128 bs m
unfolding taken pick and_then
taken_sequence zero s b e = absurd (gives_refuses (sym e))
taken_sequence (suc k) [] b e = absurd (gives_refuses (sym e))
taken_sequence (suc k) (x ∷ s) {bs} b e = by (ltb x 128) refl (taken k s) refl e (λ cs. taken_sequence k s {bs = cs} b.1)
  where
    by : (t : Bool) → ltb x 128 ≡ t → (a : Answer (List ℕ)) → taken k s ≡ a
        → pick t (gives (x ∷ [])) (and_then a (λ cs. gives (x ∷ cs))) ≡ gives bs
        → ((cs : List ℕ) → taken k s ≡ gives cs → (m : ℕ) × Leb128 cs m) → (m : ℕ) × Leb128 bs m
    by true t a h f ih = rw (← gives_one f) (x, last (ltb-true x 128 t))
    by false t (gives cs) h f ih =
        let (m, q) = ih cs h in
        let u : 128 ≤ x = ltb-false x 128 t in
        let v : x < 256 = b.0 in
        let g : 128 + (x - 128) ≡ x = omega arith in
        let o : x - 128 < 128 = omega arith in
        rw (← gives_one f) (x - 128 + 128 * m, rw g at (more {group = x - 128} o q))
    by false t (refuses n) h f ih = absurd (gives_refuses (sym f))

-- the bytes read are a sequence, and the number is its value modulo 2 ^ 64
pub record ReadAs (bytes : List ℕ) (v : ℕ) : Type 0 where
  pub value : ℕ
  pub sequence : Leb128 bytes value
  pub modulo : v ≡ value % 2 ^ 64

pub read_sequence : (s : List ℕ) {v n : ℕ} → Bytes s → read_from s ≡ gives (v, n) → ReadAs (take n s) v
unfolding read_from and_then
read_sequence s {v} {n} b e = by (taken 10 s) refl e
  where
    with_value : (bs : List ℕ) (m : ℕ) → Leb128 bs m → sum_from 0 bs % 2 ^ 64 ≡ v → ReadAs bs v
    with_value bs m q d =
        let z : sum_from 0 bs ≡ m = sequence_sum q 0 ∙ omega arith in
        record { value = m; sequence = q; modulo = sym (rw z at d) }

    by : (a : Answer (List ℕ)) → taken 10 s ≡ a
        → and_then {B = ℕ × ℕ} a (λ bs. gives (sum_from 0 bs % 2 ^ 64, length bs)) ≡ gives (v, n) → ReadAs (take n s) v
    by (gives bs) h f =
        let (m, q) = taken_sequence 10 s b h in
        let w = taken_is 10 s h in
        let d : sum_from 0 bs % 2 ^ 64 ≡ v = ap first (gives_one f) in
        let l : length bs ≡ n = ap second (gives_one f) in
        let g : bs ≡ take n s = rw l at w.front in
        rw (← g) (with_value bs m q d)
    by (refuses k) h f = absurd (gives_refuses (sym f))

sequence_some : {bytes : List ℕ} {m : ℕ} → Leb128 bytes m → 1 ≤ length bytes
sequence_some (last h) = suc-le-suc zero-le
sequence_some (more h r) = suc-le-suc zero-le

-- the value is below what its last byte allows
sequence_below : {bytes : List ℕ} {m : ℕ} → Leb128 bytes m → (k : ℕ) → length bytes ≡ suc k → m < suc (get_or bytes k 0) * 2 ^ (7 * k)
sequence_below (last h) zero e = omega arith
sequence_below (last h) (suc k) e = absurd (omega (arith, e))
sequence_below (more h r) zero e = absurd (omega (arith, e, sequence_some r))
sequence_below (more {group = g} {rest = m} {bytes = bs} h r) (suc k) e =
    let l : m < suc (get_or bs k 0) * 2 ^ (7 * k) = sequence_below r k (omega arith) in
    let f : 7 * suc k ≡ 7 + 7 * k = omega arith in
    let p : 2 ^ (7 * suc k) ≡ 128 * 2 ^ (7 * k) = rw f (pow-add 2 7 (7 * k)) in
    rw p (omega arith)

pub sequence_bound : {bytes : List ℕ} {m : ℕ} → Leb128 bytes m → m < 2 ^ (7 * length bytes)
sequence_bound (last h) = h
sequence_bound (more {group = g} {rest = m} {bytes = bs} h r) =
    let l : m < 2 ^ (7 * length bs) = sequence_bound r in
    let f : 7 * suc (length bs) ≡ 7 + 7 * length bs = omega arith in
    let p : 2 ^ (7 * suc (length bs)) ≡ 128 * 2 ^ (7 * length bs) = rw f (pow-add 2 7 (7 * length bs)) in
    rw p (omega arith)

-- fewer than ten bytes, or a tenth byte of 0 or 1: the value itself is read
pub exact_below_ten : {bytes : List ℕ} {m : ℕ} → Leb128 bytes m → length bytes ≤ 9 → m % 2 ^ 64 ≡ m
exact_below_ten {bytes} {m} q l =
    let b : m < 2 ^ (7 * length bytes) = sequence_bound q in
    let k : 7 * length bytes ≤ 63 = omega arith in
    let p : 2 ^ (7 * length bytes) ≤ 2 ^ 63 = pow_mono k in
    mod-eq_of_lt (omega arith)

pub exact_tenth : {bytes : List ℕ} {m : ℕ} → Leb128 bytes m → length bytes ≡ 10 → get_or bytes 9 0 ≤ 1 → m % 2 ^ 64 ≡ m
exact_tenth {bytes} {m} q e t =
    let l : m < suc (get_or bytes 9 0) * 2 ^ 63 = sequence_below q 9 e in
    mod-eq_of_lt (omega arith)

-- ---- writing: the shortest sequence
one_group : (n v : ℕ) → v < 128 → Leb128 (groups (suc n) v) v
one_group n v l = rw (groups_last n v l) (last l)

more_groups : (n v : ℕ) → 128 ≤ v → Leb128 (groups n (v / 128)) (v / 128) → Leb128 (groups (suc n) v) v
more_groups n v l q =
    let r : v % 128 < 128 = omega arith in
    let e : v % 128 + 128 * (v / 128) ≡ v = omega arith in
    rw (groups_more n v l) (rw e at (more {group = v % 128} r q))

pub groups_sequence : (n v : ℕ) → v < 2 ^ (7 * suc n) → Leb128 (groups (suc n) v) v
groups_sequence zero v h = one_group zero v h
groups_sequence (suc n) v h =
    by (ltb v 128) refl (let f : 7 * suc (suc n) ≡ 7 * suc n + 7 = omega arith in
    groups_sequence n (v / 128) (shr_lt (7 * suc n) 7 (rw f at h)))
  where
    by : (t : Bool) → ltb v 128 ≡ t → Leb128 (groups (suc n) (v / 128)) (v / 128) → Leb128 (groups (suc (suc n)) v) v
    by true t ih = one_group (suc n) v (ltb-true v 128 t)
    by false t ih = more_groups (suc n) v (ltb-false v 128 t) ih

-- what is written is a sequence of the number
pub written_sequence : (v : ℕ) → v < 2 ^ 64 → Leb128 (leb_bytes v) v
unfolding leb_bytes
written_sequence v h = groups_sequence 9 v (omega arith)

-- no sequence of the number is shorter
groups_shortest : {bytes : List ℕ} {m : ℕ} → Leb128 bytes m → (n : ℕ) → length (groups n m) ≤ length bytes
unfolding groups
groups_shortest q zero = zero-le
groups_shortest (last {group = g} h) (suc n) = rw (groups_last n g h) (suc-le-suc zero-le)
groups_shortest (more {group = g} {rest = m} {bytes = bs} h r) (suc n) = by (ltb (g + 128 * m) 128) refl (groups_shortest {bytes = bs} {m = m} r n)
  where
    by : (t : Bool) → ltb (g + 128 * m) 128 ≡ t → length (groups n m) ≤ length bs → length (groups (suc n) (g + 128 * m)) ≤ suc (length bs)
    by true t ih = rw (groups_last n (g + 128 * m) (ltb-true (g + 128 * m) 128 t)) (suc-le-suc zero-le)
    by false t ih =
        let e : (g + 128 * m) / 128 ≡ m = omega arith in
        rw (groups_more n (g + 128 * m) (ltb-false (g + 128 * m) 128 t), e) (suc-le-suc ih)

pub written_shortest : {bytes : List ℕ} {v : ℕ} → Leb128 bytes v → len_u64 v ≤ length bytes
unfolding leb_bytes
written_shortest q = groups_shortest q 10

-- and of that length there is one alone
pub same_length_same : {a b : List ℕ} {m n : ℕ} → Leb128 a m → Leb128 b n → m ≡ n → length a ≡ length b → a ≡ b
same_length_same (last h) (last k) e l = ap (λ (g : ℕ). g ∷ []) e
same_length_same (last h) (more k r) e l = absurd (omega (arith, l, sequence_some r))
same_length_same (more h q) (last k) e l = absurd (omega (arith, l, sequence_some q))
same_length_same (more {group = g} {rest = m} h q) (more {group = k} {rest = n} i r) e l =
    let eq : g ≡ k = omega arith in
    let er : m ≡ n = omega arith in
    let rest = same_length_same q r er (omega arith) in
    cc

-- ---- the round trip: what was written, followed by any bytes, is the number and its length
pub written_read : (v : ℕ) → v < 2 ^ 64 → (t : List ℕ) → read_from (leb_bytes v ++ t) ≡ gives (v, len_u64 v)
unfolding leb_bytes
written_read v h t =
    let e : v % 2 ^ 64 ≡ v = mod-eq_of_lt h in
    rw e at (sequence_read (written_sequence v h) (groups_most 10 v) t)
