-- The machine reads the table. That it does is computed, for each byte in each of the nine states.
-- Assumes nothing.
use Rattle.std.proofs.Common.{◌≡◌, refl, sym, ap, ◌∙◌, ℕ, ◌*◌, ◌/◌, ◌%◌, ◌^◌, ◌<◌, Bool, true, List, [], map, get_or, nat_eq, zero-add, arith, IsTrue}
use Rattle.std.proofs.Math.Option.{Option, none, some}
use Rattle.std.specs.List.{range_with_len}
use Rattle.std.proofs.lemmas.Bool.Decides.{nat_tests}
use Rattle.std.proofs.lemmas.List.{get_or-map}
use Rattle.std.proofs.lemmas.List.FromFn.{get_or-map-range_with_len}
use Rattle.paper.specs.Answer.{pick}
use Rattle.utf8.specs.Table.{Row, table}
use Rattle.utf8.specs.WellFormed.{inside, begun, after, whole}
use Rattle.utf8.specs.Machine.{states, left_by, is_state, no_row}
use Rattle.utf8.specs.declared.inner.TheConstants.{CHART, MOVES}

-- a state is the number of a field, counted by six
field : (x : ℕ) → IsTrue (is_state x) → (6 * (x % 64 / 6) ≡ x % 64) × (x % 64 / 6 < 9)
field x h = grind (arith, nat_tests)

-- what holds of each field holds of each state
module _ {A : Type 0} (f : ℕ → A) (g : Option Row → A) (e : map f (range_with_len 0 9) ≡ map g states) (x : ℕ) (h : IsTrue (is_state x)) where
  in_state : f (x % 64 / 6) ≡ g (left_by x)
  unfolding left_by states
  in_state =
      let q : ℕ = x % 64 / 6 in
      let l : q < 9 = (field x h).1 in
      sym (get_or-map-range_with_len f 0 9 q q (g none) l (zero-add q))
      ∙ ap (λ (l : List A). get_or l q (g none)) e
      ∙ get_or-map g states q none (g none) l

-- ---- the first state, and that of no row

numbers : ℕ → Bool × Bool
numbers q = (nat_eq (6 * q) 6, nat_eq (6 * q) 0)

meant : Option Row → Bool × Bool
meant p = (no_row p, whole p)

each_state : map numbers (range_with_len 0 9) ≡ map meant states
unfolding numbers meant states no_row whole
each_state = refl

pub starts : left_by 0 ≡ some []
unfolding left_by states
starts = refl

module _ (x : ℕ) (h : IsTrue (is_state x)) where
  tests : ◌≡◌ {A = Bool × Bool} (nat_eq (x % 64) 6, nat_eq (x % 64) 0) (no_row (left_by x), whole (left_by x))
  unfolding numbers meant
  tests = let k : 6 * (x % 64 / 6) ≡ x % 64 = (field x h).0 in rw k at (in_state numbers meant each_state x h)

  pub dead_test : nat_eq (x % 64) 6 ≡ no_row (left_by x)
  dead_test = ap (λ (p : Bool × Bool). p.0) tests

  pub whole_test : nat_eq (x % 64) 0 ≡ whole (left_by x)
  whole_test = ap (λ (p : Bool × Bool). p.1) tests

-- ---- one byte

-- where it leads from the state with this number
moved : ℕ → ℕ → ℕ
moved b q = get_or MOVES (get_or CHART b 0 % 16) 0 / 2 ^ (6 * q)

found : ℕ → ℕ → Bool × Option Row
found b q = (is_state (moved b q), left_by (moved b q))

wanted : ℕ → Option Row → Bool × Option Row
wanted b p = (true, after p b)

each_byte : map (λ b. map (found b) (range_with_len 0 9)) (range_with_len 0 256) ≡ map (λ b. map (wanted b) states) (range_with_len 0 256)
unfolding found moved wanted states left_by pick table inside begun after
each_byte = refl

module _ (x b : ℕ) (l : b < 256) (h : IsTrue (is_state x)) where
  at_byte : map (found b) (range_with_len 0 9) ≡ map (wanted b) states
  at_byte =
      sym (get_or-map-range_with_len (λ b. map (found b) (range_with_len 0 9)) 0 256 b b [] l (zero-add b))
      ∙ ap (λ (rows : List (List (Bool × Option Row))). get_or rows b []) each_byte
      ∙ get_or-map-range_with_len (λ b. map (wanted b) states) 0 256 b b [] l (zero-add b)

  stepped : (let y = get_or MOVES (get_or CHART b 0 % 16) 0 / 2 ^ (x % 64) in ◌≡◌ {A = Bool × Option Row} (is_state y, left_by y) (true, after (left_by x) b))
  unfolding found moved wanted
  stepped = let k : 6 * (x % 64 / 6) ≡ x % 64 = (field x h).0 in rw k at (in_state (found b) (wanted b) at_byte x h)

  pub step_state : IsTrue (is_state (get_or MOVES (get_or CHART b 0 % 16) 0 / 2 ^ (x % 64)))
  step_state = ap (λ (p : Bool × Option Row). p.0) stepped

  pub step_left : left_by (get_or MOVES (get_or CHART b 0 % 16) 0 / 2 ^ (x % 64)) ≡ after (left_by x) b
  step_left = ap (λ (p : Bool × Option Row). p.1) stepped
