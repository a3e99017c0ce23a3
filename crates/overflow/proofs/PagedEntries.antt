-- A paged entry by its kind: a refused peek refuses it, and a kind has its own reader, or 5.
-- Assumes nothing.
use mathlib.Core.Path.{◌≡◌}
use mathlib.Core.List.{List}
use Prim.Native.Nat.{ℕ}
use borrow.Author.Tests.{eq-eqb, ne_eqb}
use Rattle.paper.specs.Answer.{gives, refuses, and_then, pick}
use Rattle.cell.specs.Entry.{peek_kind}
use Rattle.overflow.specs.Paged.{local_paged, reference_paged, paged_from}

module _ (s : List ℕ) {k : ℕ} where
  pub paged_no_kind : refuses k ≡ peek_kind s → refuses k ≡ paged_from s
  unfolding paged_from and_then
  paged_no_kind e = rw (← e)

  module _ (e : gives k ≡ peek_kind s) where
    pub paged_by_local : k ≡ 1 → local_paged s ≡ paged_from s
    unfolding paged_from and_then pick
    paged_by_local z = rw (← e, eq-eqb k 1 z)

    pub paged_by_reference : (k ≡ 1 → ⊥) → k ≡ 2 → reference_paged s ≡ paged_from s
    unfolding paged_from and_then pick
    paged_by_reference n z = rw (← e, ne_eqb k 1 n, eq-eqb k 2 z)

    pub paged_other : (k ≡ 1 → ⊥) → (k ≡ 2 → ⊥) → refuses 5 ≡ paged_from s
    unfolding paged_from and_then pick
    paged_other n m = rw (← e, ne_eqb k 1 n, ne_eqb k 2 m)
