-- A field has as many bytes as it is wide, and a short run of stores writes it.
-- Assumes nothing.
use mathlib.Core.Path.{◌≡◌, refl, ◌∙◌, ap}
use mathlib.Core.List.{List, ◌++◌}
use Prim.Native.Nat.{ℕ, zero, suc, ◌+◌, ◌/◌, ◌≤◌}
use native.Mathlib.Nat.{zero-add}
use lib.ListN.{length, drop}
use lib.Seq.{sets, sets-eq}
use Rattle.field.specs.Field.{bytes}

pub length_bytes : (n v : ℕ) → length (bytes n v) ≡ n
unfolding bytes
length_bytes zero v = refl
length_bytes (suc n) v = ap suc (length_bytes n (v / 256))

-- the stores, one after another, are the field and the rest
pub stored : (n v : ℕ) (out : List ℕ) → n ≤ length out → sets out 0 (bytes n v) ≡ bytes n v ++ drop n out
stored n v out l =
    let e : 0 + length (bytes n v) ≡ n = zero-add (length (bytes n v)) ∙ length_bytes n v in
    sets-eq (bytes n v) out 0 (rw e l) ∙ ap (λ (k : ℕ). bytes n v ++ drop k out) e
