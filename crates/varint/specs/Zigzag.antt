-- Signed numbers as unsigned ones: document 01, "Number encodings", ZigZag.
use Rattle.std.specs.Prelude.{◌≡◌, ℕ, ◌+◌, ◌*◌, ◌/◌, ◌%◌, ℤ, pos, negsuc, ◌==◌}
use Rattle.std.proofs.Common.{ap, ◌∙◌, suc-le-suc, zero-le, add-zero}
use Rattle.std.proofs.Math.Nat.{mul-mod_right, mul-div_right, mul-add-mod_self_left, mul-add-div}
use Rattle.paper.specs.Answer.{pick}

-- v ≥ 0 becomes 2v; v < 0 becomes -2v - 1, which is 2n + 1 where v is -(n + 1)
unfoldable pub zigzag : ℤ → ℕ
zigzag (pos n) = 2 * n
zigzag (negsuc n) = 2 * n + 1

-- an even number goes back to its half, an odd one to -(half + 1)
unfoldable pub unzigzag : ℕ → ℤ
unzigzag u = pick (u % 2 == 0) (pos (u / 2)) (negsuc (u / 2))

-- the second undoes the first, as `Integer` asks
pub undone : (z : ℤ) → unzigzag (zigzag z) ≡ z
unfolding zigzag unzigzag pick
undone (pos n) = ap (λ (r : ℕ). pick (r == 0) (pos (2 * n / 2)) (negsuc (2 * n / 2))) (mul-mod_right 2 n) ∙ ap pos (mul-div_right n (suc-le-suc zero-le))
undone (negsuc n) = ap (λ (r : ℕ). pick (r == 0) (pos ((2 * n + 1) / 2)) (negsuc ((2 * n + 1) / 2))) (mul-add-mod_self_left 2 n 1) ∙ ap negsuc (mul-add-div (suc-le-suc zero-le) n 1 ∙ add-zero n)
