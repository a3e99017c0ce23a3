-- A varint has ten bytes at most; a signed number comes as the number of its bits.
-- Assumes nothing.
use Rattle.std.proofs.Common.{◌≡◌, ℕ, ◌≤◌, length, ℤ, w64, SFits, to_z, of_z}
use mir.ValLaws.{to_z-of_z}
use Rattle.varint.specs.Leb.{leb_bytes}
use Rattle.varint.specs.Zigzag.{zigzag}
use Rattle.varint.proofs.Limits.{groups_most}

pub leb_most : (v : ℕ) → length (leb_bytes v) ≤ 10
unfolding leb_bytes
leb_most v = groups_most 10 v

pub id_is : (z : ℤ) {id : ℕ} → SFits w64 z → id ≡ zigzag (to_z w64 (of_z w64 z)) → id ≡ zigzag z
id_is z f i = rw (to_z-of_z w64 z f) at i
