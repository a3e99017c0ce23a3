-- The frame of an entry: what its length says, and that its body lies inside.
-- Assumes nothing.
use Rattle.std.proofs.Common.{◌≡◌, ℕ, ◌+◌, ◌-◌, ◌≤◌, List, length, refl, arith, le-ltb}
use Rattle.paper.specs.Answer.{gives, and_then, pick}
use Rattle.varint.specs.Leb.{read_from, read_u64}
use Rattle.varint.proofs.Places.{at_inside}
use Rattle.cell.specs.Entry.{framed}
use Rattle.cell.specs.Framing.{FrameAt}

-- the length stands at the start
pub read_start : (s : List ℕ) → read_u64 s 0 ≡ read_from s
unfolding read_u64
read_start s = refl

pub frame_given : (s : List ℕ) {size at : ℕ} → gives (size, at) ≡ read_u64 s 0 → size ≤ length s - at → FrameAt s (record { at = at; end = at + size })
unfolding framed read_u64 and_then pick
frame_given s {size} {at} e l =
    let i = at_inside s 0 e in
    let n : at + size - at ≡ size = omega arith in
    record { given = rw (← e, le-ltb (length s - at) size l, n); ordered = omega arith; inside = omega arith }

pub ruleset framing = (at_inside, read_start, frame_given)
