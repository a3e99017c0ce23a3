-- What the frame of an entry says. No public promise names this.
use Rattle.std.specs.Prelude.{◌≡◌, ℕ, ◌-◌, ◌≤◌, List, length, Result, Ok, Err}
use Rattle.paper.specs.Answer.{gives, refuses}
use Rattle.paper.specs.Refusal.{number}
use Rattle.paper.specs.declared.Refusal.{Refusal}
use Rattle.cell.specs.Entry.{framed}
use Rattle.cell.specs.declared.inner.framing.Framed.{Framed}

-- a body that lies inside
pub record FrameAt (s : List ℕ) (f : Framed) : Type 0 where
  pub given : gives (f.at, f.end - f.at) ≡ framed s
  pub ordered : f.at ≤ f.end
  pub inside : f.end ≤ length s

abbrev pub Frame : List ℕ → Result Framed Refusal → Type 0
Frame s (Ok f) = FrameAt s f
Frame s (Err refusal) = refuses (number refusal) ≡ framed s
