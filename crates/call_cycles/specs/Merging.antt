-- What holds between two steps of merging sorted arcs: only private functions speak of it.
use Rattle.std.specs.Prelude.{◌≡◌, ◌<◌, ◌≤◌, ℕ, List}
use Rattle.std.proofs.Common.{◌⊎◌}
use Rattle.std.specs.List.{All}
use Rattle.call_cycles.specs.declared.graphs.FunArc.{FunArc}
use Rattle.call_cycles.specs.Arcs.{AreInOrder, IsArcBelow}
use Rattle.call_cycles.specs.Calls.{calls_in}

-- the arc goes from a caller up to f, and if it is f, to a callee up to g
abbrev pub IsUpTo : ℕ → ℕ → FunArc → Type 0
IsUpTo f g a = (a.caller < f) ⊎ ((a.caller ≡ f) × (a.callee ≤ g))

-- sorted arcs are merged: those of one caller and callee are one, with the calls of all of them
pub record AreMerged (sorted : List FunArc) (arcs : List FunArc) : Type 0 where
  pub rising : AreInOrder arcs
  pub calls : (f g : ℕ) → calls_in arcs f g ≡ calls_in sorted f g
  pub below : (n : ℕ) → All (IsArcBelow n) sorted → All (IsArcBelow n) arcs
  pub up_to : (f g : ℕ) → All (IsUpTo f g) sorted → All (IsUpTo f g) arcs
