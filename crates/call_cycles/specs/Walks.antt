-- Walks over function arcs, and which functions they reach.
use Rattle.std.specs.Prelude.{◌≡◌, ℕ, List, [], ◌∷◌}
use Rattle.std.specs.List.{Contains}
use Rattle.call_cycles.specs.declared.graphs.FunArc.{FunArc}

-- the walk takes arcs of the graph one after another and leads from f to g
abbrev pub IsWalk : List FunArc → ℕ → List FunArc → ℕ → Type 0
IsWalk arcs f [] g = f ≡ g
IsWalk arcs f (a ∷ walk) g = Contains arcs a × (a.caller ≡ f) × IsWalk arcs a.callee walk g

-- some walk leads from f to g; from a function to itself it may be empty
unfoldable pub Reaches : List FunArc → ℕ → ℕ → Type 0
Reaches arcs f g = (walk : List FunArc) × IsWalk arcs f walk g
