-- Walks joined, and walks of one arc.
use Rattle.std.proofs.Common.{◌≡◌, ◌<◌, ℕ, List, [], ◌∷◌, ◌++◌, length, get_or, refl, sym, ◌∙◌, subst}
use Rattle.std.specs.List.{Contains}
use Rattle.std.proofs.lemmas.List.{get_or_default}
use Rattle.call_cycles.specs.declared.graphs.FunArc.{FunArc}
use Rattle.call_cycles.specs.Graph.{no_arc}
use Rattle.call_cycles.specs.Walks.{IsWalk, Reaches}

walks_join : (arcs : List FunArc) (f g h : ℕ) (v w : List FunArc) → IsWalk arcs f v g → IsWalk arcs g w h → IsWalk arcs f (v ++ w) h
walks_join arcs f g h [] w one two = subst (λ (x : ℕ). IsWalk arcs x w h) (sym one) two
walks_join arcs f g h (a ∷ v) w one two = (one.0, one.1, walks_join arcs a.callee g h v w one.2 two)

pub reaches_itself : (arcs : List FunArc) (f : ℕ) → Reaches arcs f f
unfolding Reaches
reaches_itself arcs f = ([], refl)

pub reaches_on : (arcs : List FunArc) (f g h : ℕ) → Reaches arcs f g → Reaches arcs g h → Reaches arcs f h
unfolding Reaches
reaches_on arcs f g h one two = (one.0 ++ two.0, walks_join arcs f g h one.0 two.0 one.1 two.1)

at_is_one : (arcs : List FunArc) (i : ℕ) → i < length arcs → Contains arcs (get_or arcs i no_arc)
at_is_one arcs i below = (i, below, get_or_default arcs i _ _ below)

pub reaches_by : (arcs : List FunArc) (i : ℕ) → i < length arcs → Reaches arcs (get_or arcs i no_arc).caller (get_or arcs i no_arc).callee
unfolding Reaches
reaches_by arcs i below = (get_or arcs i no_arc ∷ [], (at_is_one arcs i below, refl, refl))

pub one_is_at : (arcs : List FunArc) (a : FunArc) → Contains arcs a → (i : ℕ) × (i < length arcs) × (get_or arcs i no_arc ≡ a)
one_is_at arcs a one = (one.0, one.1, get_or_default arcs one.0 _ _ one.1 ∙ one.2)
