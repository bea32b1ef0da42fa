-- The graph of functions and their arcs as a value: components, heads and their order by plain rules.
use Rattle.std.specs.Prelude.{◌==◌, ◌&&◌, ◌||◌, ℕ, zero, suc, Bool, List, length, filter, slice_index}
use Rattle.std.specs.List.{list_any, flat_map, position_or_len}
use Rattle.elf32_syms.specs.declared.image.Symbol.{Symbol}
use Rattle.call_cycles.specs.declared.graphs.FunArc.{FunArc}
use Rattle.call_cycles.specs.Sums.{max_below, when, numbers_below, list_of}
use Rattle.call_cycles.specs.Graph.{GraphValue}
use Rattle.call_cycles.specs.Leaders.{callee_leader, leaves_leader}
use Rattle.call_cycles.specs.Calls.{function_arcs, own_calls}

-- an arc goes from f to g
abbrev pub has_arc : List FunArc → ℕ → ℕ → Bool
has_arc arcs f g = list_any (λ a. a.caller == f && a.callee == g) arcs

-- a walk leads from f to g, and all functions between these two have numbers below k
abbrev pub reaches_over : List FunArc → ℕ → ℕ → ℕ → Bool
reaches_over arcs zero f g = f == g || has_arc arcs f g
reaches_over arcs (suc k) f g = reaches_over arcs k f g || (reaches_over arcs k f k && reaches_over arcs k k g)

-- each of two of n functions reaches the other
abbrev pub are_joined : ℕ → List FunArc → ℕ → ℕ → Bool
are_joined n arcs f g = reaches_over arcs n f g && reaches_over arcs n g f

-- the least of n functions that is joined with f
abbrev pub leader_of : ℕ → List FunArc → ℕ → ℕ
leader_of n arcs f = position_or_len (are_joined n arcs f) (numbers_below n)

unfoldable pub leaders_of : ℕ → List FunArc → List ℕ
leaders_of n arcs = list_of n (leader_of n arcs)

-- the level of the component that h leads, where components call one another at most k times in a row
abbrev pub level_after : List FunArc → List ℕ → ℕ → ℕ → ℕ
level_after arcs leaders zero h = 0
level_after arcs leaders (suc k) h =
    max_below (length arcs) (λ i. when (leaves_leader arcs leaders h i) (suc (level_after arcs leaders k (callee_leader arcs leaders i))))

-- those of n functions that lead a component of a level, in ascending order
abbrev pub heads_at : ℕ → List FunArc → List ℕ → ℕ → List ℕ
heads_at n arcs leaders level = filter (λ h. slice_index leaders h == h && level_after arcs leaders n h == level) (numbers_below n)

-- the heads of level 0, then those of level 1, and so on; no level is above n
unfoldable pub heads_in : ℕ → List FunArc → List ℕ
heads_in n arcs = flat_map (heads_at n arcs (leaders_of n arcs)) (numbers_below (suc n))

-- the component of each of n functions: the place of its leader among the heads
unfoldable pub components_in : ℕ → List FunArc → List ℕ
components_in n arcs = list_of n (λ f. position_or_len (λ h. h == leader_of n arcs f) (heads_in n arcs))

-- the graph of n functions, given their arcs and the calls of each by itself
abbrev pub graph_in : ℕ → List FunArc → List ℕ → GraphValue
graph_in n arcs self_calls = record { functions = n; arcs = arcs; self_calls = self_calls; component = components_in n arcs; heads = heads_in n arcs }

-- the graph of a profile's arcs and a program's symbols
abbrev pub profile_graph : List ((ℕ × ℕ) × ℕ) → List Symbol → GraphValue
profile_graph arcs symbols = graph_in (length symbols) (function_arcs arcs symbols) (own_calls arcs symbols)
