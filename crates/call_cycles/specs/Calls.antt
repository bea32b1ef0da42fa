-- The calls of a profile by function, and the arcs between functions.
use Rattle.std.specs.Prelude.{◌≡◌, ◌≢◌, ℕ, ◌==◌, ◌&&◌, ◌||◌, Bool, false, if◌then◌else◌, List, [], ◌∷◌, length}
use Rattle.std.specs.List.{All, flat_map, sum_by}
use Rattle.std.specs.Option.{option_map_or}
use Rattle.std.specs.Ordering.{nat_cmp, ordering_then}
use Rattle.std.specs.declared.cmp.Ordering.{Ordering}
use Rattle.elf32_syms.specs.declared.image.Symbol.{Symbol}
use Rattle.elf32_syms.specs.Owners.{owner_of}
use Rattle.call_cycles.specs.declared.graphs.FunArc.{FunArc}
use Rattle.call_cycles.specs.Arcs.{IsArcBelow}
use Rattle.call_cycles.specs.Sums.{when, numbers_below, list_of}

-- the address lies in the function of number f
abbrev pub lies_in : List Symbol → ℕ → ℕ → Bool
lies_in symbols f address = option_map_or (λ owner. owner == f) (owner_of symbols address) false

-- the calls of a profile's arc, where they go from function f to function g
abbrev pub calls_of : List Symbol → (ℕ × ℕ) × ℕ → ℕ → ℕ → ℕ
calls_of symbols arc f g = when (lies_in symbols f arc.0.0 && lies_in symbols g arc.0.1) arc.1

-- the calls of a profile's arcs from function f to function g
unfoldable pub calls_between : List ((ℕ × ℕ) × ℕ) → List Symbol → ℕ → ℕ → ℕ
calls_between arcs symbols f g = sum_by (λ arc. calls_of symbols arc f g) arcs

-- given the calls from each function to each: the arc from f to g, where they differ and there are calls
abbrev pub arc_between : (ℕ → ℕ → ℕ) → ℕ → ℕ → List FunArc
arc_between calls f g = if f == g || calls f g == 0 then [] else record { caller = f; callee = g; count = calls f g } ∷ []

-- the arcs between n functions, in order of caller, then callee
unfoldable pub arcs_among : ℕ → (ℕ → ℕ → ℕ) → List FunArc
arcs_among n calls = flat_map (λ f. flat_map (arc_between calls f) (numbers_below n)) (numbers_below n)

-- the arcs between the functions of a profile
abbrev pub function_arcs : List ((ℕ × ℕ) × ℕ) → List Symbol → List FunArc
function_arcs arcs symbols = arcs_among (length symbols) (calls_between arcs symbols)

-- the calls of each function by itself
abbrev pub own_calls : List ((ℕ × ℕ) × ℕ) → List Symbol → List ℕ
own_calls arcs symbols = list_of (length symbols) (λ f. calls_between arcs symbols f f)

-- ---- calls by pair, in a list of arcs

-- the calls of arcs from function f to function g
unfoldable pub calls_in : List FunArc → ℕ → ℕ → ℕ
calls_in arcs f g = sum_by (λ (a : FunArc). when (a.caller == f && a.callee == g) a.count) arcs

-- the calls of all arcs together
abbrev pub count_of : List FunArc → ℕ
count_of arcs = sum_by (λ (a : FunArc). a.count) arcs

-- the calls that were found among n functions: those from one to another as arcs in any order, those of each by itself as a number
pub record HaveCalls (n : ℕ) (calls : ℕ → ℕ → ℕ) (arcs : List FunArc) (selves : List ℕ) : Type 0 where
  pub between : (f g : ℕ) → f ≢ g → calls_in arcs f g ≡ calls f g
  pub own : selves ≡ list_of n (λ f. calls f f)
  pub below : All (IsArcBelow n) arcs

-- by caller, then callee
abbrev pub by_ends : FunArc → FunArc → Ordering
by_ends a b = ordering_then (nat_cmp a.caller b.caller) (nat_cmp a.callee b.callee)
