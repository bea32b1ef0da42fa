-- The function graph: components, heads, levels and their order.
use Rattle.std.specs.Prelude.{◌≡◌, ◌≢◌, ◌<◌, ◌≤◌, ◌↔◌, ◌==◌, ◌&&◌, ◌+◌, not, nat_lt, ℕ, suc, Bool, List, length, slice_index, slice_index_or}
use Rattle.std.specs.List.{count_by}
use Rattle.std.proofs.Common.{◌⊎◌}
use Rattle.call_cycles.specs.declared.graphs.FunArc.{FunArc}
use Rattle.call_cycles.specs.Sums.{sum_below, max_below, when}
use Rattle.call_cycles.specs.Walks.{Reaches}

-- functions and components are counted from 0
pub record GraphValue : Type 0 where
  pub functions : ℕ
  pub arcs : List FunArc
  -- the calls of each function by itself
  pub self_calls : List ℕ
  -- the component of each function
  pub component : List ℕ
  -- the head of each component
  pub heads : List ℕ

abbrev pub no_arc : FunArc
no_arc = record { caller = 0; callee = 0; count = 0 }

abbrev pub arc_at : GraphValue → ℕ → FunArc
arc_at g i = slice_index_or g.arcs i no_arc

abbrev pub arc_count : GraphValue → ℕ
arc_count g = length g.arcs

abbrev pub component_count : GraphValue → ℕ
component_count g = length g.heads

abbrev pub component_of : GraphValue → ℕ → ℕ
component_of g f = slice_index g.component f

abbrev pub head_of : GraphValue → ℕ → ℕ
head_of g c = slice_index g.heads c

-- the components that the arc of number i comes from and goes to
abbrev pub source_of : GraphValue → ℕ → ℕ
source_of g i = component_of g (arc_at g i).caller

abbrev pub target_of : GraphValue → ℕ → ℕ
target_of g i = component_of g (arc_at g i).callee

-- an outside arc goes from one component to another
abbrev pub is_outside : GraphValue → ℕ → Bool
is_outside g i = not (source_of g i == target_of g i)

-- an outside arc leaves component c
abbrev pub leaves : GraphValue → ℕ → ℕ → Bool
leaves g c i = is_outside g i && source_of g i == c

-- an outside arc enters component d
abbrev pub enters : GraphValue → ℕ → ℕ → Bool
enters g d i = is_outside g i && target_of g i == d

-- the calls of the outside arcs that enter d, of those with a number below i
abbrev pub calls_into : GraphValue → ℕ → ℕ → ℕ
calls_into g d i = sum_below i (λ j. when (enters g d j) (arc_at g j).count)

-- the calls of all outside arcs that enter d
unfoldable pub entering_of : GraphValue → ℕ → ℕ
entering_of g d = calls_into g d (arc_count g)

-- how many functions a component has
abbrev pub member_count : GraphValue → ℕ → ℕ
member_count g c = count_by (λ d. d == c) g.component

-- a component of two or more functions
abbrev pub is_cycle : GraphValue → ℕ → Bool
is_cycle g c = nat_lt 1 (member_count g c)

-- the component has a member besides its head
abbrev pub HasOtherMember : GraphValue → ℕ → Type 0
HasOtherMember g c = (f : ℕ) × (f < g.functions) × (component_of g f ≡ c) × (f ≢ head_of g c)

-- all calls of the graph, those of functions by themselves too
unfoldable pub all_calls : GraphValue → ℕ
all_calls g = sum_below (arc_count g) (λ i. (arc_at g i).count) + sum_below g.functions (slice_index g.self_calls)

-- 0 where no arc leaves the component, else one more than the highest level that it calls
pub record IsLevel (g : GraphValue) (level : ℕ → ℕ) : Type 0 where
  pub highest : (c : ℕ) → c < component_count g → level c ≡ max_below (arc_count g) (λ i. when (leaves g c i) (suc (level (target_of g i))))

-- components are in the order of their levels, those of one level in the order of their heads
abbrev pub ComesBefore : GraphValue → (ℕ → ℕ) → ℕ → ℕ → Type 0
ComesBefore g level c d = (level c < level d) ⊎ ((level c ≡ level d) × (head_of g c < head_of g d))

-- components, their heads, and their order by levels
pub record AreComponents (g : GraphValue) : Type 0 where
  pub each : length g.component ≡ g.functions
  pub within : (f : ℕ) → f < g.functions → component_of g f < component_count g
  -- two functions are in one component exactly where each reaches the other
  pub joined : (f h : ℕ) → f < g.functions → h < g.functions → (component_of g f ≡ component_of g h) ↔ (Reaches g.arcs f h × Reaches g.arcs h f)
  -- the head of a component is its least member
  pub heads_below : (c : ℕ) → c < component_count g → head_of g c < g.functions
  pub heads_in : (c : ℕ) → c < component_count g → component_of g (head_of g c) ≡ c
  pub heads_least : (f : ℕ) → f < g.functions → head_of g (component_of g f) ≤ f
  pub level : ℕ → ℕ
  pub levels : IsLevel g level
  pub ordered : (c d : ℕ) → c < d → d < component_count g → ComesBefore g level c d

-- arcs are in order of caller, then callee
abbrev pub IsArcBefore : FunArc → FunArc → Type 0
IsArcBefore a b = (a.caller < b.caller) ⊎ ((a.caller ≡ b.caller) × (a.callee < b.callee))

-- arcs go between different functions, each with calls, and there is one at most from each function to each
pub record AreArcs (g : GraphValue) : Type 0 where
  pub callers : (i : ℕ) → i < arc_count g → (arc_at g i).caller < g.functions
  pub callees : (i : ℕ) → i < arc_count g → (arc_at g i).callee < g.functions
  pub called : (i : ℕ) → i < arc_count g → 0 < (arc_at g i).count
  pub apart : (i : ℕ) → i < arc_count g → (arc_at g i).caller ≢ (arc_at g i).callee
  pub rising : (i j : ℕ) → i < j → j < arc_count g → IsArcBefore (arc_at g i) (arc_at g j)

pub record IsGraph (g : GraphValue) : Type 0 where
  pub arcs : AreArcs g
  pub components : AreComponents g
