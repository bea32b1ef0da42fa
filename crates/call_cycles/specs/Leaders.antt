-- The leader of each function, the least member of its component, and the levels of components at their leaders.
use Rattle.std.specs.List.{All, AllPairs, Contains}
use Rattle.std.specs.Prelude.{◌≡◌, ◌<◌, ◌≤◌, ◌↔◌, ◌==◌, ◌&&◌, not, Bool, ℕ, suc, List, length, slice_index, slice_index_or}
use Rattle.call_cycles.specs.Sums.{max_below, when}
use Rattle.call_cycles.specs.Graph.{no_arc}
use Rattle.call_cycles.specs.declared.graphs.FunArc.{FunArc}
use Rattle.call_cycles.specs.Walks.{Reaches}

-- each of the two reaches the other
abbrev pub AreJoined : List FunArc → ℕ → ℕ → Type 0
AreJoined arcs f h = Reaches arcs f h × Reaches arcs h f

-- the leader of f is the least of those joined with it
pub record IsLeader (n : ℕ) (arcs : List FunArc) (f leader : ℕ) : Type 0 where
  pub within : leader < n
  pub joined : AreJoined arcs f leader
  pub least : (h : ℕ) → h < n → AreJoined arcs f h → leader ≤ h

-- the leader of each of n functions is the least of those joined with it
pub record AreLeaders (n : ℕ) (arcs : List FunArc) (leaders : List ℕ) : Type 0 where
  pub len : length leaders ≡ n
  pub each : (f : ℕ) → f < n → IsLeader n arcs f (slice_index leaders f)

-- ranks never rise along arcs, and two functions have one rank exactly where each reaches the other
pub record AreRanks (n : ℕ) (arcs : List FunArc) (ranks : List ℕ) : Type 0 where
  pub len : length ranks ≡ n
  pub within : (f : ℕ) → f < n → slice_index ranks f ≤ n
  pub falls : (i : ℕ) → i < length arcs → slice_index ranks (slice_index_or arcs i no_arc).callee ≤ slice_index ranks (slice_index_or arcs i no_arc).caller
  pub joined : (f h : ℕ) → f < n → h < n → (slice_index ranks f ≡ slice_index ranks h) ↔ AreJoined arcs f h

-- each of n functions in the order of their ranks
pub record IsRankOrder (n : ℕ) (ranks order : List ℕ) : Type 0 where
  pub few : length order ≤ n
  pub within : All (λ f. f < n) order
  pub each : (f : ℕ) → f < n → Contains order f
  pub rises : AllPairs (λ f g. slice_index ranks f ≤ slice_index ranks g) order

-- the least function of the rank of h, among those from k on
pub record IsLeast (n : ℕ) (ranks : List ℕ) (k h least : ℕ) : Type 0 where
  pub within : least < n
  pub same : slice_index ranks least ≡ slice_index ranks h
  pub lowest : (x : ℕ) → k ≤ x → x < n → slice_index ranks x ≡ slice_index ranks h → least ≤ x

-- the least function of each one's rank
pub record AreLeast (n : ℕ) (ranks leaders : List ℕ) : Type 0 where
  pub len : length leaders ≡ n
  pub each : (f : ℕ) → f < n → IsLeast n ranks 0 f (slice_index leaders f)

-- what leads the two ends of an arc
abbrev pub caller_leader : List FunArc → List ℕ → ℕ → ℕ
caller_leader arcs leaders i = slice_index leaders (slice_index_or arcs i no_arc).caller

abbrev pub callee_leader : List FunArc → List ℕ → ℕ → ℕ
callee_leader arcs leaders i = slice_index leaders (slice_index_or arcs i no_arc).callee

-- the arc of number i leaves the component that h leads
abbrev pub leaves_leader : List FunArc → List ℕ → ℕ → ℕ → Bool
leaves_leader arcs leaders h i = not (caller_leader arcs leaders i == callee_leader arcs leaders i) && caller_leader arcs leaders i == h

-- function f calls over the arc of number i, which leaves its component
abbrev pub leaves_by : List FunArc → List ℕ → ℕ → ℕ → Bool
leaves_by arcs leaders f i = (slice_index_or arcs i no_arc).caller == f && not (callee_leader arcs leaders i == slice_index leaders f)

-- one more than the level that function f calls over this arc; 0 where the arc isn't one of those that leave f's component
abbrev pub level_over : List FunArc → List ℕ → ℕ → List ℕ → ℕ → ℕ
level_over arcs leaders f levels i = when (leaves_by arcs leaders f i) (suc (slice_index levels (callee_leader arcs leaders i)))

-- 0 where no arc leaves the component that h leads, else one more than the highest level that it calls
pub record AreLevels (n : ℕ) (arcs : List FunArc) (leaders levels : List ℕ) : Type 0 where
  pub len : length levels ≡ n
  pub highest : (h : ℕ) → h < n → slice_index levels h ≡ max_below (length arcs) (λ i. when (leaves_leader arcs leaders h i) (suc (slice_index levels (callee_leader arcs leaders i))))
