-- The entries of roots, and callers and callees in the order of their addresses.
use Rattle.std.specs.Prelude.{◌≡◌, ◌<◌, ◌&&◌, ◌||◌, ℕ, Bool, false, map, if◌then◌else◌}
use Rattle.std.specs.List.Sorted.{IsStrictlyIncreasing}
use Rattle.call_cycles.specs.Sums.{sum_below, when}
use Rattle.call_cycles.specs.Graph.{GraphValue, IsGraph, arc_at, component_count, head_of, is_cycle}
use Rattle.call_cycles.specs.Flow.{is_root, time_of}
use Rattle.symbol_shares.specs.Shares.{attributed_of}
use Rattle.flat_report.specs.Sources.{AreOfOne, Sources, inclusive_total}
use Rattle.graph_report.specs.Entries.{has_entry}
use Rattle.graph_report.specs.GraphText.{arcs_from, arcs_to}

-- a component has an entry: as a whole, where it is a cycle, else that of its function
abbrev pub has_own_entry : Sources → ℕ → Bool
has_own_entry s c = is_cycle s.graph c || has_entry s (head_of s.graph c)

-- the total that this entry shows
abbrev pub shown_total : Sources → ℕ → ℕ
shown_total s c = if is_cycle s.graph c then time_of s.flow c else inclusive_total s (head_of s.graph c)

-- it is the component's time
abbrev pub TotalsAreTimes : Type 0
TotalsAreTimes = (s : Sources) (c : ℕ) → AreOfOne s → c < component_count s.graph → shown_total s c ≡ time_of s.flow c

-- a component without an entry has no time
abbrev pub NoTimeWithoutEntry : Type 0
NoTimeWithoutEntry = (s : Sources) (c : ℕ) → AreOfOne s → c < component_count s.graph → has_own_entry s c ≡ false → time_of s.flow c ≡ 0

-- the totals of the entries of roots are all time that there is
abbrev pub RootEntriesHaveAll : Type 0
RootEntriesHaveAll = (s : Sources) → AreOfOne s
    → sum_below (component_count s.graph) (λ c. when (is_root s.graph c && has_own_entry s c) (shown_total s c)) ≡ attributed_of s.shares

-- functions have the order of their addresses: the callers of each one stand in this order, each once, and its callees
abbrev pub CallersRise : Type 0
CallersRise = (g : GraphValue) (f : ℕ) → IsGraph g → IsStrictlyIncreasing (map (λ i. (arc_at g i).caller) (arcs_to g f))

abbrev pub CalleesRise : Type 0
CalleesRise = (g : GraphValue) (f : ℕ) → IsGraph g → IsStrictlyIncreasing (map (λ i. (arc_at g i).callee) (arcs_from g f))
