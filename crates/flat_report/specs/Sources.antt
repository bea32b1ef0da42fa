-- What a report is made from, and the times and calls of functions. Functions are counted from 0, in the order of their
-- addresses.
use Rattle.std.specs.Prelude.{◌≡◌, ℕ, ◌+◌, ◌==◌, List, [], length, slice_get, slice_index}
use Rattle.std.specs.Option.{option_map_or}
use Rattle.elf32_syms.specs.declared.image.Symbol.{Symbol}
use Rattle.call_cycles.specs.Graph.{GraphValue, IsGraph, arc_at, arc_count}
use Rattle.call_cycles.specs.Flow.{FlowValue, IsFlow}
use Rattle.call_cycles.specs.Sums.{sum_below, when}
use Rattle.symbol_shares.specs.Shares.{ShareTable}

pub record Sources : Type 0 where
  pub symbols : List Symbol
  pub graph : GraphValue
  pub flow : FlowValue
  pub shares : ShareTable
  -- samples per second
  pub rate : ℕ

-- the parts are of one program, and the times are those of its graph
pub record AreOfOne (s : Sources) : Type 0 where
  pub functions : s.graph.functions ≡ length s.symbols
  pub each : length s.shares.of ≡ length s.symbols
  pub graph : IsGraph s.graph
  pub flow : IsFlow s.graph s.shares.of s.flow

-- the name of a function
abbrev pub name_of : Sources → ℕ → List ℕ
name_of s f = option_map_or (λ (symbol : Symbol). symbol.name) (slice_get s.symbols f) []

-- the grains of a function itself
abbrev pub self_share : Sources → ℕ → ℕ
self_share s f = slice_index s.shares.of f

-- what it gets from those that it calls outside its cycle
abbrev pub child_of : Sources → ℕ → ℕ
child_of s f = slice_index s.flow.member_child f

-- both together
abbrev pub inclusive_total : Sources → ℕ → ℕ
inclusive_total s f = self_share s f + child_of s f

-- the calls of a function by other functions
abbrev pub calls_by_others : GraphValue → ℕ → ℕ
calls_by_others g f = sum_below (arc_count g) (λ i. when ((arc_at g i).callee == f) (arc_at g i).count)

-- the calls of a function by itself
abbrev pub calls_by_itself : GraphValue → ℕ → ℕ
calls_by_itself g f = slice_index g.self_calls f

-- both together
abbrev pub calls_in_all : GraphValue → ℕ → ℕ
calls_in_all g f = calls_by_others g f + calls_by_itself g f
