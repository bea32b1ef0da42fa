-- What the line of an arc is made from: only private functions speak of it.
use Rattle.std.specs.Prelude.{◌≡◌, ◌<◌, ◌^◌, ◌==◌, ℕ, true, not, if◌then◌else◌, List, slice_index, Option, Some, None}
use Rattle.call_cycles.specs.declared.graphs.FunArc.{FunArc}
use Rattle.call_cycles.specs.Graph.{GraphValue, arc_at, component_of, entering_of}
use Rattle.flat_report.specs.Sources.{Sources}
use Rattle.graph_report.specs.GraphText.{arc_columns}
use Rattle.graph_report.specs.declared.inputs.ArcTimes.{ArcTimes}

-- the calls that enter the callee's component, where that isn't the caller's
abbrev pub entering_calls : GraphValue → FunArc → Option ℕ
entering_calls g arc = if component_of g arc.caller == component_of g arc.callee then None else Some (entering_of g (component_of g arc.callee))

-- an arc, and what it carries
abbrev pub arc_times : Sources → ℕ → ArcTimes
arc_times s i = record { arc = arc_at s.graph i; own = slice_index s.flow.arc_self i; child = slice_index s.flow.arc_child i; entering = entering_calls s.graph (arc_at s.graph i) }

-- the columns of an arc that carries these times
abbrev pub times_columns : Sources → ArcTimes → List ℕ
times_columns s t = arc_columns s t.arc t.own t.child

-- an arc between functions of the graph; where it is an outside one, its times are in the range of a report's
pub record AreTimes (s : Sources) (t : ArcTimes) : Type 0 where
  pub caller : t.arc.caller < s.graph.functions
  pub callee : t.arc.callee < s.graph.functions
  pub entering : t.entering ≡ entering_calls s.graph t.arc
  pub small : not (component_of s.graph t.arc.caller == component_of s.graph t.arc.callee) ≡ true → (t.own < 2 ^ 65) × (t.child < 2 ^ 65)
