-- What the lines of arcs are made from: only private functions speak of it.
use Rattle.std.specs.Prelude.{ℕ, List}
use Rattle.call_cycles.specs.declared.graphs.FunArc.{FunArc}
use Rattle.flat_report.specs.Sources.{Sources}
use Rattle.graph_report.specs.GraphText.{callee_line, caller_line}
use Rattle.graph_report.specs.declared.arc_ends.ArcEnd.{ArcEnd}
use Rattle.graph_report.specs.declared.arc_ends.ArcEnd.TheVariants.{Caller, Callee}
use Rattle.graph_report.specs.declared.subjects.Subject.{Subject}

-- the function at an end of an arc
abbrev pub function_at_end : ArcEnd → FunArc → ℕ
function_at_end Caller arc = arc.caller
function_at_end Callee arc = arc.callee

-- the line of an arc by the function at an end
abbrev pub line_by : ArcEnd → Sources → (Subject → ℕ) → ℕ → List ℕ
line_by Caller = caller_line
line_by Callee = callee_line
