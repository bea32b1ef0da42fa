-- The lines of the subjects of entries.
use Rattle.std.specs.Prelude.{◌≡◌, ◌<◌, ◌++◌, ℕ, true, List, [], codes, if◌then◌else◌}
use Rattle.call_cycles.specs.Flow.{time_of}
use Rattle.call_cycles.specs.Graph.{GraphValue, component_of, is_cycle}
use Rattle.flat_report.specs.Sources.{Sources, inclusive_total}
use Rattle.graph_report.specs.Cycles.{cycle_name}
use Rattle.graph_report.specs.Entries.{GraphEntry, number_in, graph_order}
use Rattle.graph_report.specs.GraphText.{bracket_text, cycle_columns, function_columns, function_name, is_shown, primary_line, subject_text}
use Rattle.graph_report.specs.declared.subjects.Subject.{Subject}
use Rattle.graph_report.specs.declared.subjects.Subject.TheVariants.{Cycle, Function}

-- a function of the graph, or the head of a cycle
abbrev pub IsSubject : GraphValue → Subject → Type 0
IsSubject g (Cycle head) = (head < g.functions) × (is_cycle g (component_of g head) ≡ true)
IsSubject g (Function f) = f < g.functions

abbrev pub function_line : Sources → (Subject → ℕ) → ℕ → List ℕ
function_line s number f = primary_line s (number (Function f)) (inclusive_total s f) (function_columns s f) (function_name s number f)

abbrev pub cycle_line : Sources → (Subject → ℕ) → ℕ → List ℕ
cycle_line s number head =
    let c = component_of s.graph head in
    primary_line s (number (Cycle head)) (time_of s.flow c) (cycle_columns s c) (cycle_name s.graph c ++ codes " " ++ bracket_text (number (Cycle head)))

-- the text of an entry
abbrev pub entry_text : Sources → GraphEntry → List ℕ
entry_text s e = subject_text s (number_in (graph_order s)) e.subject

-- the same, and nothing where the entry isn't shown
abbrev pub shown_text : Sources → List (List ℕ) → GraphEntry → List ℕ
shown_text s hidden e = if is_shown hidden e.subject e.name then entry_text s e else []
