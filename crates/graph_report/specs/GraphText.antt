-- The text of the call graph: for each function and each cycle who called it and whom it called, and how much time went
-- from callees to callers.
use Rattle.std.specs.Prelude.{ℕ, ◌==◌, ◌&&◌, not, true, Bool, List, [], ◌∷◌, ◌++◌, filter, replicate, slice_index, codes, if◌then◌else◌}
use Rattle.std.specs.List.{flat_map}
use Rattle.text_cols.specs.Columns.{decimal, left_of, right_of, spaces}
use Rattle.symbol_shares.specs.Shares.{attributed_of}
use Rattle.call_cycles.specs.declared.graphs.FunArc.{FunArc}
use Rattle.call_cycles.specs.Graph.{GraphValue, arc_at, arc_count, component_of, enters, entering_of}
use Rattle.call_cycles.specs.Flow.{time_of}
use Rattle.call_cycles.specs.Sums.{numbers_below}
use Rattle.flat_report.specs.FlatText.{percent_of, seconds_of}
use Rattle.flat_report.specs.Hidden.{is_hidden}
use Rattle.flat_report.specs.Sources.{Sources, name_of, self_share, child_of, inclusive_total, calls_by_others, calls_by_itself}
use Rattle.graph_report.specs.Cycles.{is_member, cycle_number, inner_calls, cycle_name}
use Rattle.graph_report.specs.Entries.{GraphEntry, graph_order, number_in}
use Rattle.graph_report.specs.declared.subjects.Subject.{Subject}
use Rattle.graph_report.specs.declared.subjects.Subject.TheVariants.{Cycle, Function}

-- ---- names

-- the number of an entry
abbrev pub bracket_text : ℕ → List ℕ
bracket_text number = codes "[" ++ decimal number ++ codes "]"

-- the cycle of which a function is a member, where there is one
unfoldable pub cycle_mark : GraphValue → ℕ → List ℕ
cycle_mark g f = if is_member g f then codes " <cycle " ++ decimal (cycle_number g (component_of g f)) ++ codes ">" else []

-- what stands behind a function's name in a line: its cycle, the number of its entry, and the end of the line
abbrev pub tail_of : GraphValue → (Subject → ℕ) → ℕ → List ℕ
tail_of g number f = cycle_mark g f ++ (codes " " ++ bracket_text (number (Function f)) ++ codes "\n")

-- a function's name in a line, with its cycle and the number of its entry
unfoldable pub function_name : Sources → (Subject → ℕ) → ℕ → List ℕ
function_name s number f = name_of s f ++ cycle_mark s.graph f ++ codes " " ++ bracket_text (number (Function f))

-- ---- columns

-- a self time, a child time and calls
unfoldable pub timed_columns : ℕ → ℕ → ℕ → List ℕ → List ℕ
timed_columns rate self child called = right_of (seconds_of rate self) 12 ++ right_of (seconds_of rate child) 12 ++ right_of called 22

-- calls alone
unfoldable pub untimed_columns : List ℕ → List ℕ
untimed_columns called = spaces 24 ++ right_of called 22

-- calls, and all that enter the callee's component
unfoldable pub calls_of_all : ℕ → ℕ → List ℕ
calls_of_all count all = decimal count ++ codes "/" ++ decimal all

-- calls of a function by others and by itself; nothing where there are none
unfoldable pub calls_with_own : ℕ → ℕ → List ℕ
calls_with_own others own =
    if others == 0 && own == 0 then [] else (if own == 0 then decimal others else decimal others ++ codes "+" ++ decimal own)

-- calls that enter a cycle, and those between its members
unfoldable pub calls_with_inner : ℕ → ℕ → List ℕ
calls_with_inner entering inner = decimal entering ++ codes "+" ++ decimal inner

-- ---- lines

-- what stands in front of the name of an entry's subject: the number of the entry, the part of all time that the subject's
-- is, in percent, and its columns
abbrev pub front_columns : Sources → ℕ → ℕ → List ℕ → List ℕ
front_columns s number total columns =
    left_of (bracket_text number) 8 ++ right_of (percent_of total (attributed_of s.shares)) 7 ++ columns ++ spaces 2

-- the line of the subject of an entry
unfoldable pub primary_line : Sources → ℕ → ℕ → List ℕ → List ℕ → List ℕ
primary_line s number total columns name = front_columns s number total columns ++ name ++ codes "\n"

-- any other line
unfoldable pub other_line : List ℕ → List ℕ → List ℕ
other_line columns name = spaces 15 ++ columns ++ spaces 6 ++ name ++ codes "\n"

-- what an arc carries, and its calls of those that enter the callee's component; inside a cycle its calls alone
unfoldable pub arc_columns : Sources → FunArc → ℕ → ℕ → List ℕ
arc_columns s arc own child =
    if not (component_of s.graph arc.caller == component_of s.graph arc.callee) then timed_columns s.rate own child (calls_of_all arc.count (entering_of s.graph (component_of s.graph arc.callee)))
    else untimed_columns (decimal arc.count)

-- those of the arc of number i
abbrev pub columns_at : Sources → ℕ → List ℕ
columns_at s i = arc_columns s (arc_at s.graph i) (slice_index s.flow.arc_self i) (slice_index s.flow.arc_child i)

-- the arc of number i, by its caller and by its callee
unfoldable pub caller_line : Sources → (Subject → ℕ) → ℕ → List ℕ
caller_line s number i = other_line (columns_at s i) (function_name s number (arc_at s.graph i).caller)

unfoldable pub callee_line : Sources → (Subject → ℕ) → ℕ → List ℕ
callee_line s number i = other_line (columns_at s i) (function_name s number (arc_at s.graph i).callee)

-- a function's own times and calls
unfoldable pub function_columns : Sources → ℕ → List ℕ
function_columns s f = timed_columns s.rate (self_share s f) (child_of s f) (calls_with_own (calls_by_others s.graph f) (calls_by_itself s.graph f))

-- a member of a cycle, in the entry of the cycle
unfoldable pub member_line : Sources → (Subject → ℕ) → ℕ → List ℕ
member_line s number f = other_line (function_columns s f) (function_name s number f)

-- those who called, given by arcs; where there are none, the machine itself did
unfoldable pub callers_text : Sources → (Subject → ℕ) → List ℕ → List ℕ
callers_text s number [] = other_line (spaces 46) (codes "<spontaneous>")
callers_text s number (i ∷ more) = flat_map (caller_line s number) (i ∷ more)

-- ---- entries

-- what stands below each entry
abbrev pub rule : List ℕ
rule = replicate 72 45 ++ codes "\n"

abbrev pub arcs_to : GraphValue → ℕ → List ℕ
arcs_to g f = filter (λ i. (arc_at g i).callee == f) (numbers_below (arc_count g))

abbrev pub arcs_from : GraphValue → ℕ → List ℕ
arcs_from g f = filter (λ i. (arc_at g i).caller == f) (numbers_below (arc_count g))

-- the outside arcs that enter a component
abbrev pub arcs_into : GraphValue → ℕ → List ℕ
arcs_into g c = filter (enters g c) (numbers_below (arc_count g))

abbrev pub members_of : GraphValue → ℕ → List ℕ
members_of g c = filter (λ f. component_of g f == c) (numbers_below g.functions)

-- callers by their addresses, the function, and callees by their addresses
unfoldable pub function_text : Sources → (Subject → ℕ) → ℕ → List ℕ
function_text s number f =
    callers_text s number (arcs_to s.graph f)
    ++ primary_line s (number (Function f)) (inclusive_total s f) (function_columns s f) (function_name s number f)
    ++ flat_map (callee_line s number) (arcs_from s.graph f)
    ++ rule

-- a cycle's own times and calls
unfoldable pub cycle_columns : Sources → ℕ → List ℕ
cycle_columns s c = timed_columns s.rate (slice_index s.flow.self c) (slice_index s.flow.child c) (calls_with_inner (entering_of s.graph c) (inner_calls s.graph c))

-- callers from outside, the cycle as a whole, and its members by their addresses
unfoldable pub cycle_text : Sources → (Subject → ℕ) → ℕ → List ℕ
cycle_text s number head =
    let c = component_of s.graph head in
    callers_text s number (arcs_into s.graph c)
    ++ primary_line s (number (Cycle head)) (time_of s.flow c) (cycle_columns s c) (cycle_name s.graph c ++ codes " " ++ bracket_text (number (Cycle head)))
    ++ flat_map (member_line s number) (members_of s.graph c)
    ++ rule

abbrev pub subject_text : Sources → (Subject → ℕ) → Subject → List ℕ
subject_text s number (Cycle head) = cycle_text s number head
subject_text s number (Function f) = function_text s number f

-- ---- the report

-- what stands above the entries
abbrev pub graph_header : List ℕ
graph_header = codes "call graph\nindex     %time        self    children                called  name\n"

-- an entry is shown, unless it is that of a function with a hidden name; the entry of a cycle can't be hidden
abbrev pub is_shown : List (List ℕ) → Subject → List ℕ → Bool
is_shown hidden (Cycle head) name = true
is_shown hidden (Function f) name = not (is_hidden hidden name)

-- The call graph: an entry for each cycle and each function that took time or has calls, in order, but for functions with
-- a hidden name. The others have the entries, with their numbers and lines, that they have where none is hidden.
unfoldable pub graph_text : Sources → List (List ℕ) → List ℕ
graph_text s hidden = graph_header ++ flat_map (λ (e : GraphEntry). subject_text s (number_in (graph_order s)) e.subject) (filter (λ (e : GraphEntry). is_shown hidden e.subject e.name) (graph_order s))
