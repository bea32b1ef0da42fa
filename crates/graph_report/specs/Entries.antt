-- The entries of a call graph: the cycles as a whole, and the functions that took time or have calls; and their order.
use Rattle.std.specs.Prelude.{ℕ, ◌+◌, ◌==◌, ◌||◌, Bool, nat_lt, false, List, ◌++◌, map, filter}
use Rattle.std.specs.List.{position}
use Rattle.std.specs.Option.{option_map_or}
use Rattle.std.specs.declared.cmp.Ordering.{Ordering}
use Rattle.std.specs.Ordering.{nat_cmp, ordering_then, is_lt}
use Rattle.std.specs.Cmp.Lexicographic.{slice_cmp}
use Rattle.call_cycles.specs.Graph.{GraphValue, arc_at, arc_count, component_count, head_of, is_cycle}
use Rattle.call_cycles.specs.Flow.{time_of}
use Rattle.call_cycles.specs.Sums.{sum_below, when, numbers_below}
use Rattle.flat_report.specs.Sources.{Sources, name_of, inclusive_total, calls_by_others, calls_by_itself}
use Rattle.flat_report.specs.Order.{in_order}
use Rattle.graph_report.specs.Cycles.{cycle_name}
use Rattle.graph_report.specs.declared.subjects.Subject.{Subject}
use Rattle.graph_report.specs.declared.subjects.Subject.TheVariants.{Cycle, Function}

-- an entry: what it is of, the grains of that with what it calls, and its name
pub record GraphEntry : Type 0 where
  pub subject : Subject
  pub total : ℕ
  pub name : List ℕ

-- the calls of other functions by a function
abbrev pub calls_of_others : GraphValue → ℕ → ℕ
calls_of_others g f = sum_below (arc_count g) (λ i. when ((arc_at g i).caller == f) (arc_at g i).count)

-- a function has an entry where it took time, itself or in what it calls, and where it calls or is called
abbrev pub has_entry : Sources → ℕ → Bool
has_entry s f =
    nat_lt 0 (inclusive_total s f) || nat_lt 0 (calls_by_others s.graph f) || nat_lt 0 (calls_of_others s.graph f) || nat_lt 0 (calls_by_itself s.graph f)

abbrev pub function_entry : Sources → ℕ → GraphEntry
function_entry s f = record { subject = Function f; total = inclusive_total s f; name = name_of s f }

-- the entry of a component that is a cycle; a cycle is known by its head
abbrev pub cycle_entry : Sources → ℕ → GraphEntry
cycle_entry s c = record { subject = Cycle (head_of s.graph c); total = time_of s.flow c; name = cycle_name s.graph c }

-- the cycles, and then the functions that have an entry
unfoldable pub graph_entries : Sources → List GraphEntry
graph_entries s =
    map (cycle_entry s) (filter (is_cycle s.graph) (numbers_below (component_count s.graph)))
    ++ map (function_entry s) (filter (has_entry s) (numbers_below s.graph.functions))

-- a function, or the head of a cycle; functions are in the order of their addresses
abbrev pub first_function : Subject → ℕ
first_function (Cycle head) = head
first_function (Function f) = f

-- a cycle stands before a function
abbrev pub subject_rank : Subject → ℕ
subject_rank (Cycle head) = 0
subject_rank (Function f) = 1

-- The greater total comes first, then the lesser name by its bytes, then the lesser address, a cycle having that of its
-- head; and then a cycle before a function.
abbrev pub graph_entry_cmp : GraphEntry → GraphEntry → Ordering
graph_entry_cmp a b =
    ordering_then (nat_cmp b.total a.total)
    (ordering_then (slice_cmp nat_cmp a.name b.name)
    (ordering_then (nat_cmp (first_function a.subject) (first_function b.subject)) (nat_cmp (subject_rank a.subject) (subject_rank b.subject))))

unfoldable pub graph_comes_before : GraphEntry → GraphEntry → Bool
graph_comes_before a b = is_lt (graph_entry_cmp a b)

-- each entry in its place
unfoldable pub graph_order : Sources → List GraphEntry
graph_order s = in_order graph_comes_before (graph_entries s)

abbrev pub is_same : Subject → Subject → Bool
is_same (Cycle a) (Cycle b) = a == b
is_same (Function a) (Function b) = a == b
is_same a b = false

-- the number of a subject's entry, from 1 on; 0 where it has none
unfoldable pub number_in : List GraphEntry → Subject → ℕ
number_in entries subject = option_map_or (λ place. place + 1) (position (λ (e : GraphEntry). is_same e.subject subject) entries) 0
