-- The parts of texts.
use Rattle.std.proofs.Common.{◌≡◌, ◌≢◌, ◌<◌, ℕ, true, false, cond, eqb, Some, None, List, ◌++◌, length, append_assoc, refl, sym, ap, ◌∙◌, arith}
use Rattle.std.specs.Prelude.{◌==◌, codes, decimal, filter, not, Bool}
use Rattle.std.specs.List.{All, flat_map}
use Rattle.std.proofs.lemmas.List.Elements.{All-filter}
use Rattle.std.proofs.lemmas.List.FromFn.{get_or-range_with_len, length-range_with_len}
use Rattle.text_cols.specs.Columns.{right_of, spaces}
use Rattle.call_cycles.specs.Sums.{numbers_below}
use Rattle.call_cycles.specs.declared.graphs.FunArc.{FunArc}
use Rattle.call_cycles.specs.Graph.{GraphValue, arc_at, component_of, entering_of}
use Rattle.flat_report.specs.FlatText.{seconds_of}
use Rattle.flat_report.specs.Sources.{Sources, name_of}
use Rattle.graph_report.specs.ArcLines.{function_at_end, line_by}
use Rattle.graph_report.specs.ArcTimes.{AreTimes, arc_times, entering_calls, times_columns}
use Rattle.graph_report.specs.GraphText.{arc_columns, arcs_from, arcs_into, arcs_to, bracket_text, callee_line, caller_line, callers_text, calls_of_all, cycle_mark, cycle_text, front_columns, function_columns, function_name, function_text, member_line, members_of, other_line, rule, primary_line, timed_columns, untimed_columns}
use Rattle.graph_report.specs.Labels.{label_of}
use Rattle.graph_report.specs.Subjects.{cycle_line, function_line}
use Rattle.graph_report.specs.declared.arc_ends.ArcEnd.{ArcEnd}
use Rattle.graph_report.specs.declared.inputs.ArcTimes.{ArcTimes}
use Rattle.graph_report.specs.declared.subjects.Subject.{Subject}
use Rattle.graph_report.specs.declared.subjects.Subject.TheVariants.{Function}

-- a name, its mark and what follows
pub name_whole : (s : Sources) (number : Subject → ℕ) (f : ℕ) → name_of s f ++ (cycle_mark s.graph f ++ (codes " " ++ bracket_text (number (Function f)) ++ codes "\n")) ≡ function_name s number f ++ codes "\n"
unfolding function_name
name_whole s number f = search append_assoc

-- a name of a cycle as a whole, and what follows
pub end_whole : (name tail : List ℕ) → name ++ (codes " " ++ tail ++ codes "\n") ≡ name ++ codes " " ++ tail ++ codes "\n"
end_whole name tail = search append_assoc

-- what stands in front of a subject's name, and the name
pub primary_whole : (s : Sources) (number total : ℕ) (columns name : List ℕ) → front_columns s number total columns ++ (name ++ codes "\n") ≡ primary_line s number total columns name
unfolding primary_line
primary_whole s number total columns name = sym (append_assoc (front_columns s number total columns) name (codes "\n"))

-- ---- what is left of the numbers below an end

pub all_below : (p : ℕ → Bool) (n : ℕ) → All (λ (i : ℕ). i < n) (filter p (numbers_below n))
all_below p n =
    All-filter p (λ i. i < n) (numbers_below n)
    (λ k d below. let low : k < n = omega (arith, length-range_with_len 0 n) in omega (arith, get_or-range_with_len 0 n k d low))

pub other_whole : (columns name : List ℕ) → (spaces 15 ++ columns ++ spaces 6) ++ (name ++ codes "\n") ≡ other_line columns name
unfolding other_line
other_whole columns name = sym (append_assoc (spaces 15 ++ columns ++ spaces 6) name (codes "\n"))

-- ---- lines of arcs and members

caller_whole : (s : Sources) (number : Subject → ℕ) (i : ℕ) → other_line (times_columns s (arc_times s i)) (function_name s number (arc_at s.graph i).caller) ≡ caller_line s number i
unfolding caller_line
caller_whole s number i = refl

callee_whole : (s : Sources) (number : Subject → ℕ) (i : ℕ) → other_line (times_columns s (arc_times s i)) (function_name s number (arc_at s.graph i).callee) ≡ callee_line s number i
unfolding callee_line
callee_whole s number i = refl

-- what an arc of the graph carries, and a label, make its line
pub arc_line_is : (s : Sources) (number : Subject → ℕ) (end : ArcEnd) (i : ℕ) (t : ArcTimes) → t ≡ arc_times s i
    → (spaces 15 ++ times_columns s t ++ spaces 6) ++ label_of s number (function_at_end end t.arc) ≡ line_by end s number i
arc_line_is s number end i t is =
    ap (λ (u : ArcTimes). (spaces 15 ++ times_columns s u ++ spaces 6) ++ label_of s number (function_at_end end u.arc)) is
    ∙ other_whole (times_columns s (arc_times s i)) (function_name s number (function_at_end end (arc_at s.graph i)))
    ∙ by end
  where
    by : (e : ArcEnd) → other_line (times_columns s (arc_times s i)) (function_name s number (function_at_end e (arc_at s.graph i))) ≡ line_by e s number i
    by e = grind (arith, caller_whole, callee_whole)

-- an arc's ends are functions of the graph
pub end_within : (s : Sources) (end : ArcEnd) (t : ArcTimes) → AreTimes s t → function_at_end end t.arc < s.graph.functions
end_within s end t are = grind (arith, are)

pub member_whole : (s : Sources) (number : Subject → ℕ) (f : ℕ) → (spaces 15 ++ function_columns s f ++ spaces 6) ++ (function_name s number f ++ codes "\n") ≡ member_line s number f
unfolding member_line
member_whole s number f = other_whole (function_columns s f) (function_name s number f)

-- ---- callers

pub no_callers : (s : Sources) (number : Subject → ℕ) (arcs : List ℕ) → length arcs == 0 ≡ true → other_line (spaces 46) (codes "<spontaneous>") ≡ callers_text s number arcs
unfolding callers_text
no_callers s number arcs is = grind arith

pub some_callers : (s : Sources) (number : Subject → ℕ) (arcs : List ℕ) → length arcs == 0 ≡ false → flat_map (caller_line s number) arcs ≡ callers_text s number arcs
unfolding callers_text
some_callers s number arcs some = grind arith

-- ---- columns

-- two times, and calls behind them
pub timed_whole : (before : List ℕ) (rate own child : ℕ) (called : List ℕ) → before ++ (right_of (seconds_of rate own) 12 ++ right_of (seconds_of rate child) 12) ++ right_of called 22 ≡ before ++ timed_columns rate own child called
unfolding timed_columns
timed_whole before rate own child called = append_assoc before (right_of (seconds_of rate own) 12 ++ right_of (seconds_of rate child) 12) (right_of called 22)

none_inside : (b : Bool) (n : ℕ) → cond b None (Some n) ≡ None → b ≡ true
none_inside b n is = grind arith

some_outside : (b : Bool) (n all : ℕ) → cond b None (Some n) ≡ Some all → (b ≡ false) × (all ≡ n)
some_outside b n all some = grind arith

-- what is looked up of an arc between components
pub outside_calls : (g : GraphValue) (arc : FunArc) (c d all : ℕ) → c ≡ component_of g arc.caller → d ≡ component_of g arc.callee → c ≢ d → all ≡ entering_of g d → Some all ≡ entering_calls g arc
outside_calls g arc c d all source target apart is = grind arith

-- the columns of an arc, by the calls that enter its callee's component
module _ (s : Sources) (t : ArcTimes) (are : t.entering ≡ entering_calls s.graph t.arc) where
  abbrev inside : Bool
  inside = eqb (component_of s.graph t.arc.caller) (component_of s.graph t.arc.callee)

  outside : (all : ℕ) → t.entering ≡ Some all → (inside ≡ false) × (all ≡ entering_of s.graph (component_of s.graph t.arc.callee))
  outside all some = some_outside inside (entering_of s.graph (component_of s.graph t.arc.callee)) all (sym are ∙ some)

  pub is_outside_arc : (all : ℕ) → t.entering ≡ Some all → not inside ≡ true
  is_outside_arc all some = ap not (outside all some).0

  pub inside_columns : t.entering ≡ None → untimed_columns (decimal t.arc.count) ≡ times_columns s t
  unfolding arc_columns
  inside_columns none = rw (none_inside inside (entering_of s.graph (component_of s.graph t.arc.callee)) (sym are ∙ none)) refl

  pub outside_columns : (all : ℕ) → t.entering ≡ Some all → timed_columns s.rate t.own t.child (calls_of_all t.arc.count all) ≡ times_columns s t
  unfolding arc_columns
  outside_columns all some = let h = outside all some in rw (h.0, h.1) refl

-- ---- entries

pub function_whole : (s : Sources) (number : Subject → ℕ) (f : ℕ)
    → callers_text s number (arcs_to s.graph f) ++ function_line s number f ++ flat_map (callee_line s number) (arcs_from s.graph f) ++ rule ≡ function_text s number f
unfolding function_text
function_whole s number f = refl

pub cycle_whole : (s : Sources) (number : Subject → ℕ) (head : ℕ)
    → callers_text s number (arcs_into s.graph (component_of s.graph head)) ++ cycle_line s number head ++ flat_map (member_line s number) (members_of s.graph (component_of s.graph head)) ++ rule ≡ cycle_text s number head
unfolding cycle_text
cycle_whole s number head = refl
