-- The numbers of entries, from the last to the first.
use Rattle.std.proofs.Common.{◌≡◌, ◌<◌, ℕ, zero, suc, ◌+◌, Bool, true, cond, List, [], ◌∷◌, length, map, drop, get_or, refl, ap, sym, subst, ◌∙◌, arith, add-one}
use Rattle.std.specs.Prelude.{◌==◌, nat_lt, filter, slice_index, if◌then◌else◌}
use Rattle.std.specs.List.{All, position_or_len}
use Rattle.std.proofs.lemmas.List.{drop_more, get_or-map, length-map, map-append}
use Rattle.std.proofs.lemmas.List.Elements.{All-append, All-from_recursion, All-nil, recursion_from_All}
use Rattle.std.proofs.Math.Logic.{∥∥₁_elim}
use Rattle.std.proofs.Props.{props}
use Rattle.std.proofs.lemmas.Bool.Decides.{nat_tests}
use Rattle.call_cycles.specs.Graph.{GraphValue, component_count, is_cycle}
use Rattle.call_cycles.specs.Sums.{numbers_below}
use Rattle.flat_report.specs.Sources.{AreOfOne, Sources}
use Rattle.flat_report.specs.Order.{in_order}
use Rattle.flat_report.proofs.OrderLemmas.{all_in_order}
use Rattle.graph_report.specs.Entries.{GraphEntry, graph_comes_before, cycle_entry, graph_entries, first_function, function_entry, has_entry, is_same, number_in, graph_order}
use Rattle.graph_report.specs.Numbers.{AreNumbers}
use Rattle.graph_report.specs.Rows.{entries_of_rows, entry_of_row}
use Rattle.graph_report.specs.Subjects.{IsSubject}
use Rattle.graph_report.specs.declared.numbers.Numbers.{Numbers}
use Rattle.graph_report.specs.Inputs.{sources_in}
use Rattle.graph_report.specs.declared.inputs.Inputs.{Inputs}
use Rattle.graph_report.specs.declared.rows.Row.{Row}
use Rattle.graph_report.specs.declared.subjects.Subject.{Subject}
use Rattle.graph_report.specs.declared.subjects.Subject.TheVariants.{Cycle, Function}
use Rattle.graph_report.proofs.GroupLemmas.{filter_next}
use Rattle.graph_report.proofs.TimeLemmas.{of_one}

-- the number of the first entry of a subject, where the first of all has one more than the base
abbrev pub first_number : ℕ → List GraphEntry → Subject → ℕ
first_number base [] subject = 0
first_number base (e ∷ es) subject = if is_same e.subject subject then base + 1 else first_number (base + 1) es subject

-- a number with a base added, where there is one
abbrev with_base : ℕ → ℕ → ℕ
with_base base n = if n == 0 then 0 else base + n

-- the number of place n among m, where it is one of them
abbrev number_at : ℕ → ℕ → ℕ
number_at n m = cond (nat_lt n m) (n + 1) 0

number_is : (es : List GraphEntry) (subject : Subject) → number_in es subject ≡ number_at (position_or_len (λ (e : GraphEntry). is_same e.subject subject) es) (length es)
unfolding number_in
number_is es subject = grind arith

first_is : (base : ℕ) (es : List GraphEntry) (subject : Subject) → first_number base es subject ≡ with_base base (number_at (position_or_len (λ (e : GraphEntry). is_same e.subject subject) es) (length es))
first_is base [] subject = grind (arith, nat_tests)
first_is base (e ∷ es) subject = grind (arith, first_is (base + 1) es subject)

no_base : (n : ℕ) → with_base 0 n ≡ n
no_base n = grind (arith, nat_tests)

pub first_of_all : (es : List GraphEntry) (subject : Subject) → first_number 0 es subject ≡ number_in es subject
first_of_all es subject = first_is 0 es subject ∙ ap (with_base 0) (sym (number_is es subject)) ∙ no_base (number_in es subject)

-- ---- tables of numbers

-- the numbers of the entries from place k on, by functions and by heads below n
pub record AreNumbersFrom (entries : List GraphEntry) (n k : ℕ) (numbers : Numbers) : Type 0 where
  pub function_count : length numbers.functions.items ≡ n
  pub cycle_count : length numbers.cycles.items ≡ n
  pub functions : (f : ℕ) → f < n → slice_index numbers.functions.items f ≡ first_number k (drop k entries) (Function f)
  pub cycles : (head : ℕ) → head < n → slice_index numbers.cycles.items head ≡ first_number k (drop k entries) (Cycle head)

module _ (entries : List GraphEntry) (n k : ℕ) (old new : Numbers) (e : GraphEntry) (are : AreNumbersFrom entries n (k + 1) old) (below : k < length entries) (at : e ≡ get_or entries k e)
    (function_count : length new.functions.items ≡ length old.functions.items) (cycle_count : length new.cycles.items ≡ length old.cycles.items)
    (functions : (f : ℕ) → f < length old.functions.items → slice_index new.functions.items f ≡ (if is_same e.subject (Function f) then k + 1 else slice_index old.functions.items f))
    (cycles : (head : ℕ) → head < length old.cycles.items → slice_index new.cycles.items head ≡ (if is_same e.subject (Cycle head) then k + 1 else slice_index old.cycles.items head)) where
  pub number_put : AreNumbersFrom entries n k new
  number_put = grind (arith, drop_more)

pub all_numbers : (s : Sources) (entries : List GraphEntry) (numbers : Numbers) → entries ≡ graph_order s → AreNumbersFrom entries s.graph.functions 0 numbers → AreNumbers s numbers
all_numbers s entries numbers are_all are = grind (arith, first_of_all)

-- ---- each entry is of a function, or of a cycle whose head is one

numbers_inside : (make : ℕ → GraphEntry) (P : GraphEntry → Type 0) (p : ℕ → Bool) (n : ℕ) → ((k : ℕ) → k < n → p k ≡ true → P (make k)) → All P (map make (filter p (numbers_below n)))
numbers_inside make P p zero each = All-nil P
numbers_inside make P p (suc n) each =
    subst (λ (es : List ℕ). All P (map make es)) (sym (filter_next p n) ∙ ap (λ (m : ℕ). filter p (numbers_below m)) (add-one n))
    (subst (All P) (sym (map-append make (filter p (numbers_below n)) (cond (p n) (n ∷ []) [])))
    (All-append P (map make (filter p (numbers_below n))) (map make (cond (p n) (n ∷ []) [])) (numbers_inside make P p n (λ k low. each k (omega arith))) (last (p n) refl)))
  where
    last : (b : Bool) → p n ≡ b → All P (map make (cond b (n ∷ []) []))
    last b passes = grind arith

abbrev IsOfGraph : Sources → GraphEntry → Type 0
IsOfGraph s e = IsSubject s.graph e.subject

entries_of_graph : (s : Sources) → AreOfOne s → All (IsOfGraph s) (graph_entries s)
unfolding graph_entries
entries_of_graph s are =
    All-append (IsOfGraph s) _ _
    (numbers_inside (cycle_entry s) (IsOfGraph s) (is_cycle s.graph) (component_count s.graph) (λ c low cycle. (are.graph.components.heads_below c low, ap (is_cycle s.graph) (are.graph.components.heads_in c low) ∙ cycle)))
    (numbers_inside (function_entry s) (IsOfGraph s) (has_entry s) s.graph.functions (λ f low shown. low))

ordered_of_graph : (s : Sources) → AreOfOne s → All (IsOfGraph s) (graph_order s)
unfolding graph_order
ordered_of_graph s are =
    All-from_recursion (IsOfGraph s) (in_order graph_comes_before (graph_entries s))
    (all_in_order graph_comes_before (IsOfGraph s) (graph_entries s) (recursion_from_All (IsOfGraph s) (graph_entries s) (entries_of_graph s are)))

-- so it is with rows
of_row : (s : Sources) (rows : List Row) (k : ℕ) (row : Row) → AreOfOne s → entries_of_rows rows ≡ graph_order s → k < length rows → row ≡ get_or rows k row → IsSubject s.graph row.subject
of_row s rows k row are all below at =
    let here : entry_of_row row ≡ get_or (entries_of_rows rows) k (entry_of_row row) = ap entry_of_row at ∙ sym (get_or-map entry_of_row rows k row (entry_of_row row) below) in
    let each : All (IsOfGraph s) (entries_of_rows rows) = subst (All (IsOfGraph s)) (sym all) (ordered_of_graph s are) in
    subst (IsOfGraph s) (sym here) (each k (entry_of_row row) (omega (arith, length-map rows entry_of_row)))

subject_prop : (g : GraphValue) (subject : Subject) → IsProp (IsSubject g subject)
subject_prop g (Cycle head) = hlevel props
subject_prop g (Function f) = hlevel props

pub row_of_graph : (i : Inputs) (rows : List Row) (k : ℕ) (row : Row) → entries_of_rows rows ≡ graph_order (sources_in i) → k < length rows → row ≡ get_or rows k row → IsSubject i.sources.graph.now row.subject
row_of_graph i rows k row all below at = ∥∥₁_elim i.graph (subject_prop i.sources.graph.now row.subject) (λ is. of_row (sources_in i) rows k row (of_one i is) all below at)

subject_inside : (g : GraphValue) (subject : Subject) → IsSubject g subject → first_function subject < g.functions
subject_inside g subject is = grind arith

pub row_inside : (i : Inputs) (rows : List Row) (k : ℕ) (row : Row) → entries_of_rows rows ≡ graph_order (sources_in i) → k < length rows → row ≡ get_or rows k row → first_function row.subject < i.sources.graph.now.functions
row_inside i rows k row all below at = subject_inside i.sources.graph.now row.subject (row_of_graph i rows k row all below at)
