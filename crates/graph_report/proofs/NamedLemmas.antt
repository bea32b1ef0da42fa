-- What a line names has an entry.
use Rattle.std.proofs.Common.{◌≡◌, ◌≢◌, ◌<◌, ◌≤◌, ℕ, zero, suc, ◌+◌, Bool, true, false, List, [], ◌∷◌, refl, ap, subst, ◌∙◌, arith}
use Rattle.std.specs.Prelude.{◌==◌, ◌||◌, nat_lt, if◌then◌else◌}
use Rattle.std.specs.List.{Contains, sum_by}
use Rattle.std.proofs.lemmas.Bool.{eq-eqb, eqb-false, lt-ltb}
use Rattle.std.proofs.lemmas.List.{get_or_default}
use Rattle.std.proofs.lemmas.List.Sums.{sum_by-append}
use Rattle.call_cycles.specs.declared.graphs.FunArc.{FunArc}
use Rattle.call_cycles.specs.Graph.{GraphValue, HasOtherMember, IsGraph, arc_at, arc_count, component_of, head_of, is_cycle, no_arc}
use Rattle.call_cycles.specs.Sums.{sum_below, when}
use Rattle.call_cycles.specs.Walks.{IsWalk, Reaches}
use Rattle.call_cycles.proofs.MemberLemmas.{cycles_are}
use Rattle.call_cycles.proofs.SumLemmas.{sum_front_le}
use Rattle.flat_report.specs.Sources.{Sources, calls_by_itself, calls_by_others, inclusive_total}
use Rattle.flat_report.proofs.OrderLemmas.{sum_in_order}
use Rattle.graph_report.specs.Entries.{GraphEntry, calls_of_others, graph_comes_before, graph_entries, function_entry, has_entry, is_same, number_in, graph_order}
use Rattle.graph_report.specs.Rows.{cycle_entries, function_entries}
use Rattle.graph_report.specs.declared.subjects.Subject.{Subject}
use Rattle.graph_report.specs.declared.subjects.Subject.TheVariants.{Function}
use Rattle.graph_report.proofs.NumberLemmas.{first_number, first_of_all}
use Rattle.graph_report.proofs.PlaceLemmas.{count_below, count_one, next_counted}

-- a subject that has an entry has a number
numbered : (subject : Subject) (base : ℕ) (es : List GraphEntry) → 1 ≤ sum_by (count_one subject) es → 0 < first_number base es subject
numbered subject base [] some = absurd (omega (arith, some))
numbered subject base (e ∷ es) some = by (λ more. numbered subject (base + 1) es more) (is_same e.subject subject) refl
  where
    by : (1 ≤ sum_by (count_one subject) es → 0 < first_number (base + 1) es subject) → (b : Bool) → is_same e.subject subject ≡ b → 0 < (if b then base + 1 else first_number (base + 1) es subject)
    by rest b here = grind arith

module _ (subject : Subject) (make : ℕ → GraphEntry) (p : ℕ → Bool) where
  some_below : (n k : ℕ) → k < n → p k ≡ true → is_same (make k).subject subject ≡ true → 1 ≤ count_below subject make p n
  some_below zero k low passes same = absurd (omega (arith, low))
  some_below (suc n) k low passes same = by (λ lower. some_below n k lower passes same) (nat_lt k n) refl
    where
      by : (k < n → 1 ≤ count_below subject make p n) → (b : Bool) → nat_lt k n ≡ b → 1 ≤ count_below subject make p (suc n)
      by rest b lower = grind (arith, next_counted)

some_entry : (s : Sources) (f : ℕ) → f < s.graph.functions → has_entry s f ≡ true → 1 ≤ sum_by (count_one (Function f)) (graph_entries s)
unfolding graph_entries
some_entry s f low has =
    omega (
      arith,
      sum_by-append (count_one (Function f)) (cycle_entries s) (function_entries s),
      some_below (Function f) (function_entry s) (has_entry s) s.graph.functions f low has (eq-eqb f f refl),
    )

some_ordered : (s : Sources) (f : ℕ) → f < s.graph.functions → has_entry s f ≡ true → 1 ≤ sum_by (count_one (Function f)) (graph_order s)
unfolding graph_order
some_ordered s f low has = omega (arith, some_entry s f low has, sum_in_order graph_comes_before (count_one (Function f)) (graph_entries s))

function_numbered : (s : Sources) (f : ℕ) → f < s.graph.functions → has_entry s f ≡ true → 0 < number_in (graph_order s) (Function f)
function_numbered s f low has = subst (λ (n : ℕ). 0 < n) (first_of_all (graph_order s) (Function f)) (numbered (Function f) 0 (graph_order s) (some_ordered s f low has))

second_holds : (a b c d : Bool) → b ≡ true → (a || b || c || d) ≡ true
second_holds a b c d holds = grind arith

third_holds : (a b c d : Bool) → c ≡ true → (a || b || c || d) ≡ true
third_holds a b c d holds = grind arith

some_calls : (g : GraphValue) (p : ℕ → Bool) (i : ℕ) → IsGraph g → i < arc_count g → p i ≡ true → 0 < sum_below (arc_count g) (λ j. when (p j) (arc_at g j).count)
some_calls g p i is low passes =
    let here : when (p i) (arc_at g i).count ≡ (arc_at g i).count = ap (λ (b : Bool). when b (arc_at g i).count) passes in
    omega (arith, is.arcs.called i low, here, sum_front_le (suc i) (arc_count g) (λ j. when (p j) (arc_at g j).count) (omega arith))

pub caller_named : (s : Sources) (i : ℕ) → IsGraph s.graph → i < arc_count s.graph → 0 < number_in (graph_order s) (Function (arc_at s.graph i).caller)
caller_named s i is low =
    let f = (arc_at s.graph i).caller in
    let calls : 0 < calls_of_others s.graph f = some_calls s.graph (λ j. (arc_at s.graph j).caller == f) i is low (eq-eqb f f refl) in
    function_numbered s f (is.arcs.callers i low)
    (third_holds (nat_lt 0 (inclusive_total s f)) (nat_lt 0 (calls_by_others s.graph f)) (nat_lt 0 (calls_of_others s.graph f)) (nat_lt 0 (calls_by_itself s.graph f)) (lt-ltb 0 (calls_of_others s.graph f) calls))

pub callee_named : (s : Sources) (i : ℕ) → IsGraph s.graph → i < arc_count s.graph → 0 < number_in (graph_order s) (Function (arc_at s.graph i).callee)
callee_named s i is low =
    let f = (arc_at s.graph i).callee in
    let calls : 0 < calls_by_others s.graph f = some_calls s.graph (λ j. (arc_at s.graph j).callee == f) i is low (eq-eqb f f refl) in
    function_numbered s f (is.arcs.callees i low)
    (second_holds (nat_lt 0 (inclusive_total s f)) (nat_lt 0 (calls_by_others s.graph f)) (nat_lt 0 (calls_of_others s.graph f)) (nat_lt 0 (calls_by_itself s.graph f)) (lt-ltb 0 (calls_by_others s.graph f) calls))

-- ---- a member of a cycle calls another one

abbrev CallsSome : GraphValue → ℕ → Type 0
CallsSome g f = (i : ℕ) × (i < arc_count g) × ((arc_at g i).caller ≡ f)

calls_of_arc : (g : GraphValue) (f : ℕ) (a : FunArc) → Contains g.arcs a → a.caller ≡ f → CallsSome g f
calls_of_arc g f a holds from = (holds.0, holds.1, ap (λ (b : FunArc). b.caller) (get_or_default g.arcs holds.0 no_arc a holds.1 ∙ holds.2) ∙ from)

calls_of_walk : (g : GraphValue) (f h : ℕ) (walk : List FunArc) → f ≢ h → IsWalk g.arcs f walk h → CallsSome g f
calls_of_walk g f h [] apart leads = absurd (apart leads)
calls_of_walk g f h (a ∷ more) apart leads = calls_of_arc g f a leads.0 leads.1

calls_of_member : (g : GraphValue) (f h : ℕ) → IsGraph g → f < g.functions → h < g.functions → component_of g f ≡ component_of g h → f ≢ h → CallsSome g f
unfolding Reaches
calls_of_member g f h is low below same apart = grind (arith, calls_of_walk)

member_calls : (g : GraphValue) (f : ℕ) → IsGraph g → f < g.functions → is_cycle g (component_of g f) ≡ true → CallsSome g f
member_calls g f is low cycle =
    let c = component_of g f in
    let inside = is.components.within f low in
    let other : HasOtherMember g c = (cycles_are g c is inside).0 cycle in
    by other (f == head_of g c) refl
  where
    by : HasOtherMember g (component_of g f) → (b : Bool) → (f == head_of g (component_of g f)) ≡ b → CallsSome g f
    by other true is_head = grind (arith, calls_of_member)
    by other false not_head = search (calls_of_member, eqb-false, is.components.within, is.components.heads_below, is.components.heads_in)

pub member_named : (s : Sources) (f : ℕ) → IsGraph s.graph → f < s.graph.functions → is_cycle s.graph (component_of s.graph f) ≡ true → 0 < number_in (graph_order s) (Function f)
member_named s f is low cycle =
    let call = member_calls s.graph f is low cycle in
    subst (λ (h : ℕ). 0 < number_in (graph_order s) (Function h)) call.2 (caller_named s call.0 is call.1)
