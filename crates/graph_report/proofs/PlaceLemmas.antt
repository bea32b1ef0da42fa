-- The order of entries, and that the number of an entry is its place.
use Rattle.std.proofs.Common.{◌≡◌, ◌<◌, ◌≤◌, ℕ, zero, suc, ◌+◌, Bool, true, false, cond, List, [], ◌∷◌, ◌++◌, map, refl, ap, sym, ◌∙◌, arith, add-one}
use Rattle.std.specs.Prelude.{Some, ◌==◌, filter, slice_get, if◌then◌else◌}
use Rattle.std.specs.List.{sum_by}
use Rattle.std.specs.List.Sorted.{IsPermutation, IsSortedBy}
use Rattle.std.proofs.lemmas.Bool.{eqb-true}
use Rattle.std.proofs.lemmas.List.{map-append}
use Rattle.std.proofs.lemmas.List.Sums.{sum_by-cons, sum_by-append}
use Rattle.call_cycles.specs.Graph.{GraphValue, IsGraph, component_count, head_of, is_cycle}
use Rattle.call_cycles.specs.Sums.{numbers_below}
use Rattle.flat_report.specs.Sources.{Sources}
use Rattle.flat_report.proofs.OrderLemmas.{moved_in_order, order_is_sorted, sum_in_order}
use Rattle.graph_report.specs.Entries.{GraphEntry, graph_comes_before, cycle_entry, graph_entries, function_entry, has_entry, is_same, number_in, graph_order}
use Rattle.graph_report.specs.Rows.{cycle_entries, function_entries}
use Rattle.graph_report.specs.declared.subjects.Subject.{Subject}
use Rattle.graph_report.specs.declared.subjects.Subject.TheVariants.{Cycle, Function}
use Rattle.graph_report.proofs.EntryOrder.{entry_order}
use Rattle.graph_report.proofs.GroupLemmas.{filter_next}
use Rattle.graph_report.proofs.NumberLemmas.{first_number, first_of_all}

pub all_ordered : (s : Sources) → IsPermutation (cycle_entries s ++ function_entries s) (graph_order s)
unfolding graph_entries graph_order
all_ordered s = moved_in_order graph_comes_before (graph_entries s)

pub ascending_ordered : (s : Sources) → IsSortedBy graph_comes_before (graph_order s)
unfolding graph_order
ascending_ordered s = order_is_sorted graph_comes_before entry_order (graph_entries s)

-- ---- how many entries are of a subject

-- 1 for an entry of the subject
abbrev pub count_one : Subject → GraphEntry → ℕ
count_one subject e = cond (is_same e.subject subject) 1 0

pub one_counted : (subject : Subject) (e : GraphEntry) → is_same e.subject subject ≡ true → count_one subject e ≡ 1
one_counted subject e is = ap (λ (b : Bool). cond b 1 0) is

-- an entry of the subject is counted
counted : (subject : Subject) (es : List GraphEntry) (place : ℕ) (e : GraphEntry) → slice_get es place ≡ Some e → is_same e.subject subject ≡ true → 1 ≤ sum_by (count_one subject) es
counted subject [] place e at is = absurd (cc)
counted subject (f ∷ fs) zero e at is =
    let same : f ≡ e = cc in
    let one : count_one subject f ≡ 1 = ap (count_one subject) same ∙ one_counted subject e is in
    omega (arith, sum_by-cons (count_one subject) f fs, one)
counted subject (f ∷ fs) (suc k) e at is = omega (arith, sum_by-cons (count_one subject) f fs, counted subject fs k e at is)

-- where a subject has one entry only, its number is the place of that
only_number : (subject : Subject) (base : ℕ) (es : List GraphEntry) (place : ℕ) (e : GraphEntry) → sum_by (count_one subject) es ≤ 1
    → slice_get es place ≡ Some e → is_same e.subject subject ≡ true → first_number base es subject ≡ base + place + 1
only_number subject base [] place e few at is = absurd (cc)
only_number subject base (f ∷ fs) zero e few at is = grind arith
only_number subject base (f ∷ fs) (suc k) e few at is =
    by (only_number subject (base + 1) fs k e (omega (arith, few, sum_by-cons (count_one subject) f fs)) at is) (is_same f.subject subject) refl
  where
    by : first_number (base + 1) fs subject ≡ base + 1 + k + 1 → (b : Bool) → is_same f.subject subject ≡ b → (if b then base + 1 else first_number (base + 1) fs subject) ≡ base + suc k + 1
    by rest true here =
        let one : count_one subject f ≡ 1 = one_counted subject f here in
        absurd (omega (arith, few, sum_by-cons (count_one subject) f fs, one, counted subject fs k e at is))
    by rest false other = omega (arith, rest)

module _ (subject : Subject) (make : ℕ → GraphEntry) (p : ℕ → Bool) where
  -- the entries of the subject among those that are made from numbers below n
  abbrev pub count_below : ℕ → ℕ
  count_below n = sum_by (count_one subject) (map make (filter p (numbers_below n)))

  last_counted : (b : Bool) (n : ℕ) → sum_by (count_one subject) (map make (cond b (n ∷ []) [])) ≡ cond b (count_one subject (make n)) 0
  last_counted b n = grind arith

  pub next_counted : (n : ℕ) → count_below (suc n) ≡ count_below n + cond (p n) (count_one subject (make n)) 0
  next_counted n =
      ap count_below (sym (add-one n))
      ∙ ap (λ (ks : List ℕ). sum_by (count_one subject) (map make ks)) (filter_next p n)
      ∙ ap (sum_by (count_one subject)) (map-append make (filter p (numbers_below n)) (cond (p n) (n ∷ []) []))
      ∙ sum_by-append (count_one subject) (map make (filter p (numbers_below n))) (map make (cond (p n) (n ∷ []) []))
      ∙ ap (λ (x : ℕ). count_below n + x) (last_counted (p n) n)

  none_below : (n : ℕ) → ((k : ℕ) → k < n → p k ≡ true → is_same (make k).subject subject ≡ false) → count_below n ≡ 0
  none_below zero none = refl
  none_below (suc n) none = omega (arith, next_counted n, none_below n (λ k low. none k (omega arith)), last (p n) refl)
    where
      last : (b : Bool) → p n ≡ b → cond b (count_one subject (make n)) 0 ≡ 0
      last b passes = grind arith

  one_below : (n : ℕ) → ((k l : ℕ) → k < l → l < n → is_same (make k).subject subject ≡ true → is_same (make l).subject subject ≡ true → ⊥) → count_below n ≤ 1
  one_below zero apart = omega arith
  one_below (suc n) apart = by (one_below n (λ k l lower low. apart k l lower (omega arith))) (is_same (make n).subject subject) refl (p n) refl
    where
      last : (b : Bool) → p n ≡ b → cond (p n) (count_one subject (make n)) 0 ≡ cond b (count_one subject (make n)) 0
      last b passes = ap (λ (a : Bool). cond a (count_one subject (make n)) 0) passes

      by : count_below n ≤ 1 → (a : Bool) → is_same (make n).subject subject ≡ a → (b : Bool) → p n ≡ b → count_below (suc n) ≤ 1
      by rest a here b passes = grind (arith, none_below, next_counted)

-- two components have two heads
two_heads : (g : GraphValue) → IsGraph g → (head k l : ℕ) → k < l → l < component_count g → (head_of g k == head) ≡ true → (head_of g l == head) ≡ true → ⊥
two_heads g is head k l lower low here there = grind arith

two_functions : (f k l : ℕ) → k < l → (k == f) ≡ true → (l == f) ≡ true → ⊥
two_functions f k l lower here there = omega (arith, eqb-true k f here, eqb-true l f there)

one_of_each : (s : Sources) → IsGraph s.graph → (subject : Subject) → sum_by (count_one subject) (graph_entries s) ≤ 1
unfolding graph_entries
one_of_each s is (Cycle head) =
    omega (
      arith,
      sum_by-append (count_one (Cycle head)) (cycle_entries s) (function_entries s),
      one_below (Cycle head) (cycle_entry s) (is_cycle s.graph) (component_count s.graph) (two_heads s.graph is head),
      none_below (Cycle head) (function_entry s) (has_entry s) s.graph.functions (λ f low has. refl),
    )
one_of_each s is (Function f) =
    omega (
      arith,
      sum_by-append (count_one (Function f)) (cycle_entries s) (function_entries s),
      none_below (Function f) (cycle_entry s) (is_cycle s.graph) (component_count s.graph) (λ c low cycle. refl),
      one_below (Function f) (function_entry s) (has_entry s) s.graph.functions (λ k l lower low. two_functions f k l lower),
    )

one_ordered : (s : Sources) → IsGraph s.graph → (subject : Subject) → sum_by (count_one subject) (graph_order s) ≤ 1
unfolding graph_order
one_ordered s is subject = omega (arith, one_of_each s is subject, sum_in_order graph_comes_before (count_one subject) (graph_entries s))

same_itself : (subject : Subject) → is_same subject subject ≡ true
same_itself subject = grind arith

pub number_of_place : (s : Sources) (place : ℕ) (e : GraphEntry) → IsGraph s.graph → slice_get (graph_order s) place ≡ Some e → number_in (graph_order s) e.subject ≡ place + 1
number_of_place s place e is at =
    let count : 0 + place + 1 ≡ place + 1 = omega arith in
    sym (first_of_all (graph_order s) e.subject) ∙ only_number e.subject 0 (graph_order s) place e (one_ordered s is e.subject) at (same_itself e.subject) ∙ count
