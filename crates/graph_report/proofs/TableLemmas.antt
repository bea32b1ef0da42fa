-- What the tables hold, from the keys of arcs.
use Rattle.std.proofs.Common.{◌≡◌, ◌≢◌, ◌<◌, ℕ, zero, suc, Bool, true, false, cond, ◌&&◌, not, List, [], ◌∷◌, ◌++◌, refl, ap, sym, ◌∙◌, subst, ⊎_elim, arith, add-one}
use Rattle.std.specs.Prelude.{◌==◌, filter, if◌then◌else◌}
use Rattle.std.proofs.Math.Bool.{and-false}
use Rattle.std.proofs.lemmas.Bool.{cases_eq, ne_eqb}
use Rattle.std.proofs.lemmas.List.FromFn.{fill_by_all, length-map-range_with_len, get_or-map-range_with_len}
use Rattle.call_cycles.specs.Graph.{GraphValue, arc_at, arc_count, component_count, component_of, is_cycle, is_outside, target_of, enters}
use Rattle.call_cycles.specs.Sums.{sum_below, when, list_of, numbers_below}
use Rattle.call_cycles.proofs.SumLemmas.{sum_ext}
use Rattle.call_cycles.proofs.ListLemmas.{list_long, list_at}
use Rattle.flat_report.specs.Sources.{calls_by_others}
use Rattle.graph_report.specs.Cycles.{inner_calls, is_inner_arc}
use Rattle.graph_report.specs.Entries.{calls_of_others}
use Rattle.graph_report.specs.GraphText.{arcs_from, arcs_to, members_of}
use Rattle.graph_report.specs.Groups.{AreGroups, arc_key, calls_with, places_with}
use Rattle.graph_report.specs.Lists.{start_of}
use Rattle.graph_report.specs.Tables.{arcs_into_cycle}
use Rattle.graph_report.specs.declared.groups.Groups.{Groups}
use Rattle.graph_report.specs.declared.arc_key.ArcKey.TheVariants.{Caller, Callee, Entered, Inner}
use Rattle.graph_report.proofs.GroupLemmas.{filter_next}
use Rattle.graph_report.proofs.PlacingLemmas.{lists_agree, starts_agree}

-- tests that agree below an end
filter_same : (p q : ℕ → Bool) (n : ℕ) → ((i : ℕ) → i < n → p i ≡ q i) → filter p (numbers_below n) ≡ filter q (numbers_below n)
filter_same p q zero same = refl
filter_same p q (suc n) same =
    ap (λ (m : ℕ). filter p (numbers_below m)) (sym (add-one n)) ∙ filter_next p n
    ∙ ap (λ (xs : List ℕ). xs ++ cond (p n) (n ∷ []) []) (filter_same p q n (λ i h. same i (omega arith)))
    ∙ ap (λ (b : Bool). filter q (numbers_below n) ++ cond b (n ∷ []) []) (same n (omega arith))
    ∙ sym (filter_next q n) ∙ ap (λ (m : ℕ). filter q (numbers_below m)) (add-one n)

-- functions that agree below an end
list_same : (n : ℕ) (f h : ℕ → ℕ) → ((k : ℕ) → k < n → f k ≡ h k) → list_of n f ≡ list_of n h
list_same n f h same = fill_by_all h (list_of n f) n 0 (length-map-range_with_len f 0 n) (λ k low. get_or-map-range_with_len f 0 n k k 0 low (omega arith) ∙ same k low)

-- groups by a function of the places
module _ (n : ℕ) (key : ℕ → ℕ) (keys : List ℕ) (are : keys ≡ list_of n key) where
  pub places_are : (k : ℕ) → places_with keys k ≡ filter (λ i. key i == k) (numbers_below n)
  places_are k = grind (arith, list_long, filter_same, list_at)

  pub lists_are : (count : ℕ) (test : ℕ → ℕ → Bool) (groups : Groups) → AreGroups count (places_with keys) groups → ((k : ℕ) → k < count → (i : ℕ) → i < n → (key i == k) ≡ test k i) → AreGroups count (λ k. filter (test k) (numbers_below n)) groups
  lists_are count test groups are_groups tests = search (lists_agree, places_are, filter_same)

-- outside arcs by the cycle that they enter, inside ones by where they stay
entered_key : (cycle : ℕ → Bool) (b : Bool) (t n k : ℕ) → k < n → ((let x : ℕ = if b && cycle t then t else n in x) == k) ≡ (cycle k && (b && (t == k)))
entered_key cycle false t n k low = ne_eqb n k (λ q. omega arith) ∙ sym (and-false (cycle k))
entered_key cycle true t n k low = ⊎_elim (λ (at : t ≡ k). subst (λ (j : ℕ). ((let x : ℕ = if cycle t then t else n in x) == j) ≡ (cycle j && (t == j))) at (same at (cycle t))) (λ (apart : t ≢ k). other apart (cycle t)) (cases_eq t k)
  where
    same : t ≡ k → (b : Bool) → ((let x : ℕ = if b then t else n in x) == t) ≡ (b && (t == t))
    same at b = grind arith

    other : t ≢ k → (b : Bool) → ((let x : ℕ = if b then t else n in x) == k) ≡ (cycle k && (t == k))
    other apart b = grind arith

inner_key : (b : Bool) (t n k : ℕ) → k < n → ((let x : ℕ = if b then n else t in x) == k) ≡ (not b && (t == k))
inner_key b t n k low = grind arith

module _ (g : GraphValue) (keys : List ℕ) where
  pub lists_to : (groups : Groups) → keys ≡ list_of (arc_count g) (arc_key g Callee) → AreGroups g.functions (places_with keys) groups → AreGroups g.functions (arcs_to g) groups
  lists_to groups are are_groups = lists_are (arc_count g) (arc_key g Callee) keys are g.functions (λ f i. (arc_at g i).callee == f) groups are_groups (λ k low i h. refl)

  pub starts_from : (starts : List ℕ) → keys ≡ list_of (arc_count g) (arc_key g Caller) → starts ≡ list_of (suc g.functions) (start_of (places_with keys)) → starts ≡ list_of (suc g.functions) (start_of (arcs_from g))
  starts_from starts are is = is ∙ starts_agree g.functions (places_with keys) (arcs_from g) (λ k low. places_are (arc_count g) (arc_key g Caller) keys are k)

  pub lists_into : (groups : Groups) → keys ≡ list_of (arc_count g) (arc_key g Entered) → AreGroups (component_count g) (places_with keys) groups → AreGroups (component_count g) (arcs_into_cycle g) groups
  lists_into groups are are_groups =
      lists_are (arc_count g) (arc_key g Entered) keys are (component_count g) (λ c i. is_cycle g c && enters g c i) groups are_groups
      (λ k low i h. entered_key (is_cycle g) (is_outside g i) (target_of g i) (component_count g) k low)

  pub lists_members : (groups : Groups) → keys ≡ list_of g.functions (component_of g) → AreGroups (component_count g) (places_with keys) groups → AreGroups (component_count g) (members_of g) groups
  lists_members groups are are_groups = lists_are g.functions (component_of g) keys are (component_count g) (λ c f. component_of g f == c) groups are_groups (λ k low i h. refl)

  calls_same : (key : ℕ → ℕ) (test : ℕ → ℕ → Bool) (count : ℕ) (sums : List ℕ) → keys ≡ list_of (arc_count g) key → ((k : ℕ) → k < count → (i : ℕ) → i < arc_count g → (key i == k) ≡ test k i)
      → (k : ℕ) → k < count → calls_with g keys k ≡ sum_below (arc_count g) (λ i. when (test k i) (arc_at g i).count)
  calls_same key test count sums are tests k low = grind (arith, sum_ext, list_at)

  pub sums_to : (sums : List ℕ) → keys ≡ list_of (arc_count g) (arc_key g Callee) → sums ≡ list_of g.functions (calls_with g keys) → sums ≡ list_of g.functions (calls_by_others g)
  sums_to sums are is = is ∙ list_same g.functions (calls_with g keys) (calls_by_others g) (calls_same (arc_key g Callee) (λ f i. (arc_at g i).callee == f) g.functions sums are (λ k low i h. refl))

  pub sums_from : (sums : List ℕ) → keys ≡ list_of (arc_count g) (arc_key g Caller) → sums ≡ list_of g.functions (calls_with g keys) → sums ≡ list_of g.functions (calls_of_others g)
  sums_from sums are is = is ∙ list_same g.functions (calls_with g keys) (calls_of_others g) (calls_same (arc_key g Caller) (λ f i. (arc_at g i).caller == f) g.functions sums are (λ k low i h. refl))

  pub sums_inside : (sums : List ℕ) → keys ≡ list_of (arc_count g) (arc_key g Inner) → sums ≡ list_of (component_count g) (calls_with g keys) → sums ≡ list_of (component_count g) (inner_calls g)
  unfolding inner_calls
  sums_inside sums are is =
      is
      ∙ list_same (component_count g) (calls_with g keys) (inner_calls g)
      (calls_same (arc_key g Inner) (is_inner_arc g) (component_count g) sums are (λ k low i h. inner_key (is_outside g i) (target_of g i) (component_count g) k low))
