-- One more node, and one more sample.
use Rattle.std.proofs.Common.{◌≡◌, ◌∙◌, ◌+◌, ◌^◌, ◌<◌, ◌≤◌, ◌++◌, ◌⊎◌, inl, inr, ℕ, zero, suc, Bool, List, [], ◌∷◌, length, get_or, set, arith, cond, refl, sym, subst, Option, None}
use Rattle.std.specs.List.{All}
use Rattle.std.specs.Option.{IfSome}
use Rattle.std.proofs.lemmas.List.{get_or_append_left, get_or_push, length-set, length_push}
use Rattle.std.proofs.lemmas.List.Elements.{All-get_or, All-push}
use Rattle.std.proofs.lemmas.List.Sums.{sum_by_push}
use Rattle.folded.specs.Links.{EndsAt}
use Rattle.folded.specs.Nodes.{AreNodes, HasStack, HaveSamples, IsShort, any_stack, node_stacks, samples_on, stack_of_node}
use Rattle.folded.proofs.NodeLemmas.{Nodes, Stack, length_stacks, samples-push, samples-set, stack_of_made, stacks_with}

-- ---- a node that is there

pub has_stack : (nodes : Nodes) (i caller : ℕ) (function : Option ℕ) → ((k : ℕ) → k < length nodes → (get_or nodes k (0, None)).0 ≤ k) → i < length nodes → get_or nodes i (0, None) ≡ (caller, function)
    → HasStack nodes (i + 1) (stack_of_node nodes caller ++ function ∷ [])
has_stack nodes i caller function callers inside is = grind (arith, stack_of_made)

-- the same, where the search for it ends
pub found_node : (nodes : Nodes) (n caller : ℕ) (function : Option ℕ) → ((k : ℕ) → k < length nodes → (get_or nodes k (0, None)).0 ≤ k) → n ≤ length nodes → 0 < n → EndsAt nodes caller function n
    → HasStack nodes n (stack_of_node nodes caller ++ function ∷ [])
found_node nodes zero caller function callers inside some ends = absurd (omega (arith, some))
found_node nodes (suc i) caller function callers inside some (inl none) = absurd (omega (arith, none))
found_node nodes (suc i) caller function callers inside some (inr is) =
    let next : i + 1 ≡ suc i = omega arith in
    grind (arith, has_stack)

-- no node is that of a caller and a function
abbrev pub IsAbsent : Nodes → ℕ → Option ℕ → Type 0
IsAbsent nodes caller function = (i : ℕ) → i < length nodes → get_or nodes i (0, None) ≡ (caller, function) → ⊥

-- ---- a node that is made

below_or_last : (i n : ℕ) → i < n + 1 → (i < n) ⊎ (i ≡ n)
below_or_last zero zero inside = inr refl
below_or_last zero (suc n) inside = inl (omega arith)
below_or_last (suc i) zero inside = absurd (omega (arith, inside))
below_or_last (suc i) (suc n) inside = by (below_or_last i n (omega (arith, inside)))
  where
    by : (i < n) ⊎ (i ≡ n) → (suc i < suc n) ⊎ (suc i ≡ suc n)
    by this = grind arith

module _ (nodes : Nodes) (counts : List ℕ) (total functions : ℕ) (is : AreNodes nodes counts total functions) (caller : ℕ) (function : Option ℕ) where
  abbrev more : Nodes
  more = nodes ++ (caller, function) ∷ []

  before : (i : ℕ) → i < length nodes → get_or more i (0, None) ≡ get_or nodes i (0, None)
  before i inside = get_or_append_left nodes ((caller, function) ∷ []) (0, None) i inside

  last : (i : ℕ) → i ≡ length nodes → get_or more i (0, None) ≡ (caller, function)
  last i at = get_or_push nodes (caller, function) (0, None) i (sym at)

  samples_same : (test : Stack → Bool) → samples_on test (node_stacks more) (counts ++ 0 ∷ []) ≡ samples_on test (node_stacks nodes) counts
  samples_same test = grind (arith, stacks_with, samples-push, length_stacks)

  pub node_made : caller ≤ length nodes → length nodes + 1 < 2 ^ 32 → length (stack_of_node nodes caller) < 129 → IfSome function (λ f. f < functions) → IsAbsent nodes caller function
      → AreNodes more (counts ++ 0 ∷ []) total functions
  node_made low few short below absent = record {
    callers = λ i inside. caller_at i (below_or_last i (length nodes) (omega (arith, inside, length_push nodes (caller, function))));
    distinct = λ i j a b same. apart i j (below_or_last i (length nodes) (omega (arith, a, length_push nodes (caller, function)))) (below_or_last j (length nodes) (omega (arith, b, length_push nodes (caller, function)))) same;
    numbers = omega (arith, length_push counts 0, length_push nodes (caller, function), is.numbers);
    few = omega (arith, few, length_push nodes (caller, function));
    stacks = subst (λ (x : List Stack). All (IsShort functions) x) (sym (stacks_with nodes (caller, function))) (All-push (IsShort functions) (node_stacks nodes) (stack_of_node nodes caller ++ function ∷ []) is.stacks short_one);
    sum = omega (arith, samples_same any_stack, is.sum);
  }
    where
      front : IsShort functions (stack_of_node nodes caller)
      front = All-get_or (IsShort functions) (node_stacks nodes) caller [] (omega (arith, low, length_stacks nodes)) is.stacks

      short_one : IsShort functions (stack_of_node nodes caller ++ function ∷ [])
      short_one = (omega (arith, length_push (stack_of_node nodes caller) function, short), All-push (λ (o : Option ℕ). IfSome o (λ f. f < functions)) (stack_of_node nodes caller) function front.1 below)

      caller_at : (i : ℕ) → (i < length nodes) ⊎ (i ≡ length nodes) → (get_or more i (0, None)).0 ≤ i
      caller_at i this = grind (arith, before, last)

      apart : (i j : ℕ) → (i < length nodes) ⊎ (i ≡ length nodes) → (j < length nodes) ⊎ (j ≡ length nodes) → get_or more i (0, None) ≡ get_or more j (0, None) → i ≡ j
      apart i j this given same = grind (arith, before, last)

  pub samples_kept : (stacks : List Stack) → HaveSamples stacks nodes counts total → HaveSamples stacks more (counts ++ 0 ∷ []) total
  samples_kept stacks have = record { samples = λ test. samples_same test ∙ have.samples test; number = have.number }

-- ---- one more sample

module _ (nodes : Nodes) (counts : List ℕ) (total functions : ℕ) (is : AreNodes nodes counts total functions) (node : ℕ) (inside : node ≤ length nodes) where
  one_more : (test : Stack → Bool) → samples_on test (node_stacks nodes) (set counts node (get_or counts node 0 + 1)) ≡ samples_on test (node_stacks nodes) counts + cond (test (stack_of_node nodes node)) 1 0
  one_more test = samples-set test (node_stacks nodes) counts node (omega (arith, inside, is.numbers)) (length_stacks nodes ∙ sym is.numbers)

  pub nodes_added : AreNodes nodes (set counts node (get_or counts node 0 + 1)) (total + 1) functions
  nodes_added = grind (arith, length-set, one_more)

  pub samples_added : (stacks : List Stack) → HaveSamples stacks nodes counts total → HaveSamples (stacks ++ stack_of_node nodes node ∷ []) nodes (set counts node (get_or counts node 0 + 1)) (total + 1)
  samples_added stacks have = grind (arith, one_more, sum_by_push, length_push)

-- ---- what grew

pub same_parts : (nodes other_nodes : Nodes) (counts other_counts : List ℕ) (total other_total functions other_functions : ℕ) → nodes ≡ other_nodes → counts ≡ other_counts → total ≡ other_total → functions ≡ other_functions → AreNodes other_nodes other_counts other_total other_functions → AreNodes nodes counts total functions
same_parts nodes other_nodes counts other_counts total other_total functions other_functions a b c d is = grind arith

pub same_samples : (stacks : List Stack) (nodes other_nodes : Nodes) (counts other_counts : List ℕ) (total other_total : ℕ) → nodes ≡ other_nodes → counts ≡ other_counts → total ≡ other_total → HaveSamples stacks other_nodes other_counts other_total → HaveSamples stacks nodes counts total
same_samples stacks nodes other_nodes counts other_counts total other_total a b c have = grind arith
