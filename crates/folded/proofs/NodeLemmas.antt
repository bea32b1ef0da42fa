-- Stacks of nodes, and how many samples they have.
use Rattle.std.proofs.Common.{◌≡◌, ◌∙◌, ◌+◌, ◌<◌, ◌≤◌, ◌++◌, ℕ, zero, suc, Bool, List, [], ◌∷◌, length, get_or, set, ap, arith, cond, refl, sym, Option, None}
use Rattle.std.specs.Prelude.{fold}
use Rattle.std.proofs.lemmas.List.{get_or_append_left, get_or_push, length_push, same_from_push}
use Rattle.std.proofs.lemmas.List.Sums.{fold-append}
use Rattle.folded.specs.Nodes.{any_stack, node_stacks, samples_on, stack_of_node, with_node}

abbrev pub Stack : Type 0
Stack = List (Option ℕ)

abbrev pub Nodes : Type 0
Nodes = List (ℕ × Option ℕ)

abbrev node_at : Nodes → ℕ → ℕ × Option ℕ
node_at nodes i = get_or nodes i (0, None)

abbrev stacks_from : List Stack → Nodes → List Stack
stacks_from stacks nodes = fold with_node stacks nodes

abbrev next_stack : List Stack → ℕ × Option ℕ → Stack
next_stack stacks node = get_or stacks node.0 [] ++ node.1 ∷ []

length_from : (stacks : List Stack) (nodes : Nodes) → length (stacks_from stacks nodes) ≡ length stacks + length nodes
length_from stacks [] = omega arith
length_from stacks (n ∷ nodes) = omega (arith, length_from (with_node stacks n) nodes, length_push stacks (next_stack stacks n))

kept : (stacks : List Stack) (nodes : Nodes) (k : ℕ) → k < length stacks → get_or (stacks_from stacks nodes) k [] ≡ get_or stacks k []
kept stacks [] k inside = refl
kept stacks (n ∷ nodes) k inside =
    let more : k < length (with_node stacks n) = omega (arith, inside, length_push stacks (next_stack stacks n)) in
    kept (with_node stacks n) nodes k more ∙ get_or_append_left stacks (next_stack stacks n ∷ []) [] k inside

made : (stacks : List Stack) (nodes : Nodes) (i : ℕ) → i < length nodes → (node_at nodes i).0 < length stacks + i
    → get_or (stacks_from stacks nodes) (length stacks + i) [] ≡ get_or (stacks_from stacks nodes) (node_at nodes i).0 [] ++ (node_at nodes i).1 ∷ []
made stacks [] i inside below = absurd (omega (arith, inside))
made stacks (n ∷ nodes) zero inside below = grind (arith, length_push, kept, get_or_push, get_or_append_left)
made stacks (n ∷ nodes) (suc i) inside below =
    let next = with_node stacks n in
    grind (arith, length_push, made next nodes i)

pub length_stacks : (nodes : Nodes) → length (node_stacks nodes) ≡ length nodes + 1
length_stacks nodes = omega (arith, length_from ([] ∷ []) nodes)

pub stack_of_made : (nodes : Nodes) (i : ℕ) → i < length nodes → (node_at nodes i).0 ≤ i → stack_of_node nodes (i + 1) ≡ stack_of_node nodes (node_at nodes i).0 ++ (node_at nodes i).1 ∷ []
stack_of_made nodes i inside below =
    let same : i + 1 ≡ length {A = Stack} ([] ∷ []) + i = omega arith in
    ap (λ (k : ℕ). get_or (node_stacks nodes) k []) same ∙ made ([] ∷ []) nodes i inside (omega (arith, below))

pub stack_of_none : (nodes : Nodes) → stack_of_node nodes 0 ≡ []
stack_of_none nodes = kept ([] ∷ []) nodes 0 (omega arith)

pub stacks_with : (nodes : Nodes) (n : ℕ × Option ℕ) → node_stacks (nodes ++ n ∷ []) ≡ with_node (node_stacks nodes) n
stacks_with nodes n = fold-append with_node ([] ∷ []) nodes (n ∷ [])

pub stack_behind : (nodes more : Nodes) (k : ℕ) → k ≤ length nodes → stack_of_node (nodes ++ more) k ≡ stack_of_node nodes k
stack_behind nodes more k inside = grind (arith, fold-append, kept, length_stacks)

-- ---- no two nodes have one stack

module _ (nodes : Nodes) (callers : (i : ℕ) → i < length nodes → (node_at nodes i).0 ≤ i)
    (distinct : (i j : ℕ) → i < length nodes → j < length nodes → node_at nodes i ≡ node_at nodes j → i ≡ j) where
  one_by : (fuel i j : ℕ) → i < fuel → i ≤ length nodes → j ≤ length nodes → stack_of_node nodes i ≡ stack_of_node nodes j → i ≡ j
  one_by zero i j few a b same = absurd (omega (arith, few))
  one_by (suc fuel) zero zero few a b same = refl
  one_by (suc fuel) zero (suc j) few a b same =
      let inside : j < length nodes = omega (arith, b) in
      let is = stack_of_made nodes j inside (callers j inside) in
      let front = stack_of_node nodes (node_at nodes j).0 in
      let one : suc j ≡ j + 1 = omega arith in
      let none : [] ≡ front ++ (node_at nodes j).1 ∷ [] = sym (stack_of_none nodes) ∙ same ∙ ap (λ (k : ℕ). stack_of_node nodes k) one ∙ is in
      absurd (omega (arith, ap (λ (s : Stack). length s) none, length_push front (node_at nodes j).1))
  one_by (suc fuel) (suc i) zero few a b same =
      let inside : i < length nodes = omega (arith, a) in
      let is = stack_of_made nodes i inside (callers i inside) in
      let front = stack_of_node nodes (node_at nodes i).0 in
      let one : suc i ≡ i + 1 = omega arith in
      let none : [] ≡ front ++ (node_at nodes i).1 ∷ [] = sym (stack_of_none nodes) ∙ sym same ∙ ap (λ (k : ℕ). stack_of_node nodes k) one ∙ is in
      absurd (omega (arith, ap (λ (s : Stack). length s) none, length_push front (node_at nodes i).1))
  one_by (suc fuel) (suc i) (suc j) few a b same =
      let in_i : i < length nodes = omega (arith, a) in
      let in_j : j < length nodes = omega (arith, b) in
      let low_i = callers i in_i in
      let low_j = callers j in_j in
      let one_i : suc i ≡ i + 1 = omega arith in
      let one_j : suc j ≡ j + 1 = omega arith in
      let both = same_from_push (stack_of_node nodes (node_at nodes i).0) (stack_of_node nodes (node_at nodes j).0) (node_at nodes i).1 (node_at nodes j).1
      (sym (ap (λ (k : ℕ). stack_of_node nodes k) one_i ∙ stack_of_made nodes i in_i low_i) ∙ same ∙ ap (λ (k : ℕ). stack_of_node nodes k) one_j ∙ stack_of_made nodes j in_j low_j) in
      let caller = one_by fuel (node_at nodes i).0 (node_at nodes j).0 (omega (arith, few, low_i)) (omega (arith, low_i, in_i)) (omega (arith, low_j, in_j)) both.0 in
      let node : node_at nodes i ≡ node_at nodes j = λ t. (caller t, both.1 t) in
      ap suc (distinct i j in_i in_j node)

  pub one_node : (i j : ℕ) → i ≤ length nodes → j ≤ length nodes → stack_of_node nodes i ≡ stack_of_node nodes j → i ≡ j
  one_node i j a b same = one_by (suc i) i j (omega arith) a b same

-- ---- one more node, and one more sample

module _ (test : Stack → Bool) where
  pub samples-push : (stacks : List Stack) (counts : List ℕ) (s : Stack) → length stacks ≡ length counts → samples_on test (stacks ++ s ∷ []) (counts ++ 0 ∷ []) ≡ samples_on test stacks counts
  samples-push [] [] s long = by (test s)
    where
      by : (b : Bool) → cond b 0 0 + 0 ≡ 0
      by b = grind arith
  samples-push [] (c ∷ counts) s long = absurd (omega (arith, long))
  samples-push (x ∷ stacks) [] s long = absurd (omega (arith, long))
  samples-push (x ∷ stacks) (c ∷ counts) s long = ap (λ (n : ℕ). cond (test x) c 0 + n) (samples-push stacks counts s (omega (arith, long)))

  pub samples-set : (stacks : List Stack) (counts : List ℕ) (i : ℕ) → i < length counts → length stacks ≡ length counts
      → samples_on test stacks (set counts i (get_or counts i 0 + 1)) ≡ samples_on test stacks counts + cond (test (get_or stacks i [])) 1 0
  samples-set [] [] i inside long = absurd (omega (arith, inside))
  samples-set [] (c ∷ counts) i inside long = absurd (omega (arith, long))
  samples-set (x ∷ stacks) [] i inside long = absurd (omega (arith, long))
  samples-set (x ∷ stacks) (c ∷ counts) zero inside long = by (test x) (samples_on test stacks counts)
    where
      by : (b : Bool) (rest : ℕ) → cond b (c + 1) 0 + rest ≡ (cond b c 0 + rest) + cond b 1 0
      by b rest = grind arith
  samples-set (x ∷ stacks) (c ∷ counts) (suc i) inside long = grind (arith, samples-set stacks counts i)

-- no stack has more samples than there are
pub samples_below : (stacks : List Stack) (counts : List ℕ) (i : ℕ) → i < length counts → length stacks ≡ length counts → get_or counts i 0 ≤ samples_on any_stack stacks counts
samples_below [] [] i inside long = absurd (omega (arith, inside))
samples_below [] (c ∷ counts) i inside long = absurd (omega (arith, long))
samples_below (x ∷ stacks) [] i inside long = absurd (omega (arith, long))
samples_below (x ∷ stacks) (c ∷ counts) zero inside long = omega arith
samples_below (x ∷ stacks) (c ∷ counts) (suc i) inside long = grind (arith, samples_below stacks counts i)
