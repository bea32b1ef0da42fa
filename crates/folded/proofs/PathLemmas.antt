-- Paths go back to where two stacks part, and down by one node.
use Rattle.std.proofs.Common.{◌≡◌, ◌∙◌, ◌+◌, ◌<◌, ◌≤◌, ◌++◌, ℕ, [], ◌∷◌, length, get_or, set, take, append_assoc, ap, arith, sym, Option}
use Rattle.std.specs.Prelude.{◌⊎◌}
use Rattle.std.proofs.lemmas.List.{get_or-set_other, get_or-set_same, length-append, length-set, length-take-le, length_push, take-set-le, take_at, take_more_set}
use Rattle.std.proofs.lemmas.List.Elements.{All-get_or}
use Rattle.folded.specs.Links.{node_of}
use Rattle.folded.specs.Nodes.{IsShort, node_stacks, stack_of_node}
use Rattle.folded.specs.Paths.{IsPath, first_path, functions_of}
use Rattle.folded.specs.declared.path.Path.{Path}
use Rattle.folded.specs.declared.tree.Tree.{Tree}
use Rattle.folded.proofs.NodeLemmas.{Nodes, Stack, length_stacks, stack_of_none}
use Rattle.folded.proofs.PlaceLemmas.{last_of}

-- the stack of a node begins with that of another one
pub record Begins (nodes : Nodes) (node front : ℕ) : Type 0 where
  pub inside : front ≤ length nodes
  pub rest : Stack
  pub is : stack_of_node nodes node ≡ stack_of_node nodes front ++ rest

pub short_stack : (t : Tree) → (n : ℕ) → n ≤ length t.nodes.items → length (stack_of_node t.nodes.items n) ≤ 129
short_stack t n inside = (All-get_or (IsShort t.functions) (node_stacks t.nodes.items) n [] (omega (arith, inside, length_stacks t.nodes.items)) t.is_tree.stacks).0

pub begins_up : (t : Tree) → (node front : ℕ) → 0 < front → Begins t.nodes.items node front → Begins t.nodes.items node (node_of t.nodes.items front).0
begins_up t node front some b =
    let last = last_of t.nodes.items t.counts.items t.total t.functions t.is_tree front some b.inside in
    grind (arith, append_assoc)

-- where the stack of the first functions is that of a front
pub shared_front : (nodes : Nodes) (p : Path) (node front len : ℕ) → IsPath nodes p → len ≤ p.len → get_or p.nodes len 0 ≡ front → Begins nodes node front
    → (len ≤ length (stack_of_node nodes node)) × (take len p.functions ≡ take len (stack_of_node nodes node))
shared_front nodes p node front len path within here b = grind (arith, length-take-le, length-append, take_at)

-- one node more
pub path_down : (t : Tree) → (p : Path) (node : ℕ) (f : Option ℕ) → 0 < node → node ≤ length t.nodes.items → f ≡ (node_of t.nodes.items node).1 → IsPath t.nodes.items p → functions_of p ≡ stack_of_node t.nodes.items (node_of t.nodes.items node).0
    → (p.len < 129) × IsPath t.nodes.items (record { functions = set p.functions p.len f; nodes = set p.nodes (p.len + 1) node; len = p.len + 1 }) × (take (p.len + 1) (set p.functions p.len f) ≡ stack_of_node t.nodes.items node)
path_down t p node f some inside function path stack =
    let nodes = t.nodes.items in
    let last = last_of nodes t.counts.items t.total t.functions t.is_tree node some inside in
    let above = stack_of_node nodes (node_of nodes node).0 in
    let depth : length (functions_of p) ≡ p.len = length-take-le p.len p.functions (omega (arith, path.few, path.functions)) in
    let few : p.len < 129 = omega (arith, short_stack t node inside, ap (λ (s : Stack). length s) last.1, length_push above (node_of nodes node).1, ap (λ (s : Stack). length s) stack, depth) in
    let more : take (p.len + 1) (set p.functions p.len f) ≡ stack_of_node nodes node =
    take_more_set p.functions p.len f (omega (arith, few, path.functions)) ∙ (λ i. stack i ++ function i ∷ []) ∙ sym last.1 in (
      few,
      record {
        few = omega (arith, few);
        functions = length-set p.functions p.len f ∙ path.functions;
        numbers = length-set p.nodes (p.len + 1) node ∙ path.numbers;
        first = get_or-set_other p.nodes (p.len + 1) 0 node 0 (λ same. absurd (omega (arith, same))) ∙ path.first;
        stacks = λ k le. at k le (below k p.len le) few more;
      },
      more,
    )
  where
    below : (k n : ℕ) → k ≤ n + 1 → (k ≤ n) ⊎ (k ≡ n + 1)
    below k n le = grind (arith, le)

    at : (k : ℕ) → k ≤ p.len + 1 → (k ≤ p.len) ⊎ (k ≡ p.len + 1) → p.len < 129 → take (p.len + 1) (set p.functions p.len f) ≡ stack_of_node t.nodes.items node
        → (get_or (set p.nodes (p.len + 1) node) k 0 ≤ length t.nodes.items) × (stack_of_node t.nodes.items (get_or (set p.nodes (p.len + 1) node) k 0) ≡ take k (set p.functions p.len f))
    at k le this few more = grind (arith, get_or-set_other, take-set-le, get_or-set_same)

pub path_first : (nodes : Nodes) (p : Path) → p ≡ first_path → IsPath nodes p
path_first nodes p is = grind (arith, stack_of_none)
