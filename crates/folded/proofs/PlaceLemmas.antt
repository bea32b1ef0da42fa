-- Places go up and down, and stacks are read from their ends.
use Rattle.std.proofs.Common.{◌≡◌, ◌∙◌, ◌+◌, ◌-◌, ◌<◌, ◌≤◌, ◌++◌, ℕ, zero, suc, List, [], ◌∷◌, length, get_or, take, map, append_assoc, ap, arith, sym, Option, None}
use Rattle.std.proofs.lemmas.List.{get_or-map, length-map, length_push, take_at, take-take, take_more}
use Rattle.elf32_syms.specs.declared.image.Symbol.{Symbol}
use Rattle.folded.specs.Links.{node_of}
use Rattle.folded.specs.Nodes.{AreNodes, IsGrown, stack_of_node}
use Rattle.folded.specs.Stacks.{caller_in}
use Rattle.folded.specs.declared.tree.Tree.{Tree}
use Rattle.folded.proofs.NodeLemmas.{Nodes, Stack, stack_behind, stack_of_made, stack_of_none}

module _ (nodes : Nodes) (counts : List ℕ) (total functions : ℕ) (is : AreNodes nodes counts total functions) where
  abbrev caller_of : ℕ → ℕ
  caller_of n = (node_of nodes n).0

  -- a stack that isn't empty ends in the function of its node
  pub last_of : (n : ℕ) → 0 < n → n ≤ length nodes → (caller_of n ≤ length nodes) × (stack_of_node nodes n ≡ stack_of_node nodes (caller_of n) ++ (node_of nodes n).1 ∷ [])
  last_of zero some inside = absurd (omega (arith, some))
  last_of (suc n) some inside =
      let fits : n < length nodes = omega (arith, inside) in
      let low = is.callers n fits in
      let one : suc n ≡ n + 1 = omega arith in
      (omega (arith, low, fits), ap (λ (k : ℕ). stack_of_node nodes k) one ∙ stack_of_made nodes n fits low)

  pub placed_up : (n depth : ℕ) → n ≤ length nodes → length (stack_of_node nodes n) ≡ depth → 0 < depth
      → (caller_of n ≤ length nodes) × (length (stack_of_node nodes (caller_of n)) ≡ depth - 1) × (stack_of_node nodes (caller_of n) ≡ take (depth - 1) (stack_of_node nodes n))
  placed_up n depth inside long some = grind (arith, last_of, length_push, take_at, stack_of_none)

-- so many of the first functions
pub up_more : (s top now : Stack) (depth : ℕ) → top ≡ take depth s → now ≡ take (depth - 1) top → now ≡ take (depth - 1) s
up_more s top now depth is next = next ∙ ap (take (depth - 1)) is ∙ take-take (depth - 1) depth s (omega arith)

-- ---- one call more

pub call_more : (symbols : List Symbol) (frames : List ℕ) (depth : ℕ) (stack : Stack) (f : Option ℕ) → depth < length frames → stack ≡ take depth (map (caller_in symbols) frames) → f ≡ caller_in symbols (get_or frames depth 0)
    → stack ++ f ∷ [] ≡ take (depth + 1) (map (caller_in symbols) frames)
call_more symbols frames depth stack f inside is here =
    let calls = map (caller_in symbols) frames in
    let fits : depth < length calls = omega (arith, inside, length-map frames (caller_in symbols)) in
    (λ t. is t ++ here t ∷ []) ∙ ap (λ (x : Option ℕ). take depth calls ++ x ∷ []) (sym (get_or-map (caller_in symbols) frames depth 0 None inside)) ∙ sym (take_more calls depth None fits)

-- ---- what stays when nodes are added

pub IsGrown-then : (a b c : Tree) → IsGrown a b → IsGrown b c → IsGrown a c
IsGrown-then a b c one two = grind (arith, append_assoc)

pub stack_stays : (nodes new more : Nodes) (n : ℕ) → new ≡ nodes ++ more → n ≤ length nodes → stack_of_node new n ≡ stack_of_node nodes n
stack_stays nodes new more n is inside = ap (λ (x : Nodes). stack_of_node x n) is ∙ stack_behind nodes more n inside
