-- Two nodes are compared where their stacks part.
use Rattle.std.proofs.Common.{◌≡◌, ◌∙◌, ◌+◌, ◌<◌, ◌≤◌, ◌++◌, ℕ, zero, suc, [], ◌∷◌, length, get_or, append_assoc, ap, arith, refl, sym, Option, Some, None}
use Rattle.std.specs.declared.cmp.Ordering.{Ordering}
use Rattle.std.specs.declared.cmp.Ordering.TheVariants.{Less, Equal, Greater}
use Rattle.std.specs.Ordering.{nat_cmp, ordering_reverse, ordering_then}
use Rattle.std.specs.Option.{option_cmp}
use Rattle.std.specs.Cmp.{IsTotalOrder, nat_cmp_total}
use Rattle.std.specs.Cmp.Lexicographic.{lists_total, options_total}
use Rattle.std.proofs.lemmas.Map.Lookups.{exact_unsigned}
use Rattle.folded.specs.Links.{node_of}
use Rattle.folded.specs.Nodes.{called_of, stack_of_node}
use Rattle.folded.specs.Stacks.{stack_cmp}
use Rattle.folded.specs.declared.tree.Tree.{Tree}
use Rattle.folded.proofs.NodeLemmas.{Nodes, Stack, stack_of_made}

pub stacks_total : IsTotalOrder stack_cmp
stacks_total = lists_total (options_total nat_cmp_total)

-- ---- stacks that compare alike are one

then_equal : (first second : Ordering) → ordering_then first second ≡ Equal → (first ≡ Equal) × (second ≡ Equal)
then_equal first second is = grind arith

pub exact_function : (f g : Option ℕ) → option_cmp nat_cmp f g ≡ Equal → f ≡ g
exact_function f g is = grind arith

pub exact_stack : (a b : Stack) → stack_cmp a b ≡ Equal → a ≡ b
exact_stack [] [] is = refl
exact_stack [] (g ∷ b) is = absurd cc
exact_stack (f ∷ a) [] is = absurd cc
exact_stack (f ∷ a) (g ∷ b) is =
    let both = then_equal (option_cmp nat_cmp f g) (stack_cmp a b) is in
    search (exact_function, exact_stack a b both.1)

pub same_stacks : (a : Stack) → stack_cmp a a ≡ Equal
same_stacks a = by (stack_cmp a a) refl
  where
    by : (o : Ordering) → stack_cmp a a ≡ o → stack_cmp a a ≡ Equal
    by Less is = absurd (let turned = stacks_total.antisymm a a in let wrong : Less ≡ Greater = sym is ∙ turned ∙ ap ordering_reverse is in cc)
    by Equal is = is
    by Greater is = absurd (let turned = stacks_total.antisymm a a in let wrong : Greater ≡ Less = sym is ∙ turned ∙ ap ordering_reverse is in cc)

-- ---- behind a common front

common_function : (f : Option ℕ) (o : Ordering) → ordering_then (option_cmp nat_cmp f f) o ≡ o
common_function None o = refl
common_function (Some n) o = ap (λ (x : Ordering). ordering_then x o) (same_number n)
  where
    same_number : (m : ℕ) → nat_cmp m m ≡ Equal
    same_number m = grind (arith, exact_unsigned)

behind_front : (front a b : Stack) → stack_cmp (front ++ a) (front ++ b) ≡ stack_cmp a b
behind_front [] a b = refl
behind_front (f ∷ front) a b = common_function f (stack_cmp (front ++ a) (front ++ b)) ∙ behind_front front a b

abbrev pub first_function : Stack → Option (Option ℕ)
first_function [] = None
first_function (f ∷ rest) = Some f

-- ---- nodes on the way to where two stacks part

-- from node a up to node x, and the last node before it; the other way is below that one
pub record Climbed (nodes : Nodes) (a x below other : ℕ) : Type 0 where
  pub inside : x ≤ length nodes
  pub rest : Stack
  pub is : stack_of_node nodes a ≡ stack_of_node nodes x ++ rest
  pub first : called_of nodes below ≡ first_function rest
  pub low : below ≤ length nodes
  pub caller : 0 < below → (node_of nodes below).0 ≡ x
  pub above : 0 < below → other < below

pub record Meets (nodes : Nodes) (a b x y below_x below_y : ℕ) : Type 0 where
  pub one : Climbed nodes a x below_x y
  pub other : Climbed nodes b y below_y x
  pub apart : 0 < below_x → below_x ≡ below_y → ⊥

module _ (t : Tree) where
  abbrev nodes_of : Nodes
  nodes_of = t.nodes.items

  up : (a x below other : ℕ) → 0 < x → other < x → Climbed nodes_of a x below other → Climbed nodes_of a (node_of nodes_of x).0 x other
  up a zero below other some less c = absurd (omega (arith, some))
  up a (suc n) below other some less c =
      let inside : n < length nodes_of = omega (arith, c.inside) in
      let low = t.is_tree.callers n inside in
      let node = get_or nodes_of n (0, None) in
      let one : suc n ≡ n + 1 = omega arith in
      grind (arith, stack_of_made, append_assoc)

  pub climb_one : (a b x y below_x below_y : ℕ) → y < x → Meets nodes_of a b x y below_x below_y → Meets nodes_of a b (node_of nodes_of x).0 y x below_y
  climb_one a b x y below_x below_y less m = grind (arith, up)

  pub climb_other : (a b x y below_x below_y : ℕ) → x < y → Meets nodes_of a b x y below_x below_y → Meets nodes_of a b x (node_of nodes_of y).0 below_x y
  climb_other a b x y below_x below_y less m = grind (arith, up)

  pub met : (a b x y below_x below_y : ℕ) → x ≡ y → Meets nodes_of a b x y below_x below_y → option_cmp (option_cmp nat_cmp) (called_of nodes_of below_x) (called_of nodes_of below_y) ≡ stack_cmp (stack_of_node nodes_of a) (stack_of_node nodes_of b)
  met a b x y below_x below_y same m = grind (arith, behind_front)
