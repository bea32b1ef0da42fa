-- The tree of calls: a node for each stack that was entered, with the number of samples that have it.
use Rattle.std.specs.Prelude.{◌≡◌, ℕ, zero, suc, ◌+◌, ◌<◌, ◌≤◌, nat_lt, min, Bool, List, [], ◌∷◌, ◌++◌, length, map, count_by, sum_by, take, slice_index_or, Option, Some, None, All, if◌then◌else◌}
use Rattle.std.specs.List.{AllByRecursion}
use Rattle.std.specs.List.Sorted.{IsStrictlySortedBy}
use Rattle.std.specs.declared.cmp.Ordering.{Ordering}
use Rattle.elf32_syms.specs.declared.image.Symbol.{Symbol}
use Rattle.folded.specs.declared.place.Place.{Place}
use Rattle.folded.specs.declared.tree.Tree.{Tree}
use Rattle.folded.specs.Links.{AreLinked}
pub use Rattle.folded.specs.NodeStacks.{AreNodes, IsShort, any_stack, node_stacks, samples_on, stack_of_node, with_node}
use Rattle.folded.specs.Stacks.{stack_cmp}

abbrev pub called_of : List (ℕ × Option ℕ) → ℕ → Option (Option ℕ)
called_of nodes zero = None
called_of nodes (suc n) = Some (slice_index_or nodes n (0, None)).1

-- the order of nodes is that of their stacks; the last one's stands for those of all numbers above it
abbrev pub node_cmp : List (ℕ × Option ℕ) → ℕ → ℕ → Ordering
node_cmp nodes a b = stack_cmp (stack_of_node nodes (min a (length nodes))) (stack_of_node nodes (min b (length nodes)))

-- the nodes have samples with these stacks
pub record HaveSamples (stacks : List (List (Option ℕ))) (nodes : List (ℕ × Option ℕ)) (counts : List ℕ) (total : ℕ) : Type 0 where
  pub samples : (test : List (Option ℕ) → Bool) → samples_on test (node_stacks nodes) counts ≡ count_by test stacks
  pub number : total ≡ length stacks

abbrev pub IsTreeOf : List (List (Option ℕ)) → Tree → Type 0
IsTreeOf stacks t = HaveSamples stacks t.nodes.items t.counts.items t.total

-- nodes were added, and no sample
pub record IsGrown (old new : Tree) : Type 0 where
  pub more : List (ℕ × Option ℕ)
  pub nodes : new.nodes.items ≡ old.nodes.items ++ more
  pub functions : new.functions ≡ old.functions
  pub total : new.total ≡ old.total
  pub samples : (stacks : List (List (Option ℕ))) → IsTreeOf stacks old → IsTreeOf stacks new

-- what is kept of a run with these symbols
pub record IsTreeFor (symbols : List Symbol) (t : Tree) : Type 0 where
  pub linked : AreLinked t.nodes.items t.links.items
  pub functions : t.functions ≡ length symbols

-- nodes stand behind those that were there
pub record NodesAdded (old new : List (ℕ × Option ℕ)) : Type 0 where
  pub more : List (ℕ × Option ℕ)
  pub is : new ≡ old ++ more

-- node n is that of a stack
abbrev pub HasStack : List (ℕ × Option ℕ) → ℕ → List (Option ℕ) → Type 0
HasStack nodes n stack = (n ≤ length nodes) × (stack_of_node nodes n ≡ stack)

-- ---- where a hart's calls stand in it

abbrev pub first_place : Place
first_place = record { node = 0; depth = 0; near = 0 }

-- at the node of its stack's first functions
pub record IsPlaced (nodes : List (ℕ × Option ℕ)) (p : Place) : Type 0 where
  pub node : p.node ≤ length nodes
  pub depth : length (stack_of_node nodes p.node) ≡ p.depth

-- the calls begin with its stack
pub record IsOn (nodes : List (ℕ × Option ℕ)) (calls : List (Option ℕ)) (p : Place) : Type 0 where
  pub placed : IsPlaced nodes p
  pub begins : stack_of_node nodes p.node ≡ take p.depth calls

-- ---- the lines of a tree

abbrev pub line_of_node : Tree → ℕ → List (Option ℕ) × ℕ
line_of_node t n = (stack_of_node t.nodes.items n, slice_index_or t.counts.items n 0)

-- the numbers from n on whose nodes have samples
abbrev pub numbers_from : ℕ → List ℕ → List ℕ
numbers_from n [] = []
numbers_from n (c ∷ counts) = if nat_lt 0 c then n ∷ numbers_from (n + 1) counts else numbers_from (n + 1) counts

-- how many samples have a stack that passes a test, by lines
abbrev pub samples_of_lines : (List (Option ℕ) → Bool) → List (List (Option ℕ) × ℕ) → ℕ
samples_of_lines test lines = sum_by (λ (line : List (Option ℕ) × ℕ). if test line.0 then line.1 else 0) lines

-- these are the nodes that have samples, in the order of their stacks
pub record IsInOrder (t : Tree) (order : List ℕ) : Type 0 where
  pub ascend : IsStrictlySortedBy stack_cmp (map (stack_of_node t.nodes.items) order)
  pub numbers : All (λ n. n ≤ length t.nodes.items) order
  pub sampled : AllByRecursion (λ n. 0 < slice_index_or t.counts.items n 0) order
  pub samples : (test : List (Option ℕ) → Bool) → samples_of_lines test (map (line_of_node t) order) ≡ samples_on test (node_stacks t.nodes.items) t.counts.items
