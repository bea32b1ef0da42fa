-- The nodes of a tree of calls, their stacks, and how many samples have them.
use Rattle.std.specs.Prelude.{◌≡◌, ℕ, ◌+◌, ◌^◌, ◌<◌, ◌≤◌, Bool, true, List, [], ◌∷◌, ◌++◌, length, fold, slice_index_or, Option, None, All, if◌then◌else◌}
use Rattle.folded.specs.Stacks.{AreBelow}

-- by number: the stacks with that of one more node, which is its caller's with its function
abbrev pub with_node : List (List (Option ℕ)) → ℕ × Option ℕ → List (List (Option ℕ))
with_node stacks node = stacks ++ (slice_index_or stacks node.0 [] ++ node.1 ∷ []) ∷ []

-- 0 is the number of the empty stack, which has no node
abbrev pub node_stacks : List (ℕ × Option ℕ) → List (List (Option ℕ))
node_stacks nodes = fold with_node ([] ∷ []) nodes

abbrev pub stack_of_node : List (ℕ × Option ℕ) → ℕ → List (Option ℕ)
stack_of_node nodes n = slice_index_or (node_stacks nodes) n []

-- how many samples have a stack that passes a test, where each stack has so many
abbrev pub samples_on : (List (Option ℕ) → Bool) → List (List (Option ℕ)) → List ℕ → ℕ
samples_on test [] counts = 0
samples_on test (s ∷ stacks) [] = 0
samples_on test (s ∷ stacks) (n ∷ counts) = (if test s then n else 0) + samples_on test stacks counts

abbrev pub any_stack : List (Option ℕ) → Bool
any_stack s = true

-- a stack that can be kept: of 128 calls and the function that is sampled
abbrev pub IsShort : ℕ → List (Option ℕ) → Type 0
IsShort functions s = (length s ≤ 129) × AreBelow functions s

pub record AreNodes (nodes : List (ℕ × Option ℕ)) (counts : List ℕ) (total functions : ℕ) : Type 0 where
  -- callers come before
  pub callers : (i : ℕ) → i < length nodes → (slice_index_or nodes i (0, None)).0 ≤ i
  pub distinct : (i j : ℕ) → i < length nodes → j < length nodes → slice_index_or nodes i (0, None) ≡ slice_index_or nodes j (0, None) → i ≡ j
  pub numbers : length counts ≡ length nodes + 1
  pub few : length nodes < 2 ^ 32
  pub stacks : All (IsShort functions) (node_stacks nodes)
  pub sum : samples_on any_stack (node_stacks nodes) counts ≤ total
