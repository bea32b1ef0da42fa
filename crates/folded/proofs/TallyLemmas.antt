-- Marks of functions, and what is counted in the end.
use Rattle.std.proofs.Common.{◌≡◌, ◌∙◌, ◌<◌, ◌≤◌, ℕ, Bool, List, [], ◌∷◌, length, get_or, map, take, ap, arith, cond, refl, sym, subst, Option}
use Rattle.std.specs.List.{AllByRecursion}
use Rattle.std.specs.List.Sorted.{IsStrictlySortedBy}
use Rattle.std.specs.Map.{keys_of}
use Rattle.std.proofs.lemmas.List.{get_or-map, length-map}
use Rattle.std.proofs.lemmas.List.Sums.{sum_by-le-sum_by, sum_by-take-le}
use Rattle.folded.specs.Nodes.{IsInOrder, IsTreeOf, any_stack, line_of_node, samples_of_lines, stack_of_node}
use Rattle.folded.specs.Stacks.{has_function, stack_cmp}
use Rattle.folded.specs.Tally.{Folds, mark_at}
use Rattle.folded.specs.declared.tally.Mark.{Mark}
use Rattle.folded.specs.declared.tree.Tree.{Tree}
use Rattle.folded.proofs.LineLemmas.{HaveEach, lines_are}

abbrev Stack : Type 0
Stack = List (Option ℕ)

abbrev pub Lines : Type 0
Lines = List (List (Option ℕ) × ℕ)

abbrev blank : Mark
blank = record { count = 0; places = 0; since = 0 }

abbrev pub weight : (Stack → Bool) → Stack × ℕ → ℕ
weight test l = cond (test l.0) l.1 0

-- what a front of the lines has is no more than what all have
pub front_few : (test : Stack → Bool) (lines : Lines) (i : ℕ) → samples_of_lines test (take i lines) ≤ samples_of_lines any_stack lines
front_few test lines i = grind (arith, sum_by-le-sum_by, sum_by-take-le)

-- ---- all that is told of a tree in order

keys_are : (t : Tree) (order : List ℕ) → keys_of (map (line_of_node t) order) ≡ map (stack_of_node t.nodes.items) order
keys_are t [] = refl
keys_are t (n ∷ order) = ap (λ (x : List Stack). stack_of_node t.nodes.items n ∷ x) (keys_are t order)

each_are : (t : Tree) (order : List ℕ) → AllByRecursion (λ (n : ℕ). 0 < get_or t.counts.items n 0) order → HaveEach (map (line_of_node t) order)
each_are t [] all = tt
each_are t (n ∷ order) all = (all.0, each_are t order all.1)

pub folds_of : (t : Tree) (order : List ℕ) (marks : List Mark) (stacks : List Stack) → IsInOrder t order → IsTreeOf stacks t → length marks ≡ t.functions
    → ((g : ℕ) → g < t.functions → (mark_at marks g).count ≡ samples_of_lines (has_function g) (map (line_of_node t) order))
    → Folds t.functions stacks (record { lines = map (line_of_node t) order; total = t.total; inclusive = map (λ (m : Mark). m.count) marks })
folds_of t order marks stacks ordered have long counts = record {
  lines = lines_are (map (line_of_node t) order) stacks (subst (λ (x : List Stack). IsStrictlySortedBy stack_cmp x) (sym (keys_are t order)) ordered.ascend) (each_are t order ordered.sampled)
      (λ test. ordered.samples test ∙ have.samples test);
  total = have.number;
  functions_are = length-map marks (λ (m : Mark). m.count) ∙ long;
  inclusive = λ g below. (
      let inside : g < length marks = omega (arith, below, long) in
      get_or-map (λ (m : Mark). m.count) marks g blank 0 inside ∙ counts g below ∙ ordered.samples (has_function g) ∙ have.samples (has_function g)
      );
}
