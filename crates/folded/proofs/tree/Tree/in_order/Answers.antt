use Rattle.std.proofs.Common.{◌≡◌, ◌∙◌, ℕ, List, Bool, ap, min, length, rules, subst}
use Rattle.std.specs.List.Sorted.{IsPermutation}
use Rattle.std.specs.Ordering.{is_lt}
use Rattle.std.proofs.lemmas.Fn.{always_returns_same}
use Rattle.std.proofs.lemmas.List.{with_items_is}
use Rattle.std.proofs.lemmas.List.Sorted.{IsPermutation-trans, length_permutation, ranks_by}
use Rattle.folded.specs.Nodes.{node_cmp, numbers_from, stack_of_node}
use Rattle.folded.proofs.CompareLemmas.{stacks_total}
use Rattle.folded.proofs.OrderLemmas.{in_order}
use Rattle.folded.proofs.tree.Tree.in_order.Goals as goal

pub returns : goal.returns
returns c =
    let t = c.args.self.now in
    let before : ℕ → ℕ → Bool = λ a b. is_lt (node_cmp t.nodes.items a b) in
    let compares = always_returns_same _ (λ a r. is_lt r ≡ before a.0.now a.1.0.now) _ (λ a r g k. (ap is_lt (search rules), search rules)) in
    let numbers = numbers_from 0 t.counts.items in
    let placed = c.arrange.new.numbers in
    let sorted = c.sort_unstable_by.new.self.items in
    let first : IsPermutation c.in_ok-numbers.numbers.items placed = subst (λ (x : List ℕ). IsPermutation x placed) c.as_mut_slice-2.ensures.value c.in_ok-arrange.ensures in
    let written = with_items_is c.in_ok-numbers.numbers placed (length_permutation c.as_mut_slice-2.result.now placed c.in_ok-arrange.ensures ∙ c.as_mut_slice-2.ensures.len) in
    let all = IsPermutation-trans numbers placed sorted (subst (λ (x : List ℕ). IsPermutation x placed) c.in_ok-numbers.ensures first) (subst (λ (x : List ℕ). IsPermutation x sorted) written c.sort_unstable_by.ensures.permutation) in
    in_order t sorted all (c.sort_unstable_by.ensures.sorted before (ranks_by stacks_total (λ (n : ℕ). stack_of_node t.nodes.items (min n (length t.nodes.items)))) compares)
