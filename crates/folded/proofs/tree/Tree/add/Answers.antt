use Rattle.std.proofs.Common.{◌≡◌, ◌∙◌, ◌+◌, ◌<◌, ◌≤◌, ◌++◌, ◌∷◌, [], ℕ, length, get_or, set, arith, subst, sym}
use Rattle.std.proofs.lemmas.List.{get_or_default}
use Rattle.folded.specs.Nodes.{AreNodes, HaveSamples, any_stack, node_stacks, samples_on, stack_of_node}
use Rattle.folded.proofs.NodeLemmas.{length_stacks, samples_below}
use Rattle.folded.proofs.AddLemmas.{nodes_added, samples_added}
use Rattle.folded.proofs.tree.Tree.add.Goals as goal

pub overflow_add-index_mut : goal.overflow_add-index_mut
overflow_add-index_mut c =
    let t = c.args.self.now in
    let n = c.args.node in
    let inside : n < length t.counts.items = omega (arith, c.requires.node, c.args.self.now.is_tree.numbers) in
    let below : get_or t.counts.items n 0 ≤ samples_on any_stack (node_stacks t.nodes.items) t.counts.items = samples_below (node_stacks t.nodes.items) t.counts.items n inside (length_stacks t.nodes.items ∙ sym c.args.self.now.is_tree.numbers) in
    omega (arith, below, c.args.self.now.is_tree.sum, c.requires.total, c.index_mut.ensures.value, get_or_default t.counts.items n 0 c.index_mut.result.now inside)

pub invariant_of-self : goal.invariant_of-self
invariant_of-self c =
    let t = c.args.self.now in
    let n = c.args.node in
    let inside : n < length t.counts.items = omega (arith, c.requires.node, c.args.self.now.is_tree.numbers) in
    let was : get_or t.counts.items n 0 ≡ c.index_mut.result.now = get_or_default t.counts.items n 0 c.index_mut.result.now inside ∙ sym c.index_mut.ensures.value in
    record { is_tree = subst (λ (k : ℕ). AreNodes t.nodes.items (set t.counts.items n (k + 1)) (t.total + 1) t.functions) was (nodes_added t.nodes.items t.counts.items t.total t.functions c.args.self.now.is_tree n c.requires.node) }

pub returns-clause-one_more : goal.returns-clause-one_more
returns-clause-one_more c = λ stacks have.
    let t = c.args.self.now in
    let n = c.args.node in
    let inside : n < length t.counts.items = omega (arith, c.requires.node, c.args.self.now.is_tree.numbers) in
    let was : get_or t.counts.items n 0 ≡ c.index_mut.result.now = get_or_default t.counts.items n 0 c.index_mut.result.now inside ∙ sym c.index_mut.ensures.value in
    let H : ℕ → Type 0 = λ k. HaveSamples (stacks ++ stack_of_node t.nodes.items n ∷ []) t.nodes.items (set t.counts.items n (k + 1)) (t.total + 1) in
    subst H was (samples_added t.nodes.items t.counts.items t.total t.functions c.args.self.now.is_tree n c.requires.node stacks have)
