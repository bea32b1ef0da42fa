use Rattle.std.proofs.Common.{◌≡◌, ◌∙◌, ◌+◌, ◌<◌, ◌++◌, ◌∷◌, [], ℕ, Option, None, List, arith, ap, get_or, length, refl, set, subst, sym}
use Rattle.std.proofs.lemmas.List.{get_or_default, get_or_push, length_push}
use Rattle.folded.specs.declared.links.Links.{Links}
use Rattle.folded.specs.Links.{AreLinked, no_links, with_link}
use Rattle.folded.specs.Nodes.{AreNodes, HasStack, stack_of_node}
use Rattle.folded.proofs.NodeLemmas.{Nodes, Stack}
use Rattle.folded.proofs.AddLemmas.{has_stack, node_made, same_parts, same_samples, samples_kept}
use Rattle.folded.proofs.LinkLemmas.{linked_made, nowhere}
use Rattle.folded.proofs.PlaceLemmas.{stack_stays}
use Rattle.folded.proofs.tree.Tree.make.Goals as goal

pub invariant_of-self-in-Break-branch-4 : goal.invariant_of-self-in-Break-branch-4
invariant_of-self-in-Break-branch-4 c =
    let t = c.args.self.now in
    let node : ℕ × Option ℕ = (c.args.caller, c.args.function) in
    let absent = nowhere t.nodes.items t.links.items c.args.caller c.args.function c.args.above c.args.side c.requires.linked c.requires.reached c.requires.empty in
    let counts = c.in_ok-push-2.ensures.items ∙ ap (λ (x : List ℕ). x ++ 0 ∷ []) c.reserve.ensures.items in
    record {
      is_tree = same_parts c.push.new.self.items (t.nodes.items ++ node ∷ []) c.push-2.new.self.items (t.counts.items ++ 0 ∷ []) t.total t.total t.functions t.functions c.in_ok-push.ensures.items counts refl refl
          (node_made t.nodes.items t.counts.items t.total t.functions t.is_tree c.args.caller c.args.function c.requires.caller c.requires.few c.requires.depth c.requires.function absent);
    }

pub invariant_of-self-2 : goal.invariant_of-self-2
invariant_of-self-2 c =
    let t = c.args.self.now in
    let node : ℕ × Option ℕ = (c.args.caller, c.args.function) in
    let absent = nowhere t.nodes.items t.links.items c.args.caller c.args.function c.args.above c.args.side c.requires.linked c.requires.reached c.requires.empty in
    let counts = c.in_ok-push-2.ensures.items ∙ ap (λ (x : List ℕ). x ++ 0 ∷ []) c.reserve.ensures.items in
    record {
      is_tree = same_parts c.push.new.self.items (t.nodes.items ++ node ∷ []) c.push-2.new.self.items (t.counts.items ++ 0 ∷ []) t.total t.total t.functions t.functions c.in_ok-push.ensures.items counts refl refl
          (node_made t.nodes.items t.counts.items t.total t.functions t.is_tree c.args.caller c.args.function c.requires.caller c.requires.few c.requires.depth c.requires.function absent);
    }

pub returns-clause-linked : goal.returns-clause-linked
returns-clause-linked c =
    let t = c.args.self.now in
    let above = c.args.above in
    let side = c.args.side in
    let node : ℕ × Option ℕ = (c.args.caller, c.args.function) in
    let longer : List Links = t.links.items ++ no_links ∷ [] in
    let links = c.push-3.new.self.items in
    let longer_is : links ≡ longer = c.in_ok-push-3.ensures.items ∙ ap (λ (l : Links). t.links.items ++ l ∷ []) c.none.ensures in
    let inside : above < length links = omega (arith, ap (λ (x : List Links). length x) longer_is, length_push t.links.items no_links, c.requires.linked.numbers, c.requires.reached.inside) in
    let number : c.len-node.result ≡ length t.nodes.items + 1 = omega (arith, c.len-node.ensures, ap (λ (x : Nodes). length x) c.in_ok-push.ensures.items, length_push t.nodes.items node) in
    let was : c.index_mut.result.now ≡ get_or longer above no_links = c.index_mut.ensures.value ∙ get_or_default links above c.index_mut.result.now no_links inside ∙ ap (λ (x : List Links). get_or x above no_links) longer_is in
    let now : c.set.new.self ≡ with_link side (length t.nodes.items + 1) (get_or longer above no_links) = c.set.ensures ∙ (λ i. with_link side (number i) (was i)) in
    let made = linked_made t.nodes.items t.links.items c.args.caller c.args.function above side c.requires.linked c.requires.reached c.requires.empty in
    let L : List Links → Type 0 = λ x. AreLinked (t.nodes.items ++ node ∷ []) x in
    let N : Nodes → Type 0 = λ x. AreLinked x (set links above c.set.new.self) in
    subst N (sym c.in_ok-push.ensures.items) (subst L (sym (λ i. set (longer_is i) above (now i))) made)

pub returns-clause-grown : goal.returns-clause-grown
returns-clause-grown c =
    let t = c.args.self.now in
    let node : ℕ × Option ℕ = (c.args.caller, c.args.function) in
    record {
      more = node ∷ [];
      nodes = c.in_ok-push.ensures.items;
      functions = refl;
      total = refl;
      samples = λ stacks have. same_samples stacks c.push.new.self.items (t.nodes.items ++ node ∷ []) c.push-2.new.self.items (t.counts.items ++ 0 ∷ []) t.total t.total c.in_ok-push.ensures.items (c.in_ok-push-2.ensures.items ∙ ap (λ (x : List ℕ). x ++ 0 ∷ []) c.reserve.ensures.items) refl
          (samples_kept t.nodes.items t.counts.items t.total t.functions c.args.self.now.is_tree c.args.caller c.args.function stacks have);
    }

pub returns-clause-node : goal.returns-clause-node
returns-clause-node c =
    let t = c.args.self.now in
    let node : ℕ × Option ℕ = (c.args.caller, c.args.function) in
    let new = c.push.new.self.items in
    let here : get_or new (length t.nodes.items) (0, None) ≡ node = ap (λ (x : Nodes). get_or x (length t.nodes.items) (0, None)) c.in_ok-push.ensures.items ∙ get_or_push t.nodes.items node (0, None) (length t.nodes.items) refl in
    let more : length new ≡ length t.nodes.items + 1 = ap (λ (x : Nodes). length x) c.in_ok-push.ensures.items ∙ length_push t.nodes.items node in
    let number : c.len-node.result ≡ length t.nodes.items + 1 = omega (arith, c.len-node.ensures, more) in
    let absent = nowhere t.nodes.items t.links.items c.args.caller c.args.function c.args.above c.args.side c.requires.linked c.requires.reached c.requires.empty in
    let made : AreNodes c.push.new.self.items c.push-2.new.self.items t.total t.functions =
    same_parts c.push.new.self.items (t.nodes.items ++ node ∷ []) c.push-2.new.self.items (t.counts.items ++ 0 ∷ []) t.total t.total t.functions t.functions c.in_ok-push.ensures.items (c.in_ok-push-2.ensures.items ∙ ap (λ (x : List ℕ). x ++ 0 ∷ []) c.reserve.ensures.items) refl refl
    (node_made t.nodes.items t.counts.items t.total t.functions c.args.self.now.is_tree c.args.caller c.args.function c.requires.caller c.requires.few c.requires.depth c.requires.function absent) in
    let at = has_stack new (length t.nodes.items) c.args.caller c.args.function made.callers (omega (arith, more)) here in
    let H : ℕ → Type 0 = λ n. HasStack new n (stack_of_node t.nodes.items c.args.caller ++ c.args.function ∷ []) in
    subst H (sym number) (at.0, at.1 ∙ ap (λ (s : Stack). s ++ c.args.function ∷ []) (stack_stays t.nodes.items new (node ∷ []) c.args.caller c.in_ok-push.ensures.items c.requires.caller))
