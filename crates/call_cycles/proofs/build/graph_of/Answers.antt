use Rattle.std.proofs.Common.{◌≡◌, ◌<◌, ℕ, List, [], length, slice_index, refl, ◌∙◌, sym, ap, subst, arith}
use Rattle.std.specs.Prelude.{◌==◌}
use Rattle.std.specs.List.{count_by}
use Rattle.call_cycles.specs.declared.graphs.FunArc.{FunArc}
use Rattle.call_cycles.specs.Graph.{entering_of, all_calls, AreComponents}
use Rattle.call_cycles.specs.Arcs.{AreByCaller, AreWithin}
use Rattle.call_cycles.specs.Parts.{headless_graph, graph_of_parts, arcs_calls}
use Rattle.call_cycles.specs.Sums.{list_of}
use Rattle.call_cycles.proofs.ArcLemmas.{by_caller}
use Rattle.call_cycles.proofs.ListLemmas.{list_long, list_at}
use Rattle.call_cycles.proofs.EnteringLemmas.{entering_same}
use Rattle.call_cycles.proofs.build.graph_of.Goals as goal

pub found_components-requires-clause-ordered : goal.found_components-requires-clause-ordered
found_components-requires-clause-ordered c = subst AreByCaller (sym c.deref.ensures.value) (by_caller c.args.arcs.items c.requires.ordered)

pub entering-requires-clause-within : goal.entering-requires-clause-within
entering-requires-clause-within c =
    let are = c.in_ok-found.ensures.components [] in
    let a : AreWithin c.args.functions c.deref-3.result.now = subst (AreWithin c.args.functions) (sym c.deref-3.ensures.value) c.requires.within in
    let n : length c.deref-2.result.now ≡ c.args.functions = ap length c.deref-2.ensures.value ∙ are.each in
    subst (λ (k : ℕ). AreWithin k c.deref-3.result.now) (sym n) a

pub entering-requires-clause-components : goal.entering-requires-clause-components
entering-requires-clause-components c =
    let are = c.in_ok-found.ensures.components [] in
    let inside : (f : ℕ) → f < length c.deref-2.result.now → slice_index c.in_ok-found.found.component.items f < c.len.result = λ f below. (let w = are.within f (omega arith) in omega arith) in
    subst (λ (xs : List ℕ). (f : ℕ) → f < length c.deref-2.result.now → slice_index xs f < c.len.result) (sym c.deref-2.ensures.value) inside

pub member_counts-requires-clause-functions : goal.member_counts-requires-clause-functions
member_counts-requires-clause-functions c = omega (arith, c.in_ok-found.ensures.components [])

pub member_counts-requires-clause-within : goal.member_counts-requires-clause-within
member_counts-requires-clause-within c =
    let are = c.in_ok-found.ensures.components [] in
    let inside : (f : ℕ) → f < length c.deref-4.result.now → slice_index c.in_ok-found.found.component.items f < c.len-2.result = λ f below. (let w = are.within f (omega arith) in omega arith) in
    subst (λ (xs : List ℕ). (f : ℕ) → f < length c.deref-4.result.now → slice_index xs f < c.len-2.result) (sym c.deref-4.ensures.value) inside

pub returns-clause-components : goal.returns-clause-components
returns-clause-components c =
    let are = subst (λ (xs : List FunArc). AreComponents (graph_of_parts c.args.functions xs c.args.self_calls.items c.in_ok-found.found.component.items c.in_ok-found.found.heads.items)) c.deref.ensures.value (c.in_ok-found.ensures.components c.args.self_calls.items) in
    record {
      arcs = record { callers = λ i below. (c.requires.within i below).0; callees = λ i below. (c.requires.within i below).1; called = λ i below. (c.requires.called i below).0; apart = λ i below. (c.requires.called i below).1; rising = c.requires.ordered };
      components = are;
    }

pub returns-clause-calls : goal.returns-clause-calls
unfolding all_calls arcs_calls
returns-clause-calls c = refl

pub invariant_of-result : goal.invariant_of-result
invariant_of-result c =
    let arcs = c.deref.ensures.value in
    let are = subst (λ (xs : List FunArc). AreComponents (graph_of_parts c.args.functions xs c.args.self_calls.items c.in_ok-found.found.component.items c.in_ok-found.found.heads.items)) arcs (c.in_ok-found.ensures.components c.args.self_calls.items) in
    let len : c.len.result ≡ length c.in_ok-found.found.heads.items = c.len.ensures ∙ c.in_ok-found.found.heads.ok.0 in
    let entered : c.in_ok-entering.entering.items ≡ list_of (length c.in_ok-found.found.heads.items) (entering_of (headless_graph c.in_ok-found.found.component.items c.args.arcs.items)) =
    c.in_ok-entering.ensures.each
    ∙ ap (λ (k : ℕ). list_of k (entering_of (headless_graph c.deref-2.result.now c.deref-3.result.now))) len
    ∙ ap (λ (xs : List ℕ). list_of (length c.in_ok-found.found.heads.items) (entering_of (headless_graph xs c.deref-3.result.now))) c.deref-2.ensures.value
    ∙ ap (λ (xs : List FunArc). list_of (length c.in_ok-found.found.heads.items) (entering_of (headless_graph c.in_ok-found.found.component.items xs))) c.deref-3.ensures.value in
    let len_again : c.len-2.result ≡ length c.in_ok-found.found.heads.items = c.len-2.ensures ∙ c.in_ok-found.found.heads.ok.0 in
    let counted : c.in_ok-members.members.items ≡ list_of (length c.in_ok-found.found.heads.items) (λ k. count_by (λ d. d == k) c.in_ok-found.found.component.items) =
    c.in_ok-members.ensures.each
    ∙ ap (λ (k : ℕ). list_of k (λ b. count_by (λ d. d == b) c.deref-4.result.now)) len_again
    ∙ ap (λ (xs : List ℕ). list_of (length c.in_ok-found.found.heads.items) (λ b. count_by (λ d. d == b) xs)) c.deref-4.ensures.value in
    let few = c.in_ok-found.ensures.few in
    record {
      graph = record {
        arcs = record { callers = λ i below. (c.requires.within i below).0; callees = λ i below. (c.requires.within i below).1; called = λ i below. (c.requires.called i below).0; apart = λ i below. (c.requires.called i below).1; rising = c.requires.ordered };
        components = are;
      };
      self_calls = c.requires.self_calls;
      members = list_long _ _ c.in_ok-members.members.items counted;
      counted = λ k below. list_at _ _ c.in_ok-members.members.items counted k below;
      entering = list_long _ _ c.in_ok-entering.entering.items entered;
      entered = λ k below. list_at _ _ c.in_ok-entering.entering.items entered k below ∙ entering_same (graph_of_parts c.args.functions c.args.arcs.items c.args.self_calls.items c.in_ok-found.found.component.items c.in_ok-found.found.heads.items) k;
      few = omega arith;
    }
