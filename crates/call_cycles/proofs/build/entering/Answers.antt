use Rattle.std.proofs.Common.{◌≡◌, ◌<◌, ℕ, ◌+◌, length, slice_index, get_or, refl, ◌∙◌, sym, ap, arith, length-set}
use Rattle.std.proofs.lemmas.Grind.{get_or_default_zero}
use Rattle.std.proofs.lemmas.List.FromFn.{fill_by_all}
use Rattle.call_cycles.specs.Graph.{no_arc, target_of, entering_of}
use Rattle.call_cycles.specs.Parts.{headless_graph}
use Rattle.call_cycles.proofs.EnteringLemmas.{arcs_fit, entered_all, seen_same, seen_more}
use Rattle.call_cycles.proofs.build.entering.Goals as goal
use Rattle.call_cycles.proofs.build.entering.Goals.{then-c-d, else-c-d}

pub overflow_add-index_mut : goal.overflow_add-index_mut
overflow_add-index_mut c = grind (arith, arcs_fit, get_or_default_zero)

pub loop-a-preserved : goal.loop-a-preserved
loop-a-preserved c =
    let g = headless_graph c.args.component.now c.args.arcs.now in
    let i = c.loop-a.a-index in
    let d = target_of g i in
    let len = c.loop-a.invariant.len in
    let low : d < c.args.count = c.requires.components (get_or c.args.arcs.now i no_arc).callee (c.requires.within i c.loop-a-test.true).1 in
    let inside : d < length c.loop-a.calls.items = omega arith in
    elim c.if-c-d.branch [
      | then-c-d w ↦ record {
        len = rw w.calls-is (length-set c.loop-a.calls.items d _ ∙ len);
        each = λ e h.
            let read : w.index_mut.result.now ≡ slice_index c.loop-a.calls.items d = w.index_mut.ensures.value ∙ get_or_default_zero _ _ _ inside in
            rw w.calls-is (seen_more g c.args.count i d c.loop-a.calls.items (w.index_mut.result.now + (get_or c.args.arcs.now i no_arc).count) refl w.if-c-d.true inside c.loop-a.invariant.each low (ap (λ (x : ℕ). x + (get_or c.args.arcs.now i no_arc).count) read) e h);
      }
      | else-c-d w ↦ record {
        len = rw w.calls-is len;
        each = λ e h. rw w.calls-is (c.loop-a.invariant.each e h ∙ sym (seen_same g i w.if-c-d.false e));
      }
    ]

pub returns : goal.returns
returns c = record {
  each = fill_by_all (entering_of (headless_graph c.args.component.now c.args.arcs.now)) c.loop-a.calls.items c.args.count 0 c.loop-a.invariant.len (λ d h. c.loop-a.invariant.each d h ∙ entered_all c.args.component.now c.args.arcs.now d c.loop-a.a-index (omega arith));
}
