use Rattle.std.proofs.Common.{◌≡◌, List, length, take, ap, sym, subst, ◌∙◌}
use Rattle.call_cycles.specs.declared.graphs.FunArc.{FunArc}
use Rattle.call_cycles.specs.Merging.{AreMerged}
use Rattle.call_cycles.proofs.ListLemmas.{whole_back}
use Rattle.call_cycles.proofs.MergeLemmas.{all_merged}
use Rattle.call_cycles.proofs.calls.merged.Goals as goal

pub returns : goal.returns
returns c =
    let sorted = c.in_order-sorted.result in
    let new = c.merge_neighbours-count.new.arcs in
    let len : length new ≡ length sorted.items = c.merge_neighbours-count.auto.arcs ∙ ap length c.deref_mut.ensures.value in
    let back = whole_back new sorted.items sorted.len len (sorted.ok.0 ∙ sym len) in
    let made : c.truncate.new.self.items ≡ take c.merge_neighbours-count.result new = c.truncate.ensures.items ∙ ap (take c.merge_neighbours-count.result) back in
    record {
      merged = λ n below. made ∙ all_merged c.args.arcs.items sorted.items (take c.merge_neighbours-count.result new) c.in_order-sorted.ensures.permutation
          (subst (λ (xs : List FunArc). AreMerged xs (take c.merge_neighbours-count.result new)) c.deref_mut.ensures.value c.merge_neighbours-count.ensures.merged) n below;
    }
