use Rattle.std.proofs.Common.{◌∷◌, [], ap, sym, ◌∙◌, length, length-append, arith}
use Rattle.command_words.specs.Items.{wanted_of}
use Rattle.command_words.proofs.ItemLemmas.{none_more, some_more}
use Rattle.command_words.proofs.items.Items.count.Goals as goal
use Rattle.command_words.proofs.items.Items.count.Goals.{in-Some, in-None}

pub loop-item-preserved : goal.loop-item-preserved
loop-item-preserved c =
    let items = c.as_slice-item-items.result.now in
    elim c.match-wanted_of.branch [
      | in-Some w ↦
          let more = ap length (some_more (wanted_of c.args.wanted) items c.loop-item.item-index _ _ (omega arith) (sym c.wanted_of.ensures ∙ w.in-Some.is)) ∙ length-append _ (_ ∷ []) in
          record { counted = omega (arith, more, w.count-is, c.loop-item.invariant.counted); few = omega (arith, w.count-is, c.loop-item.invariant.few) }
      | in-None w ↦
          let same = ap length (none_more (wanted_of c.args.wanted) items c.loop-item.item-index _ (omega arith) (sym c.wanted_of.ensures ∙ w.in-None.is)) in
          record { counted = omega (arith, same, w.count-is, c.loop-item.invariant.counted); few = omega (arith, w.count-is, c.loop-item.invariant.few) }
    ]
