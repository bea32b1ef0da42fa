use Rattle.std.proofs.Common.{◌+◌, ◌-◌, take, drop, ap, ◌∙◌, arith}
use Rattle.call_cycles.proofs.ListLemmas.{list_long}
use Rattle.graph_report.proofs.ListLemmas.{list_there, start_read, start_rises, start_within}
use Rattle.graph_report.proofs.labels.Labels.of.Goals as goal

pub index-start-requires : goal.index-start-requires
index-start-requires c = search (arith, list_long)

pub index-requires : goal.index-requires
index-requires c = search (arith, list_long)

pub overflow_sub-len : goal.overflow_sub-len
overflow_sub-len c =
    let has = c.requires in
    let from = start_read has.of has.count c.args.f _ _ has.labels.each (omega (arith, has.below)) c.index-start.ensures in
    grind (arith, start_read, start_rises)

pub split_at-requires : goal.split_at-requires
split_at-requires c =
    let has = c.requires in
    let from = start_read has.of has.count c.args.f _ _ has.labels.each (omega (arith, has.below)) c.index-start.ensures in
    grind (arith, start_rises, start_within)

pub split_at-requires-2 : goal.split_at-requires-2
split_at-requires-2 c =
    let has = c.requires in
    let to = start_read has.of has.count (c.args.f + 1) _ _ has.labels.each (omega (arith, has.below)) c.index.ensures in
    grind (arith, start_within)

pub returns : goal.returns
returns c = λ count of labels low.
    let start = c.index-start.result.now in
    let end = c.index.result.now in
    let from = start_read of count c.args.f start _ labels.each (omega (arith, low)) c.index-start.ensures in
    let to = start_read of count (c.args.f + 1) end _ labels.each (omega (arith, low)) c.index.ensures in
    let rest = c.split_at.ensures.back in
    let text = c.split_at-2.ensures.front in
    text ∙ ap (take (end - start)) (rest ∙ ap (drop start) (c.deref.ensures.value ∙ labels.whole)) ∙ list_there of c.args.f count start end low from to
