use Rattle.std.proofs.Common.{sym, ◌∙◌}
use Rattle.gmon_data.proofs.SearchLemmas.{first_late_decides, differing_told, same_told, above_told}
use Rattle.gmon_data.proofs.hists.find_range_conflict.Goals.{else-old-new-via-then-old-new+else-ne, else-old-new-via-else-old-new}
use Rattle.gmon_data.proofs.hists.find_range_conflict.Goals as goal

pub returns-then-ne : goal.returns-then-ne
returns-then-ne c =
    let k = c.get.result.now in
    differing_told k c.range-old.result c.args.new c.range-old.ensures c.if-old-new.true c.if-ne.ensures
    ∙ sym (first_late_decides c.args.new c.args.hists.now c.count_ended-i.result k c.requires.kept c.requires.apart c.count_ended-i.ensures.point c.get.ensures)

pub returns : goal.returns
returns c =
    let k = c.get.result.now in
    let whole = sym (first_late_decides c.args.new c.args.hists.now c.count_ended-i.result k c.requires.kept c.requires.apart c.count_ended-i.ensures.point c.get.ensures) in
    elim c.else-old-new.branch [
      | else-old-new-via-then-old-new+else-ne w ↦ same_told k c.range-old.result c.args.new c.range-old.ensures w.if-ne.ensures ∙ whole
      | else-old-new-via-else-old-new w ↦ above_told k c.range-old.result c.args.new c.range-old.ensures w.if-old-new.false ∙ whole
    ]
