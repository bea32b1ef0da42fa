use Rattle.std.proofs.Common.{sym, ap, ◌∙◌, arith}
use Rattle.gmon_data.specs.Hists.{conflict_with, kept_unit}
use Rattle.profile_sum.proofs.ClashLemmas.{clash_ends, clash_found, clash_of_unit, clash_passed, no_unit_no_clash}
use Rattle.profile_sum.proofs.addition.find_clash.Goals as goal

pub returns-in_err-unit : goal.returns-in_err-unit
returns-in_err-unit c = c.from_residual.ensures ∙ sym (no_unit_no_clash c.args.total.now c.args.more.now (sym c.in_err-unit.ensures.«unit»))

pub loop-i-init : goal.loop-i-init
loop-i-init c = clash_of_unit c.args.total.now c.args.more.now c.in_ok-unit.«unit» (sym c.in_ok-unit.ensures.«unit»)

pub returns-then-is_some : goal.returns-then-is_some
returns-then-is_some c = grind (arith, clash_found)

pub loop-i-preserved : goal.loop-i-preserved
loop-i-preserved c =
    let is = c.conflict-clash.ensures ∙ ap (λ r. conflict_with c.args.total.now.hists c.args.total.now.«unit» r (kept_unit c.in_ok-unit.«unit»)) c.range.ensures in
    c.loop-i.invariant ∙ clash_passed c.args.total.now c.in_ok-unit.«unit» c.args.more.now.hists c.requires.hists c.loop-i.i c.hist.result.now c.hist.ensures c.conflict-clash.result is (sym c.is_some.ensures ∙ c.if-is_some.false)

pub returns : goal.returns
returns c = grind (arith, clash_ends)
