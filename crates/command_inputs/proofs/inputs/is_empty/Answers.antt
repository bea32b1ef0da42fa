use Rattle.std.proofs.Common.{◌≡◌, ◌∙◌, sym, eqb-true, true≢false}
use Rattle.gmon_data.specs.Content.{empty_content}
use Rattle.command_inputs.proofs.Summing.{holds_nothing}
use Rattle.command_inputs.proofs.inputs.is_empty.Goals as goal
use Rattle.command_inputs.proofs.inputs.is_empty.Goals.{then-hist_count-eq0, else-hist_count-eq0}

pub returns-then-arc_count-eq0 : goal.returns-then-arc_count-eq0
returns-then-arc_count-eq0 c = λ holds.
    elim c.if-hist_count-eq0.branch as (λ _. c.args.profile.now ≡ empty_content) [
      | then-hist_count-eq0 w ↦ holds_nothing c.args.profile.now c.hist_count.ensures.profile (sym c.hist_count.ensures.value ∙ w.if-hist_count-eq0.true) (sym w.arc_count.ensures.value ∙ eqb-true w.arc_count.result 0 (sym w.value-is ∙ c.if-arc_count-eq0.true)) (sym c.block_count.ensures.value ∙ eqb-true c.block_count.result 0 holds)
      | else-hist_count-eq0 w ↦ absurd (w.if-hist_count-eq0.false (eqb-true c.hist_count.result 0 (sym w.value-is ∙ c.if-arc_count-eq0.true)))
    ]

pub returns-else-arc_count-eq0 : goal.returns-else-arc_count-eq0
returns-else-arc_count-eq0 c = λ holds. absurd (true≢false (sym holds ∙ c.if-arc_count-eq0.false))
