use Rattle.std.proofs.Common.{ℕ, List, ap, ◌∙◌}
use Rattle.gmon_data.specs.Hists.{pointwise_sum}
use Rattle.gmon_data.proofs.CounterLemmas.{pointwise-comm}
use Rattle.gmon_data.proofs.hist.with_counters_of.Goals as goal

pub returns : goal.returns
returns c =
    let old = c.args.old.now in
    let counters = c.add_counters.ensures ∙ ap (pointwise_sum c.args.new.counters) c.as_slice.ensures ∙ pointwise-comm c.args.new.counters old.counters in
    ap (λ (cs : List ℕ). record old { counters = cs }) counters
