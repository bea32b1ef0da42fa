use Rattle.std.proofs.Common.{List, ℕ, ◌++◌, ap, ◌∙◌}
use Rattle.graph_report.specs.GraphText.{calls_of_all}
use Rattle.graph_report.specs.Inputs.{sources_in}
use Rattle.graph_report.proofs.TextLemmas.{outside_columns, timed_whole}
use Rattle.graph_report.proofs.columns.put_arc.Goals as goal

pub returns-in-Some-clause-text : goal.returns-in-Some-clause-text
returns-in-Some-clause-text c =
    let s = sources_in c.args.inputs.now in
    let t = c.args.times.now in
    rw (c.put_calls_of_entering.ensures.text, c.put_times.ensures.text)
    (timed_whole c.args.line.now s.rate t.own t.child (calls_of_all t.arc.count c.in-Some.entering)
    ∙ ap (λ (text : List ℕ). c.args.line.now ++ text) (outside_columns s t c.requires.times.entering c.in-Some.entering c.in-Some.is))
