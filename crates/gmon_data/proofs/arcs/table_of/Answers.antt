use Rattle.std.proofs.Common.{ap, ◌∙◌}
use Rattle.gmon_data.specs.Arcs.{entries_of}
use Rattle.gmon_data.specs.Content.{same_ends}
use Rattle.gmon_data.specs.Tally.{tally_all}
use Rattle.gmon_data.proofs.ArcLemmas.{all_new, pair-symm}
use Rattle.gmon_data.proofs.arcs.table_of.Goals as goal

pub returns : goal.returns
returns c =
    let entries = entries_of c.args.list.now in
    c.in_ok-add_all.ensures.added ∙ ap (tally_all same_ends entries) (c.expect.ensures ∙ c.new-table.ensures) ∙ all_new same_ends pair-symm entries c.requires.distinct
