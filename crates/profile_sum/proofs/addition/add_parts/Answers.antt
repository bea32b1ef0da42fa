use Rattle.std.proofs.Common.{map, ap, ◌∙◌}
use Rattle.gmon_data.specs.Content.{with_records}
use Rattle.profile_sum.specs.Sum.{arc_record, block_record, hist_records}
use Rattle.profile_sum.proofs.SumLemmas.{all_added, arcs_fit, blocks_fit, hists_fit}
use Rattle.profile_sum.proofs.addition.add_parts.Goals as goal

pub add_hists-requires-clause-within : goal.add_hists-requires-clause-within
add_hists-requires-clause-within c = hists_fit c.args.total.now c.args.more.now c.holds-2.ensures c.requires.within c.expect_profile.new.self c.expect_profile.ensures

pub add_arcs-requires : goal.add_arcs-requires
add_arcs-requires c =
    arcs_fit c.args.total.now c.args.more.now c.holds-2.ensures c.requires.within c.add_hists.new.total
    (c.in_ok-add_hists.ensures.added ∙ ap (with_records (hist_records c.args.more.now)) c.expect_profile.ensures)

pub add_blocks-requires : goal.add_blocks-requires
add_blocks-requires c =
    blocks_fit c.args.total.now c.args.more.now c.holds-2.ensures c.requires.within c.add_arcs.new.total
    (c.in_ok-add_arcs.ensures.added ∙ ap (with_records (map arc_record c.args.more.now.arcs)) (c.in_ok-add_hists.ensures.added ∙ ap (with_records (hist_records c.args.more.now)) c.expect_profile.ensures))

pub returns-clause-added : goal.returns-clause-added
returns-clause-added c =
    c.in_ok-add_blocks.ensures.added
    ∙ ap (with_records (map block_record c.args.more.now.blocks)) (c.in_ok-add_arcs.ensures.added ∙ ap (with_records (map arc_record c.args.more.now.arcs)) (c.in_ok-add_hists.ensures.added ∙ ap (with_records (hist_records c.args.more.now)) c.expect_profile.ensures))
    ∙ all_added c.args.total.now c.args.more.now c.holds-2.ensures
