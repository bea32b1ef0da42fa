use Rattle.std.proofs.Common.{map, string_bytes, ap, ◌∙◌}
use Rattle.std.specs.Prelude.{filter}
use Rattle.gmon_data.specs.Content.{with_records}
use Rattle.profile_sum.specs.Sum.{arc_record, block_record, hist_records}
use Rattle.arc_filter.specs.Cuts.{stays}
use Rattle.arc_filter.proofs.ProfileLemmas.{all_put, arcs_within, blocks_within, hists_within}
use Rattle.arc_filter.proofs.cuts.put_all.Goals as goal

pub put_hists-requires-clause-within : goal.put_hists-requires-clause-within
put_hists-requires-clause-within c =
    hists_within c.args.profile.now c.args.symbols.now (map string_bytes c.args.cuts.now) c.holds.ensures c.args.left.now c.requires.empty

pub put_arcs-requires-clause-within : goal.put_arcs-requires-clause-within
put_arcs-requires-clause-within c =
    arcs_within c.args.profile.now c.args.symbols.now (map string_bytes c.args.cuts.now) c.holds.ensures c.expect_profile.new.self
    (c.expect_profile.ensures ∙ c.in_ok-put_hists.ensures ∙ ap (with_records (hist_records c.args.profile.now)) c.requires.empty)

pub add_blocks-requires : goal.add_blocks-requires
add_blocks-requires c =
    let p = c.args.profile.now in
    let words = map string_bytes c.args.cuts.now in
    blocks_within p c.args.symbols.now words c.holds.ensures c.put_arcs.new.left
    (c.in_ok-put_arcs.ensures
    ∙ ap (with_records (map arc_record (filter (stays c.args.symbols.now words) p.arcs))) (c.expect_profile.ensures ∙ c.in_ok-put_hists.ensures ∙ ap (with_records (hist_records p)) c.requires.empty))

pub returns : goal.returns
returns c =
    let p = c.args.profile.now in
    let words = map string_bytes c.args.cuts.now in
    c.in_ok-add_blocks.ensures.added
    ∙ ap (with_records (map block_record p.blocks))
    (c.in_ok-put_arcs.ensures
    ∙ ap (with_records (map arc_record (filter (stays c.args.symbols.now words) p.arcs))) (c.expect_profile.ensures ∙ c.in_ok-put_hists.ensures ∙ ap (with_records (hist_records p)) c.requires.empty))
    ∙ all_put p c.args.symbols.now words c.holds.ensures
