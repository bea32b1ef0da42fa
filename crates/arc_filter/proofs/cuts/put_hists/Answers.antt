use Rattle.arc_filter.proofs.ProfileLemmas.{unlike_nothing}
use Rattle.arc_filter.proofs.cuts.put_hists.Goals as goal

pub unreachable-requires : goal.unreachable-requires
unreachable-requires c =
    unlike_nothing c.in-Err-Unlike.field-0 c.in-Err-Unlike.field-0-0 c.args.left.now c.args.profile.now c.in-Err-Unlike.field-0-is c.requires.empty c.in-Err-Unlike.ensures.refusal
