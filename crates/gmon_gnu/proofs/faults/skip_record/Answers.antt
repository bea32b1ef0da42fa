use Rattle.std.proofs.Common.{ℕ, List, sym, ap, ◌∙◌}
use Rattle.gmon_gnu.specs.declared.state.Begun.TheVariants.{Hist}
use Rattle.gmon_gnu.specs.Reading.{refusal_read}
use Rattle.gmon_gnu.specs.Going.{records_on}
use Rattle.gmon_gnu.proofs.SkipLemmas.{hist_skipped, both_ok, front_read}
use Rattle.gmon_gnu.proofs.faults.skip_record.Goals as goal

pub returns-in-Hist-clause-behind : goal.returns-in-Hist-clause-behind
returns-in-Hist-clause-behind c =
    let first = front_read c.args.len c.args.text.now _ _ _ (Hist c.in-Hist.fields c.in-Hist.count) c.split_at.ensures.front c.split_at.ensures.back c.in-Hist.ensures.says in
    both_ok c.skip.result _ _ _ c.skip.ensures.rest c.skip.ensures.whole
    (λ r is whole. first ∙ hist_skipped c.args.len c.in-Hist.fields c.in-Hist.count c.split_at.result.1.now whole ∙ ap (λ (v : List ℕ). refusal_read (records_on c.args.len v)) (sym is))
