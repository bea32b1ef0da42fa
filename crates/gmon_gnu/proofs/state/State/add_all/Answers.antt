use Rattle.std.proofs.Common.{IfErr, OnOk, subst, sym}
use Rattle.std.proofs.lemmas.Result.{IfErr-weaker}
use Rattle.gmon_data.specs.Content.{Content, IsAdded, conflict_of, wide_records}
use Rattle.gmon_data.specs.Hists.{IsUnlike}
use Rattle.gmon_data.proofs.RecordLemmas.{stopped_conflict}
use Rattle.gmon_gnu.specs.Held.{recs_of, CanBeAdded}
use Rattle.gmon_gnu.proofs.state.State.add_all.Goals as goal

pub add_to-requires : goal.add_to-requires
add_to-requires c = subst (λ (old : Content). CanBeAdded c.args.self.now old) (sym c.new.ensures.content) c.requires.able

pub returns-clause-made : goal.returns-clause-made
returns-clause-made c =
    let recs = wide_records (recs_of c.args.self.now) in
    subst (λ (old : Content). OnOk c.add_to.result (IsAdded recs old c.add_to.new.profile)) c.new.ensures.content c.add_to.ensures.added

pub returns-clause-refusal : goal.returns-clause-refusal
returns-clause-refusal c =
    let recs = wide_records (recs_of c.args.self.now) in
    subst (λ (old : Content). IfErr c.add_to.result (λ refusal. IsUnlike refusal (conflict_of old recs))) c.new.ensures.content
    (IfErr-weaker c.add_to.result _ _ (λ refusal stopped. stopped_conflict refusal recs c.new.result c.add_to.new.profile stopped) c.add_to.ensures.stopped)
