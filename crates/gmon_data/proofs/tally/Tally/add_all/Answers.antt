use Rattle.std.proofs.Common.{◌≡◌, sym, subst, ◌∙◌}
use Rattle.std.specs.List.{AllByRecursion}
use Rattle.gmon_data.proofs.TallyLemmas.{next_fit, next_tallied}
use Rattle.gmon_data.proofs.tally.Tally.add_all.Goals as goal
use Rattle.gmon_data.proofs.tally.Tally.add_all.Goals.{then-i-eq0, else-i-eq0}

pub returns-in_err-add-clause-fit : goal.returns-in_err-add-clause-fit
returns-in_err-add-clause-fit g c =
    let looked : c.if-i-eq0.self ≡ c.loop-i.self = elim c.if-i-eq0.branch [ then-i-eq0 w ↦ w.self-is ∙ w.look_up.ensures | else-i-eq0 w ↦ w.self-is ] in
    λ all. subst (AllByRecursion (λ e. g.R.Counted.key_fits e.0)) (sym (c.in_err-add.ensures.unchanged ∙ looked)) (c.loop-i.invariant.fit all)

pub loop-i-preserved : goal.loop-i-preserved
loop-i-preserved g c =
    let looked : c.if-i-eq0.self ≡ c.loop-i.self = elim c.if-i-eq0.branch [ then-i-eq0 w ↦ w.self-is ∙ w.look_up.ensures | else-i-eq0 w ↦ w.self-is ] in
    record {
      added = next_tallied g.K.PartialEq.eq g.R.Counted.entry_of c.args.records.now c.args.self.now c.if-i-eq0.self c.loop-i.i (looked ∙ c.loop-i.invariant.added)
          c.index-records-i.result c.entry-key.result c.loop-i-test.true c.index-records-i.is c.entry-key.ensures.entry _ c.in_ok-add.ensures.added;
      fit = λ all. next_fit g.K.PartialEq.eq g.R.Counted.key_fits c.loop-i.self c.if-i-eq0.self c.add.new.self c.entry-key.result.0 c.entry-key.result.1
          looked c.in_ok-add.ensures.added c.entry-key.ensures.fits (c.loop-i.invariant.fit all);
      distinct = c.add.ensures.distinct;
    }
