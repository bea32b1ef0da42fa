use Rattle.std.proofs.Common.{◌++◌, ◌∙◌, Ok, sym, ap, subst}
use Rattle.std.proofs.lemmas.Result.{err_from_is_err_and}
use Rattle.std.specs.Prelude.{length, IsSome, Option}
use Rattle.prof_machine.specs.declared.summary.End.{End}
use Rattle.prof_machine.specs.Value.{StandsFor}
use Rattle.prof_machine.specs.World.{World}
use Rattle.prof_machine.proofs.RunLemmas.{plan_ends}
use Rattle.host_port.specs.Act.{writes_after}
use Rattle.host_port.specs.declared.host.Failed.{Failed}
use Rattle.prof_machine.specs.declared.machine.Machine.{Machine}
use Rattle.prof_machine.specs.Plan.{after_drive}
use Rattle.prof_machine.specs.Start.{final_world, start_of}
use Rattle.folded.specs.Stacks.{stacks_of}
use Rattle.folded.specs.Tally.{Folds}
use Rattle.folded.specs.Trail.{run_samples}
use Rattle.courses.specs.Answer.{stacks_told}
use Rattle.courses.specs.Course.{one_by_one}
use Rattle.command_runs.proofs.Folding.{fold_done, fold_stops, may_stop_folding}
use Rattle.command_runs.proofs.Performing.{printed_performs}
use Rattle.command_runs.proofs.Running.{last_is, not_started, performs_due, run_of}
use Rattle.command_runs.proofs.folds.fold_program.Goals as goal

pub returns-in_err-run-clause-folds : goal.returns-in_err-run-clause-folds
returns-in_err-run-clause-folds g c = λ words start below done inclusive s.
    let image = c.args.image.now in
    let bytes = c.args.bytes.now in
    let setup = c.args.setup in
    let p = err_from_is_err_and c.from_residual.result c.from_residual.ensures.1 in
    rw (p.1, p.2) (not_started words start _ below done image setup (one_by_one (final_world image bytes setup).prints (stacks_told inclusive image bytes setup)) _ (may_stop_folding inclusive image bytes setup) s c.in_err-run.ensures.refused)

pub returns-in-Ok-clause-folds : goal.returns-in-Ok-clause-folds
returns-in-Ok-clause-folds g c = λ words start below done inclusive s.
    let image = c.args.image.now in
    let bytes = c.args.bytes.now in
    let setup = c.args.setup in
    let m = c.in_ok-run.run'.machine in
    let d = c.in-Ok.ensures in
    let performs = performs_due image bytes setup c.in_ok-run.run' c.in_ok-run.ensures.started {T = Unit {0}} {E = Failed} (λ z w. w.prints) _ _ (Ok tt) (λ w stands none. printed_performs {T = Unit {0}} {E = Failed} w (after_drive m w) _ _ (tt {0}) none (d.prints w stands) d.counts) in
    let shut = ap (writes_after (final_world image bytes setup).prints) (sym s.shut) ∙ sym performs.done.writing ∙ c.fold.ensures.writing ∙ s.shut in
    let folds = subst (λ (x : Machine). Folds (length image.symbols) (stacks_of image.symbols (run_samples x (start_of image bytes setup))) c.in-Ok.folded) c.in_ok-run.ensures.started.machine (d.folds (start_of image bytes setup) c.in_ok-run.ensures.started.stands) in (
      done ++ (final_world image bytes setup).prints,
      fold_done words start _ _ below done inclusive image bytes setup c.in_ok-run.run' s c.in_ok-run.ensures.started {E = Failed} performs shut,
      folds,
    )

pub returns-in-Ok-clause-ended : goal.returns-in-Ok-clause-ended
returns-in-Ok-clause-ended g c =
    let image = c.args.image.now in
    let bytes = c.args.bytes.now in
    let setup = c.args.setup in
    let last = subst (λ (w : World). StandsFor w c.fold.new.run) (last_is image bytes setup c.in_ok-run.run' c.in_ok-run.ensures.started) (c.in-Ok.ensures.stands (start_of image bytes setup) c.in_ok-run.ensures.started.stands) in
    let ended = subst (λ (o : Option End). IsSome o) (sym last.ending) (plan_ends image bytes setup c.requires.setup.some_every c.requires.setup.some_budget) in
    run_of image bytes setup c.in_ok-run.run' c.in_ok-run.ensures.started c.fold.new.run c.in-Ok.ensures.stands c.in-Ok.ensures.machine ended

pub returns-in-Err-clause-folds : goal.returns-in-Err-clause-folds
returns-in-Err-clause-folds g c = λ words start below done inclusive s.
    rw c.fold_fault.ensures (fold_stops words start _ _ below done inclusive c.args.image.now c.args.bytes.now c.args.setup c.in_ok-run.run' s c.in_ok-run.ensures.started c.in-Err.refusal c.in-Err.ensures.stops c.in-Err.ensures.counts c.fold.ensures.writing)
