use Rattle.std.proofs.Common.{refl, sym, ap, subst, ◌∙◌}
use Rattle.std.proofs.lemmas.Result.{err_from_is_err_and}
use Rattle.host_port.specs.Act.{writes_after}
use Rattle.host_port.specs.declared.host.Failed.{Failed}
use Rattle.std.specs.Prelude.{IsSome}
use Rattle.prof_machine.specs.Plan.{after_drive}
use Rattle.prof_machine.specs.Start.{final_world}
use Rattle.prof_machine.specs.declared.summary.End.{End}
use Rattle.std.proofs.Common.{Option}
use Rattle.command_runs.proofs.Performing.{printed_performs, drive_fails}
use Rattle.command_runs.proofs.Running.{no_start, run_done, run_failed, run_of}
use Rattle.command_runs.proofs.runs.run_alone.Goals as goal

pub returns-in_err-run-clause-runs : goal.returns-in_err-run-clause-runs
returns-in_err-run-clause-runs g c = λ words start below done next s.
    let p = err_from_is_err_and c.from_residual.result c.from_residual.ensures.1 in
    rw (p.1, p.2) (no_start words start _ below done c.args.image.now c.args.setup _ _ _ s c.in_err-run.ensures.refused)

pub returns-in-Ok-clause-runs : goal.returns-in-Ok-clause-runs
returns-in-Ok-clause-runs g c = λ words start below done next s.
    let m = c.in_ok-run.run'.machine in
    let d = c.in-Ok.ensures in
    run_done {E = Failed} words start _ _ below done (λ z w. w.prints) next c.args.image.now c.args.bytes.now c.args.setup c.in_ok-run.run' (λ p idle. ap (writes_after (final_world c.args.image.now c.args.bytes.now c.args.setup).prints) (sym idle) ∙ sym p.done.writing ∙ c.drive.ensures.writing ∙ idle) s c.in_ok-run.ensures.started
    (λ w stands none. printed_performs {T = Unit {0}} w (after_drive m w) _ _ (tt {0}) none (d.prints w stands) d.counts)
    c.drive.new.self (run_of c.args.image.now c.args.bytes.now c.args.setup c.in_ok-run.run' c.in_ok-run.ensures.started c.drive.new.self d.stands d.machine (subst (λ (o : Option End). IsSome o) (sym d.answer) refl)) c.summed_up.ensures.fits

pub returns-in-Ok-clause-ended : goal.returns-in-Ok-clause-ended
returns-in-Ok-clause-ended g c =
    let d = c.in-Ok.ensures in
    rw c.summed_up.ensures.same (run_of c.args.image.now c.args.bytes.now c.args.setup c.in_ok-run.run' c.in_ok-run.ensures.started c.drive.new.self d.stands d.machine (subst (λ (o : Option End). IsSome o) (sym d.answer) refl))

pub returns-in-Err-clause-runs : goal.returns-in-Err-clause-runs
returns-in-Err-clause-runs g c = λ words start below done next s.
    let m = c.in_ok-run.run'.machine in
    run_failed words start _ _ below done (λ z w. w.prints) next c.args.image.now c.args.bytes.now c.args.setup c.in_ok-run.run' c.in-Err.field-0 s c.in_ok-run.ensures.started
    (λ w stands none. let off = c.in-Err.ensures.fails w stands in drive_fails {T = Unit {0}} m w off.0 _ _ _ off.1 none off.3)
