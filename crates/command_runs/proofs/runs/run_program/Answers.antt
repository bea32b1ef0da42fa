use Rattle.std.proofs.Common.{false}
use Rattle.std.proofs.lemmas.Result.{err_from_is_err_and}
use Rattle.prof_machine.specs.Start.{final_world}
use Rattle.mcount_arcs.specs.Sizes.{sizes_of}
use Rattle.courses.specs.Answer.{files_named, run_acts}
use Rattle.command_runs.proofs.Performing.{shut_after}
use Rattle.command_runs.proofs.Running.{no_start, run_done, run_failed, run_of}
use Rattle.command_runs.proofs.runs.run_program.Goals as goal

pub returns-in_err-run-clause-runs : goal.returns-in_err-run-clause-runs
returns-in_err-run-clause-runs g c = λ start below done next s.
    let p = err_from_is_err_and c.from_residual.result c.from_residual.ensures.1 in
    rw (p.1, p.2) (no_start c.args.words.now start _ below done c.args.image.now c.args.setup _ _ _ s c.in_err-run.ensures.refused)

pub returns-in-Ok-clause-runs : goal.returns-in-Ok-clause-runs
returns-in-Ok-clause-runs g c = λ start below done next s.
    let words = c.args.words.now in
    let files = files_named words c.args.outputs.gmon c.args.outputs.form c.args.outputs.memory in
    run_done words start _ _ below done (run_acts files c.args.setup) next c.args.image.now c.args.bytes.now c.args.setup c.in_ok-run.run'
    (λ p idle. shut_after files c.args.setup (sizes_of c.args.image.now.text c.args.setup.hist c.args.setup.hash) (final_world c.args.image.now c.args.bytes.now c.args.setup) false) s c.in_ok-run.ensures.started c.in-Ok.ensures.performs
    c.perform.new.run (run_of c.args.image.now c.args.bytes.now c.args.setup c.in_ok-run.run' c.in_ok-run.ensures.started c.perform.new.run c.in-Ok.ensures.stands c.in-Ok.ensures.machine c.in-Ok.ensures.ended) c.summed_up.ensures.fits

pub returns-in-Ok-clause-ended : goal.returns-in-Ok-clause-ended
returns-in-Ok-clause-ended g c =
    rw c.summed_up.ensures.same (run_of c.args.image.now c.args.bytes.now c.args.setup c.in_ok-run.run' c.in_ok-run.ensures.started c.perform.new.run c.in-Ok.ensures.stands c.in-Ok.ensures.machine c.in-Ok.ensures.ended)

pub returns-in-Err-clause-runs : goal.returns-in-Err-clause-runs
returns-in-Err-clause-runs g c = λ start below done next s.
    let words = c.args.words.now in
    let files = files_named words c.args.outputs.gmon c.args.outputs.form c.args.outputs.memory in
    run_failed words start _ _ below done (run_acts files c.args.setup) next c.args.image.now c.args.bytes.now c.args.setup c.in_ok-run.run' c.in-Err.field-0 s c.in_ok-run.ensures.started c.in-Err.ensures.performs
