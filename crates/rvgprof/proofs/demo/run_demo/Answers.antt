use Rattle.std.proofs.Common.{refl}
use Rattle.std.proofs.lemmas.Result.{err_from_is_err_and}
use Rattle.courses.specs.Answer.{demo_lines}
use Rattle.command_runs.proofs.Running.{run_told}
use Rattle.rvgprof.proofs.demo.run_demo.Goals as goal

pub returns-in_err-run : goal.returns-in_err-run
returns-in_err-run g c = λ words start below done s.
    let p = err_from_is_err_and c.from_residual.result c.from_residual.ensures.1 in
    rw (p.1, p.2) (c.in_err-run.ensures.runs words start below done (demo_lines c.args.functions c.args.setup.rate c.args.image.now) s)

pub returns-in-Ok : goal.returns-in-Ok
returns-in-Ok g c = λ words start below done s.
    let ran = c.in_ok-run.ensures.runs words start below done (demo_lines c.args.functions c.args.setup.rate c.args.image.now) s in
    let is = c.in_ok-run.ensures.ended in
    let t = c.in-Ok.ensures words start below ran.0 c.args.bytes.now c.args.setup is refl ran.1 in
    run_told words start _ below t.0 c.args.image.now c.args.bytes.now c.args.setup _ _ is c.in_ok-run.ensures.sums_up t.1

pub returns : goal.returns
returns g c = λ words start below done s.
    let ran = c.in_ok-run.ensures.runs words start below done (demo_lines c.args.functions c.args.setup.rate c.args.image.now) s in
    rw c.report_fault.ensures (c.in-Err.ensures words start below ran.0 c.args.bytes.now c.args.setup c.in_ok-run.ensures.ended refl ran.1)
