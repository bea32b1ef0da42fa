use Rattle.std.proofs.Common.{◌≡◌, [], ◌+◌, ℕ, List, inl, refl, arith, ◌∙◌}
use Rattle.std.proofs.lemmas.Result.{err_from_is_err_and}
use Rattle.elf32_syms.specs.declared.image.Image.{Image}
use Rattle.mcount_arcs.specs.Sizes.{sizes_of}
use Rattle.prof_machine.specs.Start.{final_world}
use Rattle.courses.specs.Answer.{chosen_by, files_named, logged_profile, report_run, run_acts, run_program, sums_up}
use Rattle.courses.specs.Course.{Course}
use Rattle.rvgprof.proofs.Profiling.{profile_written}
use Rattle.command_reports.proofs.Reporting.{may_stop_reports, of_the_same}
use Rattle.command_runs.proofs.Running.{may_stop_start, run_told}
use Rattle.courses.proofs.Standing.{no_memory}
use Rattle.rvgprof.proofs.profile.profile.Goals as goal

pub returns-in_err-bytes : goal.returns-in_err-bytes
returns-in_err-bytes g c =
    let files = files_named c.args.words.now c.args.outputs.gmon c.args.outputs.form c.args.outputs.memory in
    let next : List ℕ → Image → Course = λ bytes image. run_program (run_acts files c.args.setup) c.args.setup (report_run c.args.setup.rate (chosen_by c.args.words.now c.args.selection.now) image) bytes image in
    let p = err_from_is_err_and c.from_residual.result c.from_residual.ensures.1 in
    rw (p.1, p.2) (c.in_err-bytes.ensures.reads _ 0 next (omega arith) c.requires.stands (λ contents bytes image. may_stop_start image c.args.setup _ contents (inl refl, refl)))

pub returns-in_err-run : goal.returns-in_err-run
returns-in_err-run g c =
    let files = files_named c.args.words.now c.args.outputs.gmon c.args.outputs.form c.args.outputs.memory in
    let next : List ℕ → Image → Course = λ bytes image. run_program (run_acts files c.args.setup) c.args.setup (report_run c.args.setup.rate (chosen_by c.args.words.now c.args.selection.now) image) bytes image in
    let stands = c.in_ok-bytes.ensures.reads _ 0 next (omega arith) c.requires.stands in
    let ran = rw c.as_slice.ensures.value at c.in_err-run.ensures.runs in
    let p = err_from_is_err_and c.from_residual-in_err-run.result c.from_residual-in_err-run.ensures.1 in
    rw (p.1, p.2) (ran _ (c.args.elf + 1) [] (report_run c.args.setup.rate (chosen_by c.args.words.now c.args.selection.now) c.in_ok-bytes.image) stands)

pub returns-in_default : goal.returns-in_default
returns-in_default g c =
    let words = c.args.words.now in
    let files = files_named words c.args.outputs.gmon c.args.outputs.form c.args.outputs.memory in
    let next : List ℕ → Image → Course = λ bytes image. run_program (run_acts files c.args.setup) c.args.setup (report_run c.args.setup.rate (chosen_by c.args.words.now c.args.selection.now) image) bytes image in
    let image = c.in_ok-bytes.image in
    let z = sizes_of image.text c.args.setup.hist c.args.setup.hash in
    let w = final_world image c.in_ok-bytes.bytes.items c.args.setup in
    let stands = c.in_ok-bytes.ensures.reads _ 0 next (omega arith) c.requires.stands in
    let ran = rw c.as_slice.ensures.value at c.in_ok-run.ensures.runs in
    let s = ran _ (c.args.elf + 1) [] (report_run c.args.setup.rate (chosen_by c.args.words.now c.args.selection.now) image) stands in
    no_memory words _ _ (c.args.elf + 1) s.0 (report_run c.args.setup.rate (chosen_by c.args.words.now c.args.selection.now) image z w) s.1
    (may_stop_reports (chosen_by c.args.words.now c.args.selection.now) image (logged_profile z w.log c.args.setup.rate) (sums_up z w))

pub returns : goal.returns
returns g c =
    let words = c.args.words.now in
    let files = files_named words c.args.outputs.gmon c.args.outputs.form c.args.outputs.memory in
    let next : List ℕ → Image → Course = λ bytes image. run_program (run_acts files c.args.setup) c.args.setup (report_run c.args.setup.rate (chosen_by c.args.words.now c.args.selection.now) image) bytes image in
    let image = c.in_ok-bytes.image in
    let bytes = c.in_ok-bytes.bytes.items in
    let z = sizes_of image.text c.args.setup.hist c.args.setup.hash in
    let w = final_world image bytes c.args.setup in
    let stands = c.in_ok-bytes.ensures.reads _ 0 next (omega arith) c.requires.stands in
    let ran = rw c.as_slice.ensures.value at c.in_ok-run.ensures.runs in
    let is = rw c.as_slice.ensures.value at c.in_ok-run.ensures.ended in
    let s = ran _ (c.args.elf + 1) [] (report_run c.args.setup.rate (chosen_by c.args.words.now c.args.selection.now) image) stands in
    let gmon = c.gmon.ensures in
    let total = c.in-Ok.total in
    let written : total ≡ logged_profile z w.log c.args.setup.rate = profile_written c.gmon.result.now z w.log c.args.setup.rate total (gmon.log w is.stands) (gmon.sizes ∙ is.sizes) c.in-Ok.ensures.records in
    let here = of_the_same words _ _ (c.args.elf + 1) s.0 (chosen_by c.args.words.now c.args.selection.now) image total (logged_profile z w.log c.args.setup.rate) (sums_up z w) written s.1 in
    let told_so = c.in_ok-print_reports.ensures words _ (c.args.elf + 1) s.0 (sums_up z w) here in
    run_told words _ _ (c.args.elf + 1) told_so.0 image bytes c.args.setup _ _ is c.in_ok-run.ensures.sums_up told_so.1

pub returns-in_err-print_reports : goal.returns-in_err-print_reports
returns-in_err-print_reports g c =
    let words = c.args.words.now in
    let files = files_named words c.args.outputs.gmon c.args.outputs.form c.args.outputs.memory in
    let next : List ℕ → Image → Course = λ bytes image. run_program (run_acts files c.args.setup) c.args.setup (report_run c.args.setup.rate (chosen_by c.args.words.now c.args.selection.now) image) bytes image in
    let image = c.in_ok-bytes.image in
    let bytes = c.in_ok-bytes.bytes.items in
    let z = sizes_of image.text c.args.setup.hist c.args.setup.hash in
    let w = final_world image bytes c.args.setup in
    let stands = c.in_ok-bytes.ensures.reads _ 0 next (omega arith) c.requires.stands in
    let ran = rw c.as_slice.ensures.value at c.in_ok-run.ensures.runs in
    let is = rw c.as_slice.ensures.value at c.in_ok-run.ensures.ended in
    let s = ran _ (c.args.elf + 1) [] (report_run c.args.setup.rate (chosen_by c.args.words.now c.args.selection.now) image) stands in
    let gmon = c.gmon.ensures in
    let total = c.in-Ok.total in
    let written : total ≡ logged_profile z w.log c.args.setup.rate = profile_written c.gmon.result.now z w.log c.args.setup.rate total (gmon.log w is.stands) (gmon.sizes ∙ is.sizes) c.in-Ok.ensures.records in
    let here = of_the_same words _ _ (c.args.elf + 1) s.0 (chosen_by c.args.words.now c.args.selection.now) image total (logged_profile z w.log c.args.setup.rate) (sums_up z w) written s.1 in
    let p = err_from_is_err_and c.from_residual-in_err-print_reports.result c.from_residual-in_err-print_reports.ensures.1 in
    rw (p.1, p.2) (c.in_err-print_reports.ensures words _ (c.args.elf + 1) s.0 (sums_up z w) here)
