use Rattle.std.proofs.Common.{[], ◌+◌, None, Ok, arith}
use Rattle.std.proofs.lemmas.Result.{err_from_is_err_and}
use Rattle.gp_base.specs.declared.limits.TheConstants.{MAX_PROFILE_BYTES}
use Rattle.gmon_data.specs.Content.{Content, empty_content}
use Rattle.courses.specs.Course.{Course}
use Rattle.courses.specs.Answer.{chosen_by, end_course, print_reports, report_profiles}
use Rattle.command_reports.proofs.Reporting.{may_stop_reports}
use Rattle.courses.proofs.Standing.{ends}
use Rattle.command_inputs.proofs.Summing.{all_behind, may_stop_profiles}
use Rattle.rvgprof.proofs.report.report.Goals as goal

pub returns-in_err-image : goal.returns-in_err-image
returns-in_err-image g c =
    let chosen = chosen_by c.args.words.now c.args.selection.now in
    let p = err_from_is_err_and c.from_residual.result c.from_residual.ensures.1 in
    rw (p.1, p.2) (c.in_err-image.ensures.reads _ 0 (report_profiles c.args.gmons.now chosen) (omega arith) c.requires.stands
    (λ contents bytes image. may_stop_profiles contents c.args.gmons.now MAX_PROFILE_BYTES empty_content (λ total. print_reports chosen image total end_course) (λ contents total. may_stop_reports chosen image total end_course contents)))

pub returns-in_err-total : goal.returns-in_err-total
returns-in_err-total g c =
    let next : Content → Course = λ total. print_reports (chosen_by c.args.words.now c.args.selection.now) c.in_ok-image.image total end_course in
    let s = c.in_ok-image.ensures.reads _ 0 (report_profiles c.args.gmons.now (chosen_by c.args.words.now c.args.selection.now)) (omega arith) c.requires.stands in
    let p = err_from_is_err_and c.from_residual-in_err-total.result c.from_residual-in_err-total.ensures.1 in
    rw (p.1, p.2) (c.in_err-total.ensures.reads _ (c.args.elf + 1) next (λ contents total. may_stop_reports (chosen_by c.args.words.now c.args.selection.now) c.in_ok-image.image total end_course contents) (all_behind c.args.elf c.args.gmons.now c.requires.rising.0) s)

pub returns : goal.returns
returns g c =
    let words = c.args.words.now in
    let next : Content → Course = λ total. print_reports (chosen_by c.args.words.now c.args.selection.now) c.in_ok-image.image total end_course in
    let s = c.in_ok-image.ensures.reads _ 0 (report_profiles c.args.gmons.now (chosen_by c.args.words.now c.args.selection.now)) (omega arith) c.requires.stands in
    let t = c.in_ok-total.ensures.reads _ (c.args.elf + 1) next (λ contents total. may_stop_reports (chosen_by c.args.words.now c.args.selection.now) c.in_ok-image.image total end_course contents) (all_behind c.args.elf c.args.gmons.now c.requires.rising.0) s in
    let p = c.in_ok-print_reports.ensures words _ t.0 [] end_course t.1 in
    ends words _ _ t.0 p.0 (Ok (record { run = None })) p.1 tt

pub returns-in_err-print_reports : goal.returns-in_err-print_reports
returns-in_err-print_reports g c =
    let words = c.args.words.now in
    let next : Content → Course = λ total. print_reports (chosen_by c.args.words.now c.args.selection.now) c.in_ok-image.image total end_course in
    let s = c.in_ok-image.ensures.reads _ 0 (report_profiles c.args.gmons.now (chosen_by c.args.words.now c.args.selection.now)) (omega arith) c.requires.stands in
    let t = c.in_ok-total.ensures.reads _ (c.args.elf + 1) next (λ contents total. may_stop_reports (chosen_by c.args.words.now c.args.selection.now) c.in_ok-image.image total end_course contents) (all_behind c.args.elf c.args.gmons.now c.requires.rising.0) s in
    let p = err_from_is_err_and c.from_residual-in_err-print_reports.result c.from_residual-in_err-print_reports.ensures.1 in
    rw (p.1, p.2) (c.in_err-print_reports.ensures words _ t.0 [] end_course t.1)
