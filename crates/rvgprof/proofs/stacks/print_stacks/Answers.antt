use Rattle.std.proofs.Common.{[], ◌∷◌, ◌+◌, ◌∙◌, length, ap, sym, arith, refl}
use Rattle.std.proofs.lemmas.Result.{err_from_is_err_and}
use Rattle.host_port.specs.Act.{Out}
use Rattle.host_port.specs.declared.side.Side.TheVariants.{Output}
use Rattle.host_port.proofs.PerformingLemmas.{puts_performs}
use Rattle.prof_machine.specs.Start.{final_world}
use Rattle.mcount_arcs.specs.Sizes.{sizes_of}
use Rattle.courses.specs.Answer.{fold_program, sums_up}
use Rattle.courses.specs.FoldedReport.{folded_report}
use Rattle.command_runs.proofs.Folding.{may_stop_folding}
use Rattle.rvgprof.proofs.FoldedText.{text_is}
use Rattle.command_runs.proofs.Running.{may_stop_start, run_told}
use Rattle.courses.proofs.Standing.{does, fails}
use Rattle.rvgprof.proofs.stacks.print_stacks.Goals as goal

pub returns-in_err-bytes : goal.returns-in_err-bytes
returns-in_err-bytes g c =
    let p = err_from_is_err_and c.from_residual.result c.from_residual.ensures.1 in
    rw (p.1, p.2) (c.in_err-bytes.ensures.reads _ 0 (fold_program c.args.inclusive c.args.setup) (omega arith) c.requires.stands
    (λ contents bytes image. may_stop_start image c.args.setup _ contents (may_stop_folding c.args.inclusive image bytes c.args.setup contents)))

pub returns-in_err-run : goal.returns-in_err-run
returns-in_err-run g c =
    let s = c.in_ok-bytes.ensures.reads _ 0 (fold_program c.args.inclusive c.args.setup) (omega arith) c.requires.stands in
    let ran = rw c.as_slice.ensures.value at c.in_err-run.ensures.folds in
    let p = err_from_is_err_and c.from_residual-in_err-run.result c.from_residual-in_err-run.ensures.1 in
    rw (p.1, p.2) (ran c.args.words.now _ (c.args.elf + 1) [] c.args.inclusive s)

pub write-requires : goal.write-requires
write-requires g c = ap length c.as_slice-2.ensures ∙ sym c.in_ok-run.ensures.functions

pub returns-in-Ok : goal.returns-in-Ok
returns-in-Ok g c =
    let words = c.args.words.now in
    let image = c.in_ok-bytes.image in
    let bytes = c.in_ok-bytes.bytes.items in
    let setup = c.args.setup in
    let s = c.in_ok-bytes.ensures.reads _ 0 (fold_program c.args.inclusive setup) (omega arith) c.requires.stands in
    let ran = rw c.as_slice.ensures.value at c.in_ok-run.ensures.folds in
    let is = rw c.as_slice.ensures.value at c.in_ok-run.ensures.ended in
    let t = ran words _ (c.args.elf + 1) [] c.args.inclusive s in
    let text = folded_report c.args.inclusive image bytes setup in
    let puts = rw (text_is c.args.inclusive image bytes setup c.in_ok-run.folded t.2) at (rw c.as_slice-2.ensures at c.in-Ok.ensures) in
    let after = sums_up (sizes_of image.text setup.hist setup.hash) (final_world image bytes setup) in
    let u = does {T = Unit {0}} words _ _ _ (c.args.elf + 1) t.0 (Out text ∷ []) after (tt {0}) t.1 (puts_performs Output text _ _ _ puts) refl in
    run_told words _ _ (c.args.elf + 1) _ image bytes setup c.in_ok-run.run' c.summary.result is c.summary.ensures.sums_up u

pub returns : goal.returns
returns g c =
    let words = c.args.words.now in
    let image = c.in_ok-bytes.image in
    let bytes = c.in_ok-bytes.bytes.items in
    let setup = c.args.setup in
    let s = c.in_ok-bytes.ensures.reads _ 0 (fold_program c.args.inclusive setup) (omega arith) c.requires.stands in
    let ran = rw c.as_slice.ensures.value at c.in_ok-run.ensures.folds in
    let t = ran words _ (c.args.elf + 1) [] c.args.inclusive s in
    let text = folded_report c.args.inclusive image bytes setup in
    let puts = rw (text_is c.args.inclusive image bytes setup c.in_ok-run.folded t.2) at (rw c.as_slice-2.ensures at c.in-Err.ensures) in
    fails {T = Unit {0}} words _ _ _ (c.args.elf + 1) t.0 (Out text ∷ []) (sums_up (sizes_of image.text setup.hist setup.hash) (final_world image bytes setup)) c.in-Err.field-0 t.1 (puts_performs {T = Unit {0}} Output text _ _ _ puts)
