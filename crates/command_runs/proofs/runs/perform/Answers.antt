use Rattle.std.proofs.Common.{◌++◌, ◌∙◌, ap}
use Rattle.std.proofs.lemmas.Result.{err_from_is_err_and}
use Rattle.gmon_block.specs.Layout.{layout_of}
use Rattle.host_port.proofs.PerformingLemmas.{performs_then, performs_front}
use Rattle.mcount_arcs.specs.Image.{block_image}
use Rattle.prof_machine.specs.declared.machine.Machine.{Machine}
use Rattle.prof_machine.specs.Plan.{after_drive}
use Rattle.prof_machine.specs.Executions.{exec_counts_of}
use Rattle.courses.specs.Answer.{file_acts, files_named, given_file_acts, profile_bytes}
use Rattle.command_runs.proofs.Performing.{printed_performs, drive_fails, held_is, image_is, file_as, given_as, given_nothing}
use Rattle.command_runs.proofs.runs.perform.Goals as goal

pub returns-in_err-drive-clause-performs : goal.returns-in_err-drive-clause-performs
returns-in_err-drive-clause-performs g c = λ w stands none.
    let p = err_from_is_err_and c.from_residual.result c.from_residual.ensures.1 in
    let m = c.args.run.now.machine in
    let last = after_drive m w in
    let files = files_named c.args.words.now c.args.outputs.gmon c.args.outputs.form c.args.outputs.memory in
    let off = c.in_err-drive.ensures.fails w stands in
    rw p.1 (performs_front {T = Unit {0}} last.prints (file_acts files.gmon (profile_bytes files.form c.args.setup m.sizes last) ++ given_file_acts files.memory (layout_of (block_image m.sizes last.log))) _ _ _
    (drive_fails {T = Unit {0}} m w off.0 _ _ _ off.1 none off.3))

pub returns-in_err-write_profile-clause-performs : goal.returns-in_err-write_profile-clause-performs
returns-in_err-write_profile-clause-performs g c = λ w stands none.
    let p = err_from_is_err_and c.from_residual-in_err-write_profile.result c.from_residual-in_err-write_profile.ensures.1 in
    let m = c.args.run.now.machine in
    let last = after_drive m w in
    let d = c.in_ok-drive.ensures in
    let files = files_named c.args.words.now c.args.outputs.gmon c.args.outputs.form c.args.outputs.memory in
    let text = profile_bytes files.form c.args.setup m.sizes last in
    let back = given_file_acts files.memory (layout_of (block_image m.sizes last.log)) in
    let sizes = c.gmon.ensures.sizes ∙ ap (λ (x : Machine). x.sizes) d.machine in
    let counted = c.exec_counts.ensures.log last (d.stands w stands) ∙ ap (λ (x : Machine). exec_counts_of x last.ran) d.machine in
    let is = held_is files.form c.args.setup c.gmon.result.now c.exec_counts.result.now m last (c.gmon.ensures.log last (d.stands w stands)) sizes counted c.requires.setup in
    let written = rw c.name-name.ensures at c.in_err-write_profile.ensures.performs in
    rw p.1 (performs_then last.prints (file_acts files.gmon text ++ back) _ _ _ (tt {0}) _ (printed_performs {T = Unit {0}} w last _ _ (tt {0}) none (d.prints w stands) d.counts)
    (performs_front {T = Unit {0}} (file_acts files.gmon text) back _ _ _ (file_as {T = Unit {0}} files.gmon _ text _ _ _ is written)))

pub returns-in-Some-clause-performs : goal.returns-in-Some-clause-performs
returns-in-Some-clause-performs g c = λ w stands none.
    let m = c.args.run.now.machine in
    let last = after_drive m w in
    let d = c.in_ok-drive.ensures in
    let words = c.args.words.now in
    let files = files_named words c.args.outputs.gmon c.args.outputs.form c.args.outputs.memory in
    let text = profile_bytes files.form c.args.setup m.sizes last in
    let bytes = layout_of (block_image m.sizes last.log) in
    let sizes = c.gmon.ensures.sizes ∙ ap (λ (x : Machine). x.sizes) d.machine in
    let sizes2 = c.gmon-in-Some.ensures.sizes ∙ ap (λ (x : Machine). x.sizes) d.machine in
    let counted = c.exec_counts.ensures.log last (d.stands w stands) ∙ ap (λ (x : Machine). exec_counts_of x last.ran) d.machine in
    let is = held_is files.form c.args.setup c.gmon.result.now c.exec_counts.result.now m last (c.gmon.ensures.log last (d.stands w stands)) sizes counted c.requires.setup in
    let image = image_is c.gmon-in-Some.result.now m.sizes last.log (c.gmon-in-Some.ensures.log last (d.stands w stands)) sizes2 in
    let written = rw c.name-name.ensures at c.in_ok-write_profile.ensures.performs in
    let more = rw c.name.ensures at c.write_image.ensures in
    performs_then last.prints (file_acts files.gmon text ++ given_file_acts files.memory bytes) _ _ _ (tt {0}) _ (printed_performs {T = Unit {0}} w last _ _ (tt {0}) none (d.prints w stands) d.counts)
    (performs_then (file_acts files.gmon text) (given_file_acts files.memory bytes) _ _ _ (tt {0}) _ (file_as {T = Unit {0}} files.gmon _ text _ _ _ is written)
    (given_as words c.in-Some.memory c.args.outputs.memory bytes _ _ _ c.in-Some.is (file_as _ _ bytes _ _ _ image more)))

pub returns-in-None-clause-performs : goal.returns-in-None-clause-performs
returns-in-None-clause-performs g c = λ w stands none.
    let m = c.args.run.now.machine in
    let last = after_drive m w in
    let d = c.in_ok-drive.ensures in
    let words = c.args.words.now in
    let files = files_named words c.args.outputs.gmon c.args.outputs.form c.args.outputs.memory in
    let text = profile_bytes files.form c.args.setup m.sizes last in
    let bytes = layout_of (block_image m.sizes last.log) in
    let sizes = c.gmon.ensures.sizes ∙ ap (λ (x : Machine). x.sizes) d.machine in
    let counted = c.exec_counts.ensures.log last (d.stands w stands) ∙ ap (λ (x : Machine). exec_counts_of x last.ran) d.machine in
    let is = held_is files.form c.args.setup c.gmon.result.now c.exec_counts.result.now m last (c.gmon.ensures.log last (d.stands w stands)) sizes counted c.requires.setup in
    let written = rw c.name-name.ensures at c.in_ok-write_profile.ensures.performs in
    performs_then last.prints (file_acts files.gmon text ++ given_file_acts files.memory bytes) _ _ _ (tt {0}) _ (printed_performs {T = Unit {0}} w last _ _ (tt {0}) none (d.prints w stands) d.counts)
    (performs_then (file_acts files.gmon text) (given_file_acts files.memory bytes) _ _ _ (tt {0}) _ (file_as {T = Unit {0}} files.gmon _ text _ _ _ is written)
    (given_nothing words c.args.outputs.memory bytes _ (tt {0}) c.in-None.is))
