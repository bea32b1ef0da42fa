use Rattle.std.proofs.Common.{arith, [], ◌∷◌, ◌+◌, None, refl}
use Rattle.gp_base.specs.declared.limits.TheConstants.{MAX_PROFILE_BYTES}
use Rattle.host_port.specs.Act.{Out}
use Rattle.host_port.specs.declared.side.Side.TheVariants.{Output}
use Rattle.gmon_files.specs.Forms.{file_records}
use Rattle.text_lines.specs.Lines.{show_text}
use Rattle.courses.specs.Answer.{end_course, show_lines}
use Rattle.command_inputs.proofs.Accepting.{a_profile, no_profile}
use Rattle.courses.proofs.Standing.{fails, not_loaded, last_acts}
use Rattle.host_port.proofs.PerformingLemmas.{puts_performs}
use Rattle.rvgprof.proofs.show.show.Goals as goal

pub returns-in-Err : goal.returns-in-Err
returns-in-Err g c =
    let loads = rw c.name.ensures at c.in-Err.ensures.read in
    rw c.load_fault.ensures (not_loaded c.args.words.now _ _ _ 0 c.args.gmon MAX_PROFILE_BYTES _ c.in-Err.refusal c.requires (omega arith) loads)

pub returns-in-Err-records : goal.returns-in-Err-records
returns-in-Err-records g c =
    let r = rw c.name.ensures at c.in-Ok.ensures.read in
    let refusal = c.in-Err-records.refusal in
    let refused = c.in-Err-records.ensures.refused r.0 r.2 in
    rw c.profile_fault.ensures (no_profile c.args.words.now _ _ _ 0 c.args.gmon MAX_PROFILE_BYTES show_lines r.0 refusal c.requires (omega arith) r.1 refused)

pub returns-in-Ok-show_file : goal.returns-in-Ok-show_file
returns-in-Ok-show_file g c =
    let r = rw c.name.ensures at c.in-Ok.ensures.read in
    let records = file_records r.0 in
    let stands = a_profile c.args.words.now _ _ _ 0 c.args.gmon MAX_PROFILE_BYTES show_lines r.0 records c.requires (omega arith) r.1 (c.in-Ok-records.ensures.accepted r.0 r.2) refl in
    let puts = rw (c.in-Ok-records.ensures.records r.0 r.2) at c.in-Ok-show_file.ensures in
    last_acts c.args.words.now _ _ _ (c.args.gmon + 1) [] (Out (show_text records) ∷ []) (record { run = None }) tt stands (puts_performs Output (show_text records) _ _ _ puts) refl

pub returns : goal.returns
returns g c =
    let r = rw c.name.ensures at c.in-Ok.ensures.read in
    let records = file_records r.0 in
    let stands = a_profile c.args.words.now _ _ _ 0 c.args.gmon MAX_PROFILE_BYTES show_lines r.0 records c.requires (omega arith) r.1 (c.in-Ok-records.ensures.accepted r.0 r.2) refl in
    let puts = rw (c.in-Ok-records.ensures.records r.0 r.2) at c.in-Err-show_file.ensures in
    fails c.args.words.now _ _ _ (c.args.gmon + 1) [] (Out (show_text records) ∷ []) end_course c.in-Err-show_file.field-0 stands (puts_performs Output (show_text records) _ _ _ puts)
