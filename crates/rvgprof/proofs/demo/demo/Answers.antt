use Rattle.std.proofs.Common.{refl}
use Rattle.std.proofs.lemmas.Result.{err_from_is_err_and}
use Rattle.std.specs.Option.{option_map}
use Rattle.demo_elf.specs.Elf.{demo_program}
use Rattle.demo_laws.proofs.DemoLemmas.{demo_accepted}
use Rattle.command_words.specs.Items.{nth_word}
use Rattle.command_inputs.proofs.Accepting.{no_image}
use Rattle.rvgprof.proofs.Demonstrating.{demo_ran, demo_not_written}
use Rattle.rvgprof.proofs.demo.demo.Goals as goal

pub returns-in_err-bytes : goal.returns-in_err-bytes
returns-in_err-bytes g c =
    let r = c.in_err-bytes.ensures.refused in
    let p = err_from_is_err_and c.from_residual.result c.from_residual.ensures.1 in
    rw (p.1, p.2) (rw r.1 (no_image c.args.words.now _ _ (demo_program c.args.functions) _ _ r.0 c.requires.stands r.2 (demo_accepted c.args.functions c.requires.few).accepted))

pub returns-in-Ok : goal.returns-in-Ok
returns-in-Ok g c =
    let words = c.args.words.now in
    let written = rw c.as_slice.ensures.value at c.in-Ok.ensures in
    let ran = rw c.as_slice-in-Ok.ensures.value at c.run_demo.ensures in
    demo_ran words c.args.functions c.args.setup (option_map (nth_word words) c.args.elf) c.in_ok-bytes.bytes.items c.in_ok-bytes.bytes.items c.in_ok-bytes.image _ c.in_ok-bytes.ensures.read refl c.requires.stands _ _ c.run_demo.result c.in-Ok.field-0 written ran

pub returns : goal.returns
returns g c =
    let words = c.args.words.now in
    let written = rw c.as_slice.ensures.value at c.in-Err.ensures in
    demo_not_written words c.args.functions c.args.setup (option_map (nth_word words) c.args.elf) c.in_ok-bytes.bytes.items c.in_ok-bytes.bytes.items c.in_ok-bytes.image _ c.in_ok-bytes.ensures.read refl c.requires.stands _ c.in-Err.field-0 written
