use Rattle.std.proofs.Common.{[], ◌∷◌, ◌+◌, None, arith, inl, refl}
use Rattle.std.proofs.lemmas.Result.{err_from_is_err_and}
use Rattle.annotate.specs.Listing.{annotated_text}
use Rattle.gp_base.specs.declared.limits.TheConstants.{MAX_PROFILE_BYTES}
use Rattle.gmon_data.specs.Content.{Content, empty_content}
use Rattle.host_port.specs.Act.{Out}
use Rattle.host_port.specs.declared.side.Side.TheVariants.{Output}
use Rattle.host_port.proofs.PerformingLemmas.{puts_performs}
use Rattle.courses.specs.Course.{Course, Does}
use Rattle.courses.specs.Answer.{end_course, list_profiles}
use Rattle.courses.proofs.Standing.{last_acts, fails}
use Rattle.command_inputs.proofs.Summing.{all_behind, may_stop_profiles}
use Rattle.rvgprof.proofs.annotation.print_listing.Goals as goal

pub returns-in_err-bytes : goal.returns-in_err-bytes
returns-in_err-bytes g c =
    let p = err_from_is_err_and c.from_residual.result c.from_residual.ensures.1 in
    rw (p.1, p.2) (c.in_err-bytes.ensures.reads _ 0 (list_profiles c.args.gmons.now) (omega arith) c.requires.stands
    (λ contents bytes image. may_stop_profiles contents c.args.gmons.now MAX_PROFILE_BYTES empty_content (λ total. Does (Out (annotated_text image bytes total) ∷ []) end_course) (λ contents total. (inl refl, refl))))

pub returns-in_err-total : goal.returns-in_err-total
returns-in_err-total g c =
    let next : Content → Course = λ total. Does (Out (annotated_text c.in_ok-bytes.image c.in_ok-bytes.bytes.items total) ∷ []) end_course in
    let s = c.in_ok-bytes.ensures.reads _ 0 (list_profiles c.args.gmons.now) (omega arith) c.requires.stands in
    let p = err_from_is_err_and c.from_residual-in_err-total.result c.from_residual-in_err-total.ensures.1 in
    rw (p.1, p.2) (c.in_err-total.ensures.reads _ (c.args.elf + 1) next (λ contents total. (inl refl, refl)) (all_behind c.args.elf c.args.gmons.now c.requires.rising.0) s)

pub returns-in-Ok : goal.returns-in-Ok
returns-in-Ok g c =
    let words = c.args.words.now in
    let next : Content → Course = λ total. Does (Out (annotated_text c.in_ok-bytes.image c.in_ok-bytes.bytes.items total) ∷ []) end_course in
    let s = c.in_ok-bytes.ensures.reads _ 0 (list_profiles c.args.gmons.now) (omega arith) c.requires.stands in
    let t = c.in_ok-total.ensures.reads _ (c.args.elf + 1) next (λ contents total. (inl refl, refl)) (all_behind c.args.elf c.args.gmons.now c.requires.rising.0) s in
    let puts = rw c.as_slice.ensures.value at c.in-Ok.ensures in
    let text = annotated_text c.in_ok-bytes.image c.in_ok-bytes.bytes.items c.in_ok-total.total in
    last_acts words _ _ _ t.0 [] (Out text ∷ []) (record { run = None }) (tt {0}) t.1 (puts_performs Output text _ _ _ puts) refl

pub returns : goal.returns
returns g c =
    let words = c.args.words.now in
    let next : Content → Course = λ total. Does (Out (annotated_text c.in_ok-bytes.image c.in_ok-bytes.bytes.items total) ∷ []) end_course in
    let s = c.in_ok-bytes.ensures.reads _ 0 (list_profiles c.args.gmons.now) (omega arith) c.requires.stands in
    let t = c.in_ok-total.ensures.reads _ (c.args.elf + 1) next (λ contents total. (inl refl, refl)) (all_behind c.args.elf c.args.gmons.now c.requires.rising.0) s in
    let puts = rw c.as_slice.ensures.value at c.in-Err.ensures in
    let text = annotated_text c.in_ok-bytes.image c.in_ok-bytes.bytes.items c.in_ok-total.total in
    fails {T = Unit {0}} words _ _ _ t.0 [] (Out text ∷ []) end_course c.in-Err.field-0 t.1 (puts_performs {T = Unit {0}} Output text _ _ _ puts)
