use Rattle.std.proofs.Common.{refl, ◌∙◌}
use Rattle.std.proofs.lemmas.Result.{err_from_is_err_and}
use Rattle.elf32_syms.proofs.OrderLemmas.{within_limits}
use Rattle.elf32_syms.proofs.RefusalLemmas.{by_header, by_segments, by_text, by_table, by_symbols, all_accepted, image_is}
use Rattle.elf32_syms.proofs.image.read.Goals as goal

pub returns-in_err-header-clause-refusal : goal.returns-in_err-header-clause-refusal
returns-in_err-header-clause-refusal c =
    let p = err_from_is_err_and c.from_residual.result c.from_residual.ensures.1 in
    rw (p.1, p.2) (by_header c.args.bytes.now c.in_err-header.field-0.0 c.in_err-header.ensures.judged)

pub returns-in_err-segments-clause-refusal : goal.returns-in_err-segments-clause-refusal
returns-in_err-segments-clause-refusal c =
    let p = err_from_is_err_and c.from_residual-in_err-segments.result c.from_residual-in_err-segments.ensures.1 in
    rw (p.1, p.2) (by_segments c.args.bytes.now c.in_err-segments.field-0.0 c.in_ok-header.ensures.judged c.in_err-segments.ensures.refusal)

pub returns-in_err-text-clause-refusal : goal.returns-in_err-text-clause-refusal
returns-in_err-text-clause-refusal c =
    let p = err_from_is_err_and c.from_residual-in_err-text.result c.from_residual-in_err-text.ensures.1 in
    rw (p.1, p.2) (by_text c.args.bytes.now c.in_err-text.field-0.0 c.as_slice-sections.result.now (c.as_slice-sections.ensures.value ∙ c.in_ok-headers.ensures)
    c.in_ok-header.ensures.judged c.in_ok-segments.ensures.accepted c.in_err-text.ensures.refusal)

pub returns-in-Err-clause-refusal : goal.returns-in-Err-clause-refusal
returns-in-Err-clause-refusal c =
    by_table c.args.bytes.now c.in-Err.refusal c.as_slice-sections.result.now (c.as_slice-sections.ensures.value ∙ c.in_ok-headers.ensures)
    c.in_ok-header.ensures.judged c.in_ok-segments.ensures.accepted c.in_ok-text.ensures.accepted c.in-Err.ensures.judged

pub returns-in_err-functions-clause-refusal : goal.returns-in_err-functions-clause-refusal
returns-in_err-functions-clause-refusal c =
    let p = err_from_is_err_and c.from_residual-in_err-functions.result c.from_residual-in_err-functions.ensures.1 in
    rw (p.1, p.2) (by_symbols c.args.bytes.now c.in_err-functions.field-0.0 c.as_slice-sections.result.now (c.as_slice-sections.ensures.value ∙ c.in_ok-headers.ensures)
    c.in_ok-header.ensures.judged c.in_ok-segments.ensures.accepted c.in_ok-text.ensures.accepted c.in-Ok.found.0.now c.in-Ok.found.1.now
    c.in-Ok.ensures.judged c.in-Ok.ensures.table c.in-Ok.ensures.strings c.in_err-functions.ensures.refusal)

pub returns-clause-accepted : goal.returns-clause-accepted
returns-clause-accepted c =
    all_accepted c.args.bytes.now c.as_slice-sections.result.now c.in-Ok.found.0.now c.in-Ok.found.1.now (c.as_slice-sections.ensures.value ∙ c.in_ok-headers.ensures)
    c.in-Ok.ensures.table c.in-Ok.ensures.strings c.in_ok-header.ensures.judged c.in_ok-segments.ensures.accepted c.in_ok-text.ensures.accepted c.in-Ok.ensures.judged c.in_ok-functions.ensures.accepted

pub returns-clause-image : goal.returns-clause-image
returns-clause-image c =
    image_is c.args.bytes.now c.as_slice-sections.result.now c.in-Ok.found.0.now c.in-Ok.found.1.now c.in_ok-functions.functions _ (c.as_slice-sections.ensures.value ∙ c.in_ok-headers.ensures)
    c.in-Ok.ensures.table c.in-Ok.ensures.strings c.in_ok-functions.ensures.functions (λ i. (c.in_ok-header.ensures.is i).entry) c.in_ok-segments.ensures.segments
    c.in_ok-text.ensures.low c.in_ok-text.ensures.high refl refl refl

pub returns-clause-limits : goal.returns-clause-limits
returns-clause-limits c =
    within_limits c.args.bytes.now c.as_slice-sections.result.now c.in-Ok.found.1.now _ _ c.in_ok-segments.ensures.accepted c.in_ok-text.ensures.accepted
    c.in_ok-segments.ensures.segments c.in_ok-text.ensures.low c.in_ok-text.ensures.high c.in_ok-functions.ensures.functions.symbols
