use Rattle.std.proofs.Common.{sym, ◌∙◌}
use Rattle.std.proofs.lemmas.Result.{err_from_is_err_and}
use Rattle.gmon_data.proofs.OrderLemmas.{content_made}
use Rattle.gmon_bsd.specs.Adding.{spelled_records}
use Rattle.gmon_bsd.specs.Held.{view_of}
use Rattle.gmon_bsd.proofs.WholeFile.{file_accepted, file_added, file_stopped, given, seen_as, slice_range, slices_within}
use Rattle.gmon_bsd.proofs.reader.Reader.into_profile.Goals as goal

pub returns-in_err-header-clause-refusal : goal.returns-in_err-header-clause-refusal
returns-in_err-header-clause-refusal c = λ bytes stands.
    let p = err_from_is_err_and c.from_residual.result c.from_residual.ensures.1 in
    rw (p.1, p.2) (sym (given bytes c.as_slice.result.now (view_of c.self.inside) (seen_as c.self.view_is stands) c.as_slice.ensures) ∙ c.in_err-header.ensures.refusal)

pub add_parts-requires-clause-range : goal.add_parts-requires-clause-range
add_parts-requires-clause-range c =
    let bytes = c.requires.0 in
    slice_range bytes (view_of c.self.inside) _ c.self.view_is c.requires.1 c.as_slice.result.now c.as_slice.ensures c.in_ok-header.ensures.accepted c.in_ok-header.header c.in_ok-header.ensures.words
    c.as_slice-counters.result.now c.as_slice-2.result.now c.as_slice-counters.ensures.value c.as_slice-2.ensures.value

pub add_parts-requires-clause-within : goal.add_parts-requires-clause-within
add_parts-requires-clause-within c =
    let bytes = c.requires.0 in
    slices_within bytes (view_of c.self.inside) _ c.self.view_is c.requires.1 c.as_slice.result.now c.as_slice.ensures c.in_ok-header.ensures.accepted c.in_ok-header.header c.in_ok-header.ensures.words
    c.as_slice-counters.result.now c.as_slice-2.result.now c.as_slice-counters.ensures.value c.as_slice-2.ensures.value
    _ c.new-profile.ensures.content c.requires.2

pub returns-in_err-add_parts-clause-refusal : goal.returns-in_err-add_parts-clause-refusal
returns-in_err-add_parts-clause-refusal c = λ bytes stands.
    let none = file_accepted bytes (view_of c.self.inside) _ c.self.view_is stands c.as_slice.result.now c.as_slice.ensures c.in_ok-header.ensures.accepted c.in_ok-header.header c.in_ok-header.ensures.words
    c.as_slice-counters.result.now c.as_slice-2.result.now c.as_slice-counters.ensures.value c.as_slice-2.ensures.value in
    let unlike = file_stopped bytes (view_of c.self.inside) _ c.self.view_is stands c.as_slice.result.now c.as_slice.ensures c.in_ok-header.ensures.accepted c.in_ok-header.header c.in_ok-header.ensures.words
    c.as_slice-counters.result.now c.as_slice-2.result.now c.as_slice-counters.ensures.value c.as_slice-2.ensures.value
    _ c.new-profile.ensures.content c.in_err-add_parts.field-0.0 c.add_parts.new.profile c.in_err-add_parts.ensures.stopped in
    let p = err_from_is_err_and c.from_residual-in_err-add_parts.result c.from_residual-in_err-add_parts.ensures.1 in
    rw (p.1, p.2) (none, unlike)

pub returns-clause-accepted : goal.returns-clause-accepted
returns-clause-accepted c = λ bytes stands.
    file_accepted bytes (view_of c.self.inside) _ c.self.view_is stands c.as_slice.result.now c.as_slice.ensures c.in_ok-header.ensures.accepted c.in_ok-header.header c.in_ok-header.ensures.words
    c.as_slice-counters.result.now c.as_slice-2.result.now c.as_slice-counters.ensures.value c.as_slice-2.ensures.value

pub returns-clause-like : goal.returns-clause-like
returns-clause-like c = λ bytes stands.
    (file_added bytes (view_of c.self.inside) _ c.self.view_is stands c.as_slice.result.now c.as_slice.ensures c.in_ok-header.ensures.accepted c.in_ok-header.header c.in_ok-header.ensures.words
    c.as_slice-counters.result.now c.as_slice-2.result.now c.as_slice-counters.ensures.value c.as_slice-2.ensures.value
    _ c.new-profile.ensures.content c.add_parts.new.profile c.in_ok-add_parts.ensures.added).accepted

pub returns-clause-content : goal.returns-clause-content
returns-clause-content c = λ bytes stands.
    content_made (spelled_records bytes) c.add_parts.new.profile (file_added bytes (view_of c.self.inside) _ c.self.view_is stands c.as_slice.result.now c.as_slice.ensures c.in_ok-header.ensures.accepted c.in_ok-header.header c.in_ok-header.ensures.words
    c.as_slice-counters.result.now c.as_slice-2.result.now c.as_slice-counters.ensures.value c.as_slice-2.ensures.value
    _ c.new-profile.ensures.content c.add_parts.new.profile c.in_ok-add_parts.ensures.added)
