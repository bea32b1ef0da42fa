use Rattle.std.proofs.Common.{◌≡◌, List, None, Some, Ok, Err, drop, map, ap, arith, rules, subst, sym, ◌∙◌}
use Rattle.std.proofs.lemmas.Result.{err_from_is_err_and}
use Rattle.gp_base.specs.declared.records.Rec.TheVariants.{Arc}
use Rattle.gmon_data.specs.Content.{WideRec, IsWithin, conflict_of, content_of, empty_content, wide_records, with_records}
use Rattle.gmon_data.specs.Hists.{IsUnlike}
use Rattle.gmon_data.specs.declared.refusal.ReadRefusal.TheVariants.{Profile}
use Rattle.gmon_data.proofs.OrderLemmas.{content_made}
use Rattle.gmon_gnu.specs.Ending.{ending_result}
use Rattle.gmon_gnu.specs.FirstHists.{conflict_among_first}
use Rattle.gmon_gnu.specs.Held.{recs_of}
use Rattle.gmon_gnu.specs.Reading.{refusal_read}
use Rattle.gmon_gnu.specs.Shown.{view_of}
use Rattle.gmon_gnu.proofs.AddingLemmas.{entries_ranges}
use Rattle.gmon_gnu.proofs.FedLemmas.{accepted_out, all_read, ranges_read, read_out, refusal_on, seen_as}
use Rattle.gmon_gnu.proofs.FirstHistsLemmas.{IsFileAnswer, profile_told, refusal_told}
use Rattle.gmon_gnu.proofs.reader.Reader.into_profile.Goals as goal

pub returns-in-Some-clause-refusal : goal.returns-in-Some-clause-refusal
returns-in-Some-clause-refusal c = λ bytes stands.
    refusal_on bytes ∙ ap refusal_read (read_out bytes (view_of c.self.inside) (Some c.in-Some.refusal) (seen_as c.self.view_is stands) (c.end_fault.ensures ∙ ap ending_result c.in-Some.is))

pub into_profile-requires : goal.into_profile-requires
into_profile-requires c =
    let bytes = c.requires.0 in
    let kept = view_of c.self.inside in
    let s = seen_as c.self.view_is c.requires.1 in
    let ends = c.end_fault.ensures ∙ ap ending_result c.in_default.is in
    let state = c.self.inside.state in
    record {
      held = search rules;
      run = search rules;
      ranges = entries_ranges state.fields.items state.counters.cells.items state.pairs.cells.items state.arcs.items state.entries.items (map Arc (drop state.run state.arcs.items)) (ranges_read bytes kept s ends);
      few = omega (arith, c.self.invariant.small, c.self.invariant.few.entries, state.entries.ok);
      within = subst (λ (recs : List WideRec). IsWithin (with_records recs empty_content)) (all_read bytes kept s ends) (c.requires.2 (accepted_out bytes kept s ends));
    }

pub returns-in_err-into_profile-clause-refusal : goal.returns-in_err-into_profile-clause-refusal
returns-in_err-into_profile-clause-refusal c = λ bytes stands.
    let kept = view_of c.self.inside in
    let s = seen_as c.self.view_is stands in
    let ends = c.end_fault.ensures ∙ ap ending_result c.in_default.is in
    let refusal = c.in_err-into_profile.field-0.0 in
    let p = err_from_is_err_and c.from_residual.result c.from_residual.ensures.1 in
    rw (p.1, p.2) (accepted_out bytes kept s ends, subst (λ (recs : List WideRec). IsUnlike refusal (conflict_of empty_content recs)) (sym (all_read bytes kept s ends)) c.in_err-into_profile.ensures.refusal)

pub returns-clause-accepted : goal.returns-clause-accepted
returns-clause-accepted c = λ bytes stands. accepted_out bytes (view_of c.self.inside) (seen_as c.self.view_is stands) (c.end_fault.ensures ∙ ap ending_result c.in_default.is)

pub returns-clause-like : goal.returns-clause-like
returns-clause-like c = λ bytes stands.
    let same = all_read bytes (view_of c.self.inside) (seen_as c.self.view_is stands) (c.end_fault.ensures ∙ ap ending_result c.in_default.is) in
    subst (λ (recs : List WideRec). conflict_of empty_content recs ≡ None) (sym same) c.in_ok-into_profile.ensures.made.accepted

pub returns-clause-content : goal.returns-clause-content
returns-clause-content c = λ bytes stands.
    let same = all_read bytes (view_of c.self.inside) (seen_as c.self.view_is stands) (c.end_fault.ensures ∙ ap ending_result c.in_default.is) in
    content_made (wide_records (recs_of c.self.inside.state)) _ c.in_ok-into_profile.ensures.made ∙ ap content_of (sym same)

pub returns-in-Some-clause-told : goal.returns-in-Some-clause-told
returns-in-Some-clause-told c = λ bytes stands none.
    let same : Some c.in-Some.refusal ≡ None = sym (returns-in-Some-clause-refusal c bytes stands) ∙ none in
    absurd (cc)

pub returns-in_err-into_profile-clause-told : goal.returns-in_err-into_profile-clause-told
returns-in_err-into_profile-clause-told c = λ bytes stands none.
    let same = all_read bytes (view_of c.self.inside) (seen_as c.self.view_is stands) (c.end_fault.ensures ∙ ap ending_result c.in_default.is) in
    let refusal = c.in_err-into_profile.field-0.0 in
    let p = err_from_is_err_and c.from_residual.result c.from_residual.ensures.1 in
    let told = refusal_told refusal (conflict_among_first 64 (wide_records (recs_of c.self.inside.state))) c.in_err-into_profile.ensures.told in
    rw (p.1, p.2) (subst (λ (recs : List WideRec). IsFileAnswer (Err (Profile refusal)) (conflict_among_first 64 recs)) (sym same) told)

pub returns-clause-told : goal.returns-clause-told
returns-clause-told c = λ bytes stands none.
    let same = all_read bytes (view_of c.self.inside) (seen_as c.self.view_is stands) (c.end_fault.ensures ∙ ap ending_result c.in_default.is) in
    let told = profile_told _ (conflict_among_first 64 (wide_records (recs_of c.self.inside.state))) c.in_ok-into_profile.ensures.told in
    subst (λ (recs : List WideRec). IsFileAnswer (Ok c.in_ok-into_profile.field-0) (conflict_among_first 64 recs)) (sym same) told
