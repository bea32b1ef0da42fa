use Rattle.std.proofs.Common.{ℕ, List, [], ◌∷◌, ◌++◌, map, refl, sym, ap, subst, ◌∙◌}
use Rattle.std.proofs.lemmas.Result.{err_from_is_err_and}
use Rattle.gp_base.specs.declared.records.RawArc.{RawArc}
use Rattle.gp_base.specs.declared.records.Rec.TheVariants.{Arc}
use Rattle.gp_base.specs.declared.records.Records.{Records}
use Rattle.gmon_cells.proofs.RefusalLemmas.{refusal_answered, nothing_refused, given_one}
use Rattle.gmon_bsd.specs.declared.file.Header.{Header}
use Rattle.gmon_bsd.specs.Grammar.{BsdSpells}
use Rattle.gmon_bsd.specs.Reading.{bsd_refusal, low_of, high_of, rate_of}
use Rattle.gmon_bsd.specs.Held.{view_of}
use Rattle.gmon_bsd.proofs.FieldLemmas.{spelled_of}
use Rattle.gmon_bsd.proofs.WholeFile.{given, hist, seen_as, whole_file}
use Rattle.gmon_bsd.proofs.reader.Reader.finish.Goals as goal

pub returns-in_err-header-clause-refused : goal.returns-in_err-header-clause-refused
returns-in_err-header-clause-refused c = λ bytes stands.
    let s = seen_as c.self.view_is stands in
    let p = err_from_is_err_and c.from_residual.result c.from_residual.ensures.1 in
    let there = sym (given bytes c.as_slice.result.now (view_of c.self.inside) s c.as_slice.ensures) ∙ c.in_err-header.ensures.refusal in
    refusal_answered (bsd_refusal bytes) c.in_err-header.field-0.0 c.from_residual.result there (rw (p.1, p.2) refl)

pub returns-in_err-header-clause-refusal : goal.returns-in_err-header-clause-refusal
returns-in_err-header-clause-refusal c = λ bytes stands.
    let s = seen_as c.self.view_is stands in
    let p = err_from_is_err_and c.from_residual.result c.from_residual.ensures.1 in
    let there = sym (given bytes c.as_slice.result.now (view_of c.self.inside) s c.as_slice.ensures) ∙ c.in_err-header.ensures.refusal in
    rw (p.1, p.2) (given_one c.in_err-header.field-0.0 (bsd_refusal bytes) there)

pub returns-clause-accepted : goal.returns-clause-accepted
returns-clause-accepted c = λ bytes stands.
    let s = seen_as c.self.view_is stands in
    sym (given bytes c.as_slice.result.now (view_of c.self.inside) s c.as_slice.ensures) ∙ c.in_ok-header.ensures.accepted

pub returns-in_err-recs-clause-refused : goal.returns-in_err-recs-clause-refused
returns-in_err-recs-clause-refused c = λ bytes stands.
    let s = seen_as c.self.view_is stands in
    nothing_refused (bsd_refusal bytes) c.from_residual-in_err-recs.result (sym (given bytes c.as_slice.result.now (view_of c.self.inside) s c.as_slice.ensures) ∙ c.in_ok-header.ensures.accepted)

pub returns-in_err-push_arcs-clause-refused : goal.returns-in_err-push_arcs-clause-refused
returns-in_err-push_arcs-clause-refused c = λ bytes stands.
    let s = seen_as c.self.view_is stands in
    nothing_refused (bsd_refusal bytes) c.from_residual-in_err-push_arcs.result (sym (given bytes c.as_slice.result.now (view_of c.self.inside) s c.as_slice.ensures) ∙ c.in_ok-header.ensures.accepted)

pub returns-clause-refused : goal.returns-clause-refused
returns-clause-refused c = λ bytes stands. nothing_refused (bsd_refusal bytes) _ (returns-clause-accepted c bytes stands)

pub returns-clause-records : goal.returns-clause-records
returns-clause-records c = λ bytes stands.
    let kept = view_of c.self.inside in
    let s = seen_as c.self.view_is stands in
    let h = c.in_ok-header.header in
    let words = c.in_ok-header.ensures.words in
    let header = c.as_slice.ensures in
    let accepted = sym (given bytes c.as_slice.result.now kept s header) ∙ c.in_ok-header.ensures.accepted in
    let one = c.push_reserved.ensures.items ∙ ap (λ (v : List ℕ). c.in_ok-recs.recs.items ++ hist h.low h.high h.rate v ∷ []) c.from.ensures in
    let both = c.in_ok-push_arcs.ensures.added ∙ ap (λ (v : List RawArc). c.push_reserved.new.self.items ++ map Arc v) c.as_slice-2.ensures.value in
    whole_file bytes kept s accepted h.low h.high h.rate c.in_ok-recs.recs.items c.push_reserved.new.self.items c.from-2.result
    (ap (λ (x : Header). x.low) words ∙ ap low_of header) (ap (λ (x : Header). x.high) words ∙ ap high_of header) (ap (λ (x : Header). x.rate) words ∙ ap rate_of header)
    c.in_ok-recs.ensures.items one (c.from-2.ensures ∙ both)

pub returns-clause-spelled : goal.returns-clause-spelled
returns-clause-spelled c = λ bytes stands.
    let s = seen_as c.self.view_is stands in
    subst (λ (r : Records). BsdSpells bytes r) (sym (returns-clause-records c bytes stands)) (spelled_of bytes s.are_bytes (returns-clause-accepted c bytes stands))
