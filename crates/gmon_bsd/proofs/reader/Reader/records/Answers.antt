use Rattle.std.proofs.Common.{[], ◌∷◌, map, refl, sym, ap, ◌∙◌}
use Rattle.gp_base.specs.declared.records.Rec.TheVariants.{Arc}
use Rattle.gp_base.specs.declared.records.Records.{Records}
use Rattle.gmon_bsd.specs.declared.file.Header.{Header}
use Rattle.gmon_bsd.specs.Reading.{low_of, high_of, rate_of}
use Rattle.gmon_bsd.specs.Held.{view_of}
use Rattle.gmon_bsd.proofs.WholeFile.{given, hist, seen_as, whole_file}
use Rattle.gmon_bsd.proofs.reader.Reader.records.Goals as goal

pub returns-in-Err-clause-refused : goal.returns-in-Err-clause-refused
returns-in-Err-clause-refused c = λ bytes stands.
    let s = seen_as c.self.view_is stands in
    sym (given bytes c.as_slice.result.now (view_of c.self.inside) s c.as_slice.ensures) ∙ c.in-Err.ensures.refusal

pub returns-clause-accepted : goal.returns-clause-accepted
returns-clause-accepted c = λ bytes stands.
    let s = seen_as c.self.view_is stands in
    sym (given bytes c.as_slice.result.now (view_of c.self.inside) s c.as_slice.ensures) ∙ c.in-Ok.ensures.accepted

pub returns-clause-records : goal.returns-clause-records
returns-clause-records c = λ bytes stands.
    let kept = view_of c.self.inside in
    let s = seen_as c.self.view_is stands in
    let h = c.in-Ok.header in
    let words = c.in-Ok.ensures.words in
    let header = c.as_slice.ensures in
    let accepted = sym (given bytes c.as_slice.result.now kept s header) ∙ c.in-Ok.ensures.accepted in
    let hist_kept = hist h.low h.high h.rate kept.counters in
    let all = whole_file bytes kept s accepted h.low h.high h.rate [] (hist_kept ∷ []) (hist_kept ∷ map Arc kept.arcs)
    (ap (λ (x : Header). x.low) words ∙ ap low_of header) (ap (λ (x : Header). x.high) words ∙ ap high_of header) (ap (λ (x : Header). x.rate) words ∙ ap rate_of header) refl refl refl in
    c.new.ensures ∙ (λ i. hist h.low h.high h.rate (c.as_slice-2.ensures.value i) ∷ map Arc (c.as_slice-3.ensures.value i)) ∙ ap (λ (r : Records). r.recs) all
