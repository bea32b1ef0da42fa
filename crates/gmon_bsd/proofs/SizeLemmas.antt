-- What a file holds at most, and that its histogram has a range.
use Rattle.std.proofs.Common.{ℕ, ◌+◌, ◌*◌, ◌≤◌, List, [], ◌∷◌, ◌++◌, length, length-append, map, sym, subst, arith}
use Rattle.std.specs.List.{AllByRecursion, flat_map}
use Rattle.gp_base.specs.declared.records.RawArc.{RawArc}
use Rattle.gp_base.specs.declared.records.Rec.{Rec}
use Rattle.gp_base.specs.declared.records.Rec.TheVariants as raw
use Rattle.gp_base.specs.declared.records.Records.{Records}
use Rattle.gp_base.specs.Fields.{seconds, arc_bytes, counter_bytes}
use Rattle.gp_base.proofs.Cutting.{length-spelled}
use Rattle.gp_base.proofs.FieldLemmas.{arc_length, counter_length}
use Rattle.gp_base.specs.Spans.{HasRange}
use Rattle.gmon_data.specs.Content.{WideRec, empty_content, hist_over, wide_records, with_hist, with_records}
use Rattle.gmon_data.specs.Sizes.{IsOfBytes}
use Rattle.gmon_data.proofs.SizeLemmas.{all_arcs, counters_sum, more_bytes, of_nothing, one_hist}
use Rattle.gmon_bsd.specs.Grammar.{BsdSpells, bsd_spelling}
use Rattle.gmon_data.proofs.RecordLemmas.{arcs_widened}

spelling_long : (low high rate : ℕ) (spare counters : List ℕ) (arcs : List RawArc) → 2 * length counters + 12 * length arcs ≤ length (bsd_spelling low high rate spare counters arcs)
spelling_long low high rate spare counters arcs =
    omega (arith, length-spelled 2 counter_bytes counter_length counters, length-spelled 12 arc_bytes arc_length arcs, length-append spare (flat_map counter_bytes counters ++ flat_map arc_bytes arcs), length-append (flat_map counter_bytes counters) (flat_map arc_bytes arcs))

pub of_spelling : (bytes : List ℕ) (r : Records) → BsdSpells bytes r → IsOfBytes (length bytes) (with_records (wide_records r.recs) empty_content)
of_spelling bytes r spells =
    let hist = hist_over spells.low spells.high spells.counters in
    let unit = seconds spells.rate in
    let n = 0 + 2 * length spells.counters in
    let long : 2 * length spells.counters + 12 * length spells.arcs ≤ length bytes =
    subst (λ (bs : List ℕ). 2 * length spells.counters + 12 * length spells.arcs ≤ length bs) (sym spells.text) (spelling_long spells.low spells.high spells.rate spells.spare spells.counters spells.arcs) in
    let first = one_hist hist unit empty_content 0 (counters_sum spells.counters spells.counters_fit) of_nothing in
    let both = more_bytes (n + 12 * length spells.arcs) (length bytes) _ (omega (arith, long)) (all_arcs spells.arcs (with_hist hist unit empty_content) n spells.arcs_fit first) in
    subst (λ (recs : List Rec). IsOfBytes (length bytes) (with_records (wide_records recs) empty_content)) (sym spells.records)
    (subst (λ (recs : List WideRec). IsOfBytes (length bytes) (with_records recs (with_hist hist unit empty_content))) (sym (arcs_widened spells.arcs)) both)

arc_ranges : (arcs : List RawArc) → AllByRecursion HasRange (map raw.Arc arcs)
arc_ranges [] = tt
arc_ranges (a ∷ arcs) = (tt, arc_ranges arcs)

pub have_ranges : (bytes : List ℕ) (r : Records) → BsdSpells bytes r → AllByRecursion HasRange r.recs
have_ranges bytes r spells = subst (λ (recs : List Rec). AllByRecursion HasRange recs) (sym spells.records) (spells.range, arc_ranges spells.arcs)
