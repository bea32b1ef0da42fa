-- What a file holds at most, and that its histograms have ranges.
use Rattle.std.proofs.Common.{◌≡◌, ℕ, ◌+◌, ◌*◌, ◌≤◌, List, [], ◌∷◌, ◌++◌, length, length-append, sym, subst, arith}
use Rattle.std.specs.List.{AllByRecursion, flat_map, sum_by}
use Rattle.std.proofs.lemmas.List.Sums.{sum_by-cons}
use Rattle.gp_base.specs.declared.records.Rec.{Rec}
use Rattle.gp_base.specs.declared.records.Rec.TheVariants as raw
use Rattle.gp_base.specs.declared.records.Records.{Records}
use Rattle.gp_base.specs.Fields.{block_bytes, counter_bytes}
use Rattle.gp_base.proofs.Cutting.{length-spelled}
use Rattle.gp_base.proofs.FieldLemmas.{block_length, counter_length}
use Rattle.gp_base.specs.Spans.{HasRange}
use Rattle.gmon_data.specs.Content.{Content, empty_content, wide_hist, wide_record, wide_records, with_records}
use Rattle.gmon_data.specs.Sizes.{IsOfBytes}
use Rattle.gmon_data.proofs.RecordLemmas.{with_records-append}
use Rattle.gmon_data.proofs.SizeLemmas.{all_blocks, counters_sum, more_bytes, of_nothing, one_arc, one_hist}
use Rattle.gmon_gnu.specs.Grammar.{GnuSpells, RecFits, rec_bytes, gnu_spelling}

-- the bytes that its numbers take at least
abbrev weight : Rec → ℕ
weight (raw.Hist h) = 2 * length h.counters
weight (raw.Arc a) = 12
weight (raw.Blocks blocks) = 8 * length blocks

abbrev weights : List Rec → ℕ
weights recs = sum_by weight recs

one_record : (r : Rec) (c : Content) (n : ℕ) → RecFits r → IsOfBytes n c → IsOfBytes (n + weight r) (with_records (wide_record r) c)
one_record (raw.Hist h) c n fit of = one_hist (wide_hist h) h.«unit» c n (counters_sum h.counters fit.counters) of
one_record (raw.Arc a) c n fit of = one_arc a.from a.to a.count c n fit.count of
one_record (raw.Blocks blocks) c n fit of = all_blocks blocks c n fit.each of

all_records : (recs : List Rec) (c : Content) (n : ℕ) → AllByRecursion RecFits recs → IsOfBytes n c → IsOfBytes (n + weights recs) (with_records (wide_records recs) c)
all_records [] c n fit of = let e : n ≡ n + 0 = omega arith in subst (λ (m : ℕ). IsOfBytes m c) e of
all_records (r ∷ recs) c n fit of =
    let rest = all_records recs (with_records (wide_record r) c) (n + weight r) fit.1 (one_record r c n fit.0 of) in
    let e : (n + weight r) + weights recs ≡ n + weights (r ∷ recs) = omega (arith, sum_by-cons weight r recs) in
    subst (λ (m : ℕ). IsOfBytes m (with_records (wide_records (r ∷ recs)) c)) e
    (subst (λ (d : Content). IsOfBytes ((n + weight r) + weights recs) d) (sym (with_records-append (wide_record r) (wide_records recs) c)) rest)

-- ---- how long their spelling is

record_long : (r : Rec) → weight r ≤ length (rec_bytes r)
record_long (raw.Hist h) = omega (arith, length-append h.unit.dim (h.unit.«abbrev» ∷ flat_map counter_bytes h.counters), length-spelled 2 counter_bytes counter_length h.counters)
record_long (raw.Arc a) = omega arith
record_long (raw.Blocks blocks) = omega (arith, length-spelled 8 block_bytes block_length blocks)

records_long : (recs : List Rec) → weights recs ≤ length (flat_map rec_bytes recs)
records_long [] = omega arith
records_long (r ∷ recs) = omega (arith, record_long r, records_long recs, sum_by-cons weight r recs, length-append (rec_bytes r) (flat_map rec_bytes recs))

spelling_long : (first spare : List ℕ) (recs : List Rec) → weights recs ≤ length (gnu_spelling first spare recs)
spelling_long first spare recs = omega (arith, records_long recs, length-append first (behind_first spare recs), length-append spare (flat_map rec_bytes recs))
  where
    behind_first : List ℕ → List Rec → List ℕ
    behind_first spare recs = 1 ∷ 0 ∷ 0 ∷ 0 ∷ (spare ++ flat_map rec_bytes recs)

pub of_spelling : (bytes : List ℕ) (r : Records) → GnuSpells bytes r → IsOfBytes (length bytes) (with_records (wide_records r.recs) empty_content)
of_spelling bytes r spells =
    let long : weights r.recs ≤ length bytes = subst (λ (bs : List ℕ). weights r.recs ≤ length bs) (sym spells.text) (spelling_long spells.first spells.spare r.recs) in
    more_bytes (0 + weights r.recs) (length bytes) _ (omega (arith, long)) (all_records r.recs empty_content 0 spells.recs_fit of_nothing)

-- ---- histograms with counters have a range

pub have_ranges : (recs : List Rec) → AllByRecursion RecFits recs → AllByRecursion HasRange recs
have_ranges [] fit = tt
have_ranges (raw.Hist h ∷ recs) fit = (fit.0.range, have_ranges recs fit.1)
have_ranges (raw.Arc a ∷ recs) fit = (tt, have_ranges recs fit.1)
have_ranges (raw.Blocks blocks ∷ recs) fit = (tt, have_ranges recs fit.1)
