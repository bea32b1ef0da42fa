-- What the records of a file hold: no more than its bytes, and ranges.
use Rattle.std.proofs.Common.{◌≡◌, ℕ, List, [], ◌∷◌, ◌++◌, length, map, None}
use Rattle.std.specs.List.{All, AllByRecursion}
use Rattle.std.proofs.lemmas.List.Elements.{All-from_recursion, recursion_from_All}
use Rattle.gp_base.specs.Bytes.{IsBytes}
use Rattle.gp_base.specs.declared.records.RawBlock.{RawBlock}
use Rattle.gp_base.specs.declared.records.Rec.{Rec}
use Rattle.gp_base.specs.declared.records.Rec.TheVariants as raw
use Rattle.gp_base.specs.declared.records.Records.{Records}
use Rattle.gp_base.specs.declared.records.Form.{Form}
use Rattle.gp_base.specs.declared.records.Form.TheVariants.{Bsd, Gnu}
use Rattle.gp_base.specs.Spans.{HasRange}
use Rattle.gmon_data.specs.Content.{HasSpan, WideRec, empty_content, wide_block, wide_records, with_records}
use Rattle.gmon_data.specs.Sizes.{IsOfBytes}
use Rattle.gmon_bsd.proofs.SizeLemmas as bsd
use Rattle.gmon_gnu.proofs.SizeLemmas as gnu
use Rattle.gmon_files.specs.Forms.{file_records, file_refusal, form_of, SpellsIn, FileSpells}
use Rattle.gmon_files.proofs.FileReading.{accepted_spelled}

pub of_file : (bytes : List ℕ) (r : Records) → FileSpells bytes r → IsOfBytes (length bytes) (with_records (wide_records r.recs) empty_content)
of_file bytes r spells = by (form_of bytes) spells
  where
    by : (form : Form) → SpellsIn form bytes r → IsOfBytes (length bytes) (with_records (wide_records r.recs) empty_content)
    by Bsd spells = bsd.of_spelling bytes r spells
    by Gnu spells = gnu.of_spelling bytes r spells

-- ---- histograms with counters have a range

pub ranges_of_file : (bytes : List ℕ) (r : Records) → FileSpells bytes r → All HasRange r.recs
ranges_of_file bytes r spells = All-from_recursion HasRange r.recs (by (form_of bytes) spells)
  where
    by : (form : Form) → SpellsIn form bytes r → AllByRecursion HasRange r.recs
    by Bsd spells = bsd.have_ranges bytes r spells
    by Gnu spells = gnu.have_ranges r.recs spells.recs_fit

blocks_before : (blocks : List RawBlock) (rest : List WideRec) → AllByRecursion HasSpan rest → AllByRecursion HasSpan (map wide_block blocks ++ rest)
blocks_before [] rest all = all
blocks_before (block ∷ blocks) rest all = (tt, blocks_before blocks rest all)

spans_of_records : (recs : List Rec) → AllByRecursion HasRange recs → AllByRecursion HasSpan (wide_records recs)
spans_of_records [] all = tt
spans_of_records (raw.Hist hist ∷ recs) all = (all.0, spans_of_records recs all.1)
spans_of_records (raw.Arc arc ∷ recs) all = (tt, spans_of_records recs all.1)
spans_of_records (raw.Blocks blocks ∷ recs) all = blocks_before blocks (wide_records recs) (spans_of_records recs all.1)

pub spans_of_file : (bytes : List ℕ) → IsBytes bytes → file_refusal bytes ≡ None → All HasSpan (wide_records (file_records bytes).recs)
spans_of_file bytes are none =
    let recs = (file_records bytes).recs in
    let ranges = ranges_of_file bytes (file_records bytes) (accepted_spelled bytes are none) in
    All-from_recursion HasSpan (wide_records recs) (spans_of_records recs (recursion_from_All HasRange recs ranges))
