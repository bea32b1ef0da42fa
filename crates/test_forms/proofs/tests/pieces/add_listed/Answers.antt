use Rattle.std.proofs.Common.{length, subst, sym, arith}
use Rattle.gmon_data.specs.Content.{Content, wide_records, with_records}
use Rattle.gmon_data.specs.Sizes.{IsOfBytes}
use Rattle.gmon_data.proofs.SizeLemmas.{within_limits}
use Rattle.gmon_files.proofs.RecordLemmas.{of_file, ranges_of_file}
use Rattle.test_forms.proofs.tests.pieces.add_listed.Goals as goal

pub add_records-requires-clause-ranges : goal.add_records-requires-clause-ranges
add_records-requires-clause-ranges c = ranges_of_file c.args.bytes.now c.in_ok-records.records c.in_ok-records.ensures

pub add_records-requires-clause-within : goal.add_records-requires-clause-within
add_records-requires-clause-within c =
    let bytes = c.args.bytes.now in
    let r = c.in_ok-records.records in
    within_limits (length bytes) _
    (subst (λ (p : Content). IsOfBytes (length bytes) (with_records (wide_records r.recs) p)) (sym c.requires.empty) (of_file bytes r c.in_ok-records.ensures))
    (omega (arith, c.requires.small))
