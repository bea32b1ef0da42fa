-- The file of a run whose executed instructions were counted spells what was counted.
use Rattle.std.proofs.Common.{◌≡◌, ℕ, zero, suc, ◌+◌, ◌*◌, ◌^◌, ◌<◌, ◌≤◌, Bool, eqb, List, [], ◌∷◌, ◌++◌, length, slice_index, filter_map, Some, None, refl, sym, append_assoc, if◌then◌else◌, arith}
use Rattle.std.specs.List.{AllByRecursion, cons_option, flat_map, range_with_len}
use Rattle.std.proofs.lemmas.List.{append-nil}
use Rattle.std.proofs.lemmas.List.Concat.{flat_map-append}
use Rattle.std.proofs.lemmas.List.FromFn.{length-range_with_len}
use Rattle.gp_base.specs.declared.records.RawBlock.{RawBlock}
use Rattle.gp_base.specs.declared.records.Rec.{Rec}
use Rattle.gp_base.specs.declared.records.Records.{Records}
use Rattle.gp_base.specs.Fields.{BlockFits}
use Rattle.gmon_gnu.specs.Blocks.{block_at, block_record, executed_blocks, record_of}
use Rattle.gmon_gnu.specs.CountedRun.{block_recs, CountsFit, CountedRunsAreSpelled, CountedRunsAreReadBack}
use Rattle.gmon_gnu.specs.Grammar.{rec_bytes, RecFits, GnuSpells}
use Rattle.gmon_gnu.proofs.ProfileSpelling.{all_append}
use Rattle.gmon_gnu.proofs.RunReadBack.{run_spelled}
use Rattle.gmon_gnu.proofs.SpellingLemmas.{accepted_where_spelled, only_where_spelled}

-- ---- records behind those of a file

spelled_more : (bytes text : List ℕ) (r : Records) (more : List Rec) → text ≡ flat_map rec_bytes more → AllByRecursion RecFits more → GnuSpells bytes r → GnuSpells (bytes ++ text) (record r { recs = r.recs ++ more })
spelled_more bytes text r more text_is fit s = grind (arith, all_append, append_assoc, flat_map-append)

-- ---- the record of the counts

one_text : (bs : List RawBlock) → record_of bs ≡ flat_map rec_bytes (block_recs bs)
one_text bs = grind (arith, append-nil)

module _ (low : ℕ) (counts : List ℕ) (fit : CountsFit low counts) where
  abbrev block : ℕ → RawBlock
  block i = record { addr = low + 4 * i; count = slice_index counts i }

  each_fits : (a n : ℕ) → a + n ≤ length counts → AllByRecursion BlockFits (filter_map (block_at low counts) (range_with_len a n))
  each_fits a zero within = tt
  each_fits a (suc n) within = by (eqb (slice_index counts a) 0) (each_fits (a + 1) n (omega arith))
    where
      by : (b : Bool) → AllByRecursion BlockFits (filter_map (block_at low counts) (range_with_len (a + 1) n)) → AllByRecursion BlockFits (cons_option (if b then None else Some (block a)) (filter_map (block_at low counts) (range_with_len (a + 1) n)))
      by b others = grind arith

  fewer : (is : List ℕ) → length (filter_map (block_at low counts) is) ≤ length is
  fewer [] = omega arith
  fewer (i ∷ is) = by (eqb (slice_index counts i) 0) (fewer is)
    where
      by : (b : Bool) → length (filter_map (block_at low counts) is) ≤ length is → length (cons_option (if b then None else Some (block i)) (filter_map (block_at low counts) is)) ≤ suc (length is)
      by b few = grind arith

  short : length counts < 2 ^ 32
  short = by (length counts) refl
    where
      by : (n : ℕ) → length counts ≡ n → length counts < 2 ^ 32
      by n is = grind arith

  recs_fit : AllByRecursion RecFits (block_recs (executed_blocks low counts))
  recs_fit = by (executed_blocks low counts) (each_fits 0 (length counts) (omega arith)) (omega (arith, fewer (range_with_len 0 (length counts)), length-range_with_len 0 (length counts), short))
    where
      by : (bs : List RawBlock) → AllByRecursion BlockFits bs → length bs < 2 ^ 32 → AllByRecursion RecFits (block_recs bs)
      by bs each few = grind arith

pub counted_spelled : CountedRunsAreSpelled
unfolding block_record
counted_spelled z log rate low counts sizes rate_fits calls fit =
    spelled_more _ (block_record low counts) _ (block_recs (executed_blocks low counts)) (one_text (executed_blocks low counts)) (recs_fit low counts fit) (run_spelled z log rate sizes rate_fits calls)

pub counted_read_back : CountedRunsAreReadBack
counted_read_back z log rate low counts sizes rate_fits calls fit =
    let spelled = counted_spelled z log rate low counts sizes rate_fits calls fit in
    (accepted_where_spelled _ _ spelled, sym (only_where_spelled _ _ spelled))
