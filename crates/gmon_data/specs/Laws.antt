-- What follows from the definitions of a content.
use Rattle.std.specs.Prelude.{◌≡◌, ◌↔◌, ◌++◌, ℕ, List, None, filter_map, map, nat_eq, Contains}
use Rattle.std.specs.List.{sum_by, All, AllByRecursion}
use Rattle.gmon_data.specs.declared.hist.Hist.{Hist}
use Rattle.gmon_data.specs.declared.hist.HistRange.{HistRange}
use Rattle.gmon_data.specs.Content.{WideRec, block_in, conflict_of, content_of, empty_content, hist_in, runs_at, with_records, HasSpan}
use Rattle.gmon_data.specs.Hists.{count_at, range_of, IsApart, IsKept}
use Rattle.gmon_data.specs.Tally.{sum_at}

-- each counter is the sum of that counter: for every low address and every place, the histograms of a
-- content together count there what the histograms among its records count
abbrev pub CountersAddUp : Type 0
CountersAddUp = (recs : List WideRec) (low i : ℕ) → sum_by (count_at low i) (content_of recs).hists ≡ sum_by (count_at low i) (filter_map hist_in recs)

-- the content of records and more records is that of the first ones, with the others added one by one
abbrev pub RecordsAddUp : Type 0
RecordsAddUp = (recs more : List WideRec) → content_of (recs ++ more) ≡ with_records more (content_of recs)

-- the executions at an address are all that the records have there
abbrev pub ExecutionsAddUp : Type 0
ExecutionsAddUp = (recs : List WideRec) (addr : ℕ) → runs_at addr (content_of recs).blocks ≡ sum_at nat_eq addr (filter_map block_in recs)

-- histograms have the ranges of others, each once: they are in ascending order, each ends at or below the
-- begin of those after it, and none has no addresses
pub record HaveRangesOf (given kept : List Hist) : Type 0 where
  pub those : (range : HistRange) → Contains (map range_of kept) range ↔ Contains (map range_of given) range
  pub apart : IsApart kept
  pub some : AllByRecursion IsKept kept

-- the ranges of a content without conflict are those of its records
abbrev pub RangesAreOfRecords : Type 0
RangesAreOfRecords = (recs : List WideRec) → All HasSpan recs → conflict_of empty_content recs ≡ None → HaveRangesOf (filter_map hist_in recs) (content_of recs).hists
