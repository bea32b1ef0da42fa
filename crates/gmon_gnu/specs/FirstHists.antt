-- The first histograms of a file that have counters, and why one of them can't be added to those before it.
use Rattle.std.specs.Prelude.{ℕ, Bool, false, List, take, Option}
use Rattle.std.specs.List.{filter}
use Rattle.gmon_data.specs.declared.refusal.Unlike.{Unlike}
use Rattle.gmon_data.specs.Content.{WideRec, WideHist, WideArc, WideBlock, conflict_of, empty_content}
use Rattle.gmon_data.specs.Hists.{has_counters}

-- whether a record is a histogram with counters
abbrev pub is_counted : WideRec → Bool
is_counted (WideHist h u) = has_counters h
is_counted (WideArc from to count) = false
is_counted (WideBlock addr count) = false

-- the first n of them
abbrev pub first_counted : ℕ → List WideRec → List WideRec
first_counted n recs = take n (filter is_counted recs)

-- why one of these can't be added to those before it: the first one that can't
abbrev pub conflict_among_first : ℕ → List WideRec → Option Unlike
conflict_among_first n recs = conflict_of empty_content (first_counted n recs)
