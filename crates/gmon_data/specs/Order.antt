-- The histograms of records, and the others.
-- Only private functions use these definitions.
use Rattle.std.specs.Prelude.{Bool, true, false, List, filter_map, Option, Some, None}
use Rattle.std.specs.List.{filter}
use Rattle.gp_base.specs.declared.records.Unit as units
use Rattle.gmon_data.specs.declared.hist.Hist.{Hist}
use Rattle.gmon_data.specs.Content.{WideRec, WideHist, WideArc, WideBlock}

abbrev pub hist_pair : WideRec → Option (Hist × units.Unit)
hist_pair (WideHist h u) = Some (h, u)
hist_pair (WideArc from to count) = None
hist_pair (WideBlock addr count) = None

abbrev pub hist_record : Hist × units.Unit → WideRec
hist_record p = WideHist p.0 p.1

abbrev pub is_other : WideRec → Bool
is_other (WideHist h u) = false
is_other (WideArc from to count) = true
is_other (WideBlock addr count) = true

-- the histograms of records, in their order
abbrev pub hists_in : List WideRec → List (Hist × units.Unit)
hists_in recs = filter_map hist_pair recs

-- the other records, in their order
abbrev pub others_in : List WideRec → List WideRec
others_in recs = filter is_other recs
