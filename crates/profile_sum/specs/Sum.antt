-- The sum of two profiles, and why they have none.
use Rattle.std.specs.Prelude.{◌≡◌, ℕ, nat_eq, List, [], map, fold, filter_map, slice_get, option_and_then, Option, Some, None}
use Rattle.std.specs.Option.{option_or}
use Rattle.gp_base.specs.declared.records.Unit as units
use Rattle.gmon_data.specs.declared.hist.Hist.{Hist}
use Rattle.gmon_data.specs.declared.refusal.Unlike.{Unlike}
use Rattle.gmon_data.specs.declared.refusal.AddRefusal.{AddRefusal}
use Rattle.gmon_data.specs.declared.refusal.AddRefusal.TheVariants as adding
use Rattle.gmon_data.specs.Hists.{put_hist}
use Rattle.gmon_data.specs.Tally.{tally}
use Rattle.gmon_data.specs.Content.{Content, WideRec, WideHist, WideArc, WideBlock, same_ends, hist_conflict}
use Rattle.profile_sum.specs.declared.refusal.SumRefusal.{SumRefusal}
use Rattle.profile_sum.specs.declared.refusal.SumRefusal.TheVariants as answers

-- histograms of one range, calls of one pair and executions at one address are added up; what is new
-- takes its place among the histograms, and follows the old pairs and addresses
abbrev pub sum_of : Content → Content → Content
sum_of p q = record {
  hists = fold (λ done h. put_hist h done) p.hists q.hists;
  arcs = fold (λ done e. tally same_ends e.0 e.1 done) p.arcs q.arcs;
  blocks = fold (λ done e. tally nat_eq e.0 e.1 done) p.blocks q.blocks;
  «unit» = option_or p.«unit» q.«unit»;
}

-- of q's histograms, in ascending order, the first that can't be added to p alone: why it can't
abbrev pub clash_of : Content → Content → Option Unlike
clash_of p q = slice_get (filter_map (λ h. option_and_then (hist_conflict p h) q.«unit») q.hists) 0

-- a refusal is the clash that is given; memory runs out only where none is
abbrev pub IsClash : SumRefusal → Option Unlike → Type 0
IsClash answers.OutOfMemory given = given ≡ None
IsClash (answers.Unlike unlike) given = given ≡ Some unlike

-- a refusal to add a histogram, as one to add a profile
abbrev pub sum_refusal : AddRefusal → SumRefusal
sum_refusal adding.OutOfMemory = answers.OutOfMemory
sum_refusal (adding.Unlike unlike) = answers.Unlike unlike

-- ---- a profile as records

abbrev pub hist_record : units.Unit → Hist → WideRec
hist_record u h = WideHist h u

abbrev pub arc_record : (ℕ × ℕ) × ℕ → WideRec
arc_record e = WideArc e.0.0 e.0.1 e.1

abbrev pub block_record : ℕ × ℕ → WideRec
block_record e = WideBlock e.0 e.1

-- without a unit there is no histogram
abbrev pub records_of_unit : Option units.Unit → List Hist → List WideRec
records_of_unit None hs = []
records_of_unit (Some u) hs = map (hist_record u) hs

abbrev pub hist_records : Content → List WideRec
hist_records q = records_of_unit q.«unit» q.hists
