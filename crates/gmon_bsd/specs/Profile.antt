-- The profile that the file of a run gives.
use Rattle.std.specs.Prelude.{◌≡◌, ℕ, ◌*◌, ◌^◌, ◌≤◌, List, ◌∷◌, length, map}
use Rattle.std.specs.List.{sum_by}
use Rattle.gmon_data.specs.declared.hist.Hist as hists
use Rattle.gmon_data.specs.Content.{Content, WideRec, WideHist, content_of, wide_arc, wide_records}
use Rattle.gmon_data.specs.Hists.{samples_of}
use Rattle.gmon_data.specs.Tally.{tally_total}
use Rattle.mcount_arcs.specs.declared.sizes.Sizes.{Sizes}
use Rattle.mcount_arcs.specs.Log.{LogEntry}
use Rattle.mcount_arcs.specs.Value.{GmonValue}
use Rattle.gp_base.specs.Fields.{seconds}
use Rattle.gmon_bsd.specs.Reading.{bsd_records}
use Rattle.gmon_bsd.specs.Run.{bsd_run_text}

-- what reading the file of what was logged gives, with its records added up
abbrev pub run_profile : Sizes → List LogEntry → ℕ → Content
run_profile z log rate = content_of (wide_records (bsd_records (bsd_run_text z log rate)).recs)

abbrev pub runtime_hist : GmonValue → hists.Hist
runtime_hist v = record { low = v.sizes.low; high = v.sizes.high; counters = v.counters }

-- what a runtime holds, as records
abbrev pub runtime_records : GmonValue → ℕ → List WideRec
runtime_records v rate = WideHist (runtime_hist v) (seconds rate) ∷ map wide_arc v.arcs

-- the profile of the counters and of at most n arcs of a runtime
pub record IsOfRun (n : ℕ) (c : Content) : Type 0 where
  pub samples : samples_of c.hists ≤ 2 ^ 40
  pub counters : sum_by (λ h. length h.counters) c.hists ≤ 2 ^ 23
  pub calls : tally_total c.arcs ≤ n * 2 ^ 32
  pub pairs : length c.arcs ≤ n
  pub runs : tally_total c.blocks ≡ 0
  pub addresses : length c.blocks ≡ 0
