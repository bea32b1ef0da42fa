-- The records of a run, which the file of each form says.
use Rattle.std.specs.Prelude.{ℕ, List, ◌∷◌, map}
use Rattle.gp_base.specs.declared.records.Form.{Form}
use Rattle.gp_base.specs.declared.records.RawArc.{RawArc}
use Rattle.gp_base.specs.declared.records.Rec.{Rec}
use Rattle.gp_base.specs.declared.records.Rec.TheVariants.{Hist, Arc}
use Rattle.gp_base.specs.declared.records.Records.{Records}
use Rattle.gp_base.specs.Fields.{seconds}
use Rattle.mcount_arcs.specs.declared.sizes.Sizes.{Sizes}
use Rattle.mcount_arcs.specs.Arcs.{arcs_of}
use Rattle.mcount_arcs.specs.Log.{LogEntry}
use Rattle.mcount_arcs.specs.Samples.{buckets_of}

-- one histogram, in seconds, and a record for each arc
abbrev pub run_recs : ℕ → ℕ → ℕ → List ℕ → List RawArc → List Rec
run_recs low high rate counters arcs = Hist (record { low = low; high = high; unit = seconds rate; counters = counters }) ∷ map Arc arcs

-- of what was logged: its counters, and an arc for each pair of call site and callee
abbrev pub log_recs : Sizes → List LogEntry → ℕ → List Rec
log_recs z log rate = run_recs z.low z.high rate (buckets_of z log) (arcs_of z log)

-- what the file of a log says in a form
abbrev pub run_records : Form → Sizes → List LogEntry → ℕ → Records
run_records form z log rate = record { form = form; recs = log_recs z log rate }
