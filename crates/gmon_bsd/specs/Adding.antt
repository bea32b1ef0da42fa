-- What a reader makes a profile of.
use Rattle.std.specs.Prelude.{ℕ, List, ◌∷◌, map}
use Rattle.gp_base.specs.declared.records.RawArc.{RawArc}
use Rattle.gp_base.specs.Fields.{seconds}
use Rattle.gmon_data.specs.Content.{WideRec, WideHist, hist_over, wide_arc}
use Rattle.gmon_data.specs.FileRecords.{spelled_in, FitsForSome}
use Rattle.gmon_bsd.specs.Fed.{Kept, StandsFor}
use Rattle.gmon_bsd.specs.Reading.{bsd_refusal, bsd_records}

-- what a file spells, as records of a profile
abbrev pub spelled_records : List ℕ → List WideRec
spelled_records = spelled_in bsd_records

-- a histogram in seconds, and arcs
abbrev pub hist_and_arcs : ℕ → ℕ → ℕ → List ℕ → List RawArc → List WideRec
hist_and_arcs low high rate counters arcs = WideHist (hist_over low high counters) (seconds rate) ∷ map wide_arc arcs

-- The reader stands for bytes that are refused, or spell records whose profile stays within its limits.
abbrev pub FitsProfile : Kept → Type 0
FitsProfile kept = FitsForSome (λ bytes. StandsFor bytes kept) bsd_refusal spelled_records
