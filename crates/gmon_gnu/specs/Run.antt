-- The file that a run of the profiling runtime writes in the GNU form.
use Rattle.std.specs.Prelude.{◌≡◌, ℕ, ◌^◌, ◌<◌, List, [], ◌∷◌, ◌++◌, None}
use Rattle.std.specs.List.{All}
use Rattle.gp_base.specs.declared.records.Form.TheVariants.{Gnu}
use Rattle.gp_base.specs.Bytes.{le}
use Rattle.mcount_arcs.specs.declared.sizes.Sizes.{Sizes}
use Rattle.mcount_arcs.specs.Log.{LogEntry}
use Rattle.mcount_arcs.specs.Sizes.{AreSizes}
use Rattle.mcount_arcs.specs.Arcs.{CallFits, arcs_of}
use Rattle.mcount_arcs.specs.Value.{GmonValue}
use Rattle.gp_base.specs.Fields.{seconds}
use Rattle.gmon_cells.specs.RunRecords.{log_recs, run_recs, run_records}
use Rattle.gmon_gnu.specs.Fields.{gnu_version, magic, spare_bytes}
use Rattle.gmon_gnu.specs.Grammar.{gnu_spelling, GnuSpells}
use Rattle.gmon_gnu.specs.Reading.{gnu_refusal, gnu_records}

-- the file of what was logged, at a rate of samples per second
unfoldable pub gnu_run_text : Sizes → List LogEntry → ℕ → List ℕ
gnu_run_text z log rate = gnu_spelling magic spare_bytes (log_recs z log rate)

-- the file of every log of a text, at every rate of four bytes, spells what was logged
abbrev pub RunsAreSpelled : Type 0
RunsAreSpelled = (z : Sizes) (log : List LogEntry) (rate : ℕ) → AreSizes z → rate < 2 ^ 32 → All CallFits (arcs_of z log) → GnuSpells (gnu_run_text z log rate) (run_records Gnu z log rate)

-- so it is accepted, and read as the counters and the arcs of the log, in order
abbrev pub RunsAreReadBack : Type 0
RunsAreReadBack = (z : Sizes) (log : List LogEntry) (rate : ℕ) → AreSizes z → rate < 2 ^ 32 → All CallFits (arcs_of z log)
    → (gnu_refusal (gnu_run_text z log rate) ≡ None) × (gnu_records (gnu_run_text z log rate) ≡ run_records Gnu z log rate)

-- the file of what a runtime holds
unfoldable pub runtime_text : GmonValue → ℕ → List ℕ
runtime_text v rate = gnu_spelling magic spare_bytes (run_recs v.sizes.low v.sizes.high rate v.counters v.arcs)

-- the numbers of a histogram
abbrev pub hist_words : ℕ → ℕ → ℕ → ℕ → List ℕ
hist_words low high counters rate = le low 4 ++ (le high 4 ++ (le counters 4 ++ le rate 4))

-- the header with its spare bytes, and a histogram's tag
abbrev pub header_and_tag : List ℕ
header_and_tag = magic ++ (le gnu_version 4 ++ (spare_bytes ++ 0 ∷ []))

-- the usual dimension, and its abbreviation
abbrev pub dimension_bytes : List ℕ
dimension_bytes = (seconds 0).dim ++ (seconds 0).«abbrev» ∷ []

-- the header, and the histogram up to its counters
abbrev pub header_of : ℕ → ℕ → ℕ → ℕ → List ℕ
header_of low high counters rate = header_and_tag ++ (hist_words low high counters rate ++ dimension_bytes)
