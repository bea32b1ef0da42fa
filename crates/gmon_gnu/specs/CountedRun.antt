-- The file of a run whose executed instructions were counted: that of the run, and a record of the counts behind it.
use Rattle.std.specs.Prelude.{◌≡◌, ℕ, ◌+◌, ◌*◌, ◌^◌, ◌<◌, List, [], ◌∷◌, ◌++◌, length, slice_index, None}
use Rattle.std.specs.List.{All}
use Rattle.gp_base.specs.declared.records.RawBlock.{RawBlock}
use Rattle.gp_base.specs.declared.records.Rec.{Rec}
use Rattle.gp_base.specs.declared.records.Rec.TheVariants.{Blocks}
use Rattle.gp_base.specs.declared.records.Records.{Records}
use Rattle.gp_base.specs.declared.records.Form.TheVariants.{Gnu}
use Rattle.mcount_arcs.specs.declared.sizes.Sizes.{Sizes}
use Rattle.mcount_arcs.specs.Log.{LogEntry}
use Rattle.mcount_arcs.specs.Sizes.{AreSizes}
use Rattle.mcount_arcs.specs.Arcs.{CallFits, arcs_of}
use Rattle.gmon_cells.specs.RunRecords.{log_recs}
use Rattle.gmon_gnu.specs.Blocks.{block_record, executed_blocks}
use Rattle.gmon_gnu.specs.Grammar.{GnuSpells}
use Rattle.gmon_gnu.specs.Reading.{gnu_refusal, gnu_records}
use Rattle.gmon_gnu.specs.Run.{gnu_run_text}

-- one record of them, or none where nothing was executed
abbrev pub block_recs : List RawBlock → List Rec
block_recs [] = []
block_recs (b ∷ bs) = Blocks (b ∷ bs) ∷ []

abbrev pub counted_text : Sizes → List LogEntry → ℕ → ℕ → List ℕ → List ℕ
counted_text z log rate low counts = gnu_run_text z log rate ++ block_record low counts

-- what that file says: the run's records, and behind them each instruction that was executed with its count
abbrev pub counted_records : Sizes → List LogEntry → ℕ → ℕ → List ℕ → Records
counted_records z log rate low counts = record { form = Gnu; recs = log_recs z log rate ++ block_recs (executed_blocks low counts) }

-- the counts have four bytes each, and so have the addresses of their instructions
pub record CountsFit (low : ℕ) (counts : List ℕ) : Type 0 where
  pub four_bytes : (i : ℕ) → slice_index counts i < 2 ^ 32
  pub addresses : (i : ℕ) → i < length counts → low + 4 * i < 2 ^ 32

-- the file spells both
abbrev pub CountedRunsAreSpelled : Type 0
CountedRunsAreSpelled = (z : Sizes) (log : List LogEntry) (rate low : ℕ) (counts : List ℕ) → AreSizes z → rate < 2 ^ 32 → All CallFits (arcs_of z log) → CountsFit low counts
    → GnuSpells (counted_text z log rate low counts) (counted_records z log rate low counts)

-- so it is accepted, and read as both
abbrev pub CountedRunsAreReadBack : Type 0
CountedRunsAreReadBack = (z : Sizes) (log : List LogEntry) (rate low : ℕ) (counts : List ℕ) → AreSizes z → rate < 2 ^ 32 → All CallFits (arcs_of z log) → CountsFit low counts
    → (gnu_refusal (counted_text z log rate low counts) ≡ None) × (gnu_records (counted_text z log rate low counts) ≡ counted_records z log rate low counts)
