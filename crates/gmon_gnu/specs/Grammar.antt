-- Which bytes spell which records in the GNU form. It knows nothing of reading.
use Rattle.std.specs.Prelude.{◌≡◌, ℕ, ◌^◌, ◌<◌, List, [], ◌∷◌, ◌++◌, length}
use Rattle.std.specs.List.{flat_map, AllByRecursion}
use Rattle.gp_base.specs.declared.records.RawArc.{RawArc}
use Rattle.gp_base.specs.declared.records.RawBlock.{RawBlock}
use Rattle.gp_base.specs.declared.records.RawHist.{RawHist}
use Rattle.gp_base.specs.declared.records.Rec.{Rec}
use Rattle.gp_base.specs.declared.records.Rec.TheVariants.{Hist, Arc, Blocks}
use Rattle.gp_base.specs.declared.records.Records.{Records}
use Rattle.gp_base.specs.declared.records.Form.TheVariants.{Gnu}
use Rattle.gp_base.specs.Bytes.{le}
use Rattle.gp_base.specs.Fields.{block_bytes, counter_bytes, ArcFits, BlockFits, CounterFits}
use Rattle.gmon_cells.specs.FileText.{tagged_by}
use Rattle.gmon_gnu.specs.Fields.{gnu_version}

-- a histogram, behind its tag 0: its fields, and its counters
abbrev pub hist_bytes : RawHist → List ℕ
hist_bytes h =
    0 ∷ (le h.low 4 ++ (le h.high 4 ++ (le (length h.counters) 4 ++ (le h.unit.rate 4 ++ (h.unit.dim ++ (h.unit.«abbrev» ∷ flat_map counter_bytes h.counters))))))

-- an arc, behind its tag 1
abbrev pub tagged_arc : RawArc → List ℕ
tagged_arc = tagged_by (1 ∷ [])

-- counts of basic blocks, behind their tag 2 and their number
abbrev pub blocks_bytes : List RawBlock → List ℕ
blocks_bytes blocks = 2 ∷ (le (length blocks) 4 ++ flat_map block_bytes blocks)

abbrev pub rec_bytes : Rec → List ℕ
rec_bytes (Hist h) = hist_bytes h
rec_bytes (Arc arc) = tagged_arc arc
rec_bytes (Blocks blocks) = blocks_bytes blocks

-- the header, which is four bytes, the version and twelve spare bytes; and the records, one after the other
abbrev pub gnu_spelling : List ℕ → List ℕ → List Rec → List ℕ
gnu_spelling first spare recs = first ++ (le gnu_version 4 ++ (spare ++ flat_map rec_bytes recs))

-- each number has the bytes of its field, and counters share a range that isn't empty
pub record HistFits (h : RawHist) : Type 0 where
  pub low : h.low < 2 ^ 32
  pub high : h.high < 2 ^ 32
  pub number : length h.counters < 2 ^ 32
  pub rate : h.unit.rate < 2 ^ 32
  pub dim : length h.unit.dim ≡ 15
  pub counters : AllByRecursion CounterFits h.counters
  pub range : 0 < length h.counters → h.low < h.high

pub record BlocksFit (blocks : List RawBlock) : Type 0 where
  pub number : length blocks < 2 ^ 32
  pub each : AllByRecursion BlockFits blocks

abbrev pub RecFits : Rec → Type 0
RecFits (Hist h) = HistFits h
RecFits (Arc arc) = ArcFits arc
RecFits (Blocks blocks) = BlocksFit blocks

-- the bytes spell the records
pub record GnuSpells (bytes : List ℕ) (r : Records) : Type 0 where
  -- the first four bytes, which may be anything
  pub first : List ℕ
  -- the spare bytes, which may be anything
  pub spare : List ℕ
  pub form : r.form ≡ Gnu
  pub text : bytes ≡ gnu_spelling first spare r.recs
  pub first_fits : length first ≡ 4
  pub spare_fits : length spare ≡ 12
  pub recs_fit : AllByRecursion RecFits r.recs
