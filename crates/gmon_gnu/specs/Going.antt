-- How reading goes on from where a reader has come.
use Rattle.std.specs.Prelude.{◌≡◌, ℕ, ◌*◌, ◌==◌, nat_lt, not, List, [], ◌∷◌, ◌++◌, drop, length, Result, Err, if◌then◌else◌}
use Rattle.gp_base.specs.declared.records.RawBlock.{RawBlock}
use Rattle.gp_base.specs.declared.records.RawHist.{RawHist}
use Rattle.gp_base.specs.declared.records.Rec.{Rec}
use Rattle.gp_base.specs.declared.records.Rec.TheVariants.{Hist, Blocks}
use Rattle.gp_base.specs.declared.refusal.GmonRefusal.{GmonRefusal}
use Rattle.gp_base.specs.declared.refusal.GmonRefusal.TheVariants.{Short, Version}
use Rattle.gp_base.specs.Bytes.{value_of, word_at, items_of_text}
use Rattle.gp_base.specs.Fields.{block_of}
use Rattle.gmon_gnu.specs.Fields.{gnu_version}
use Rattle.gmon_gnu.specs.Reading.{behind_records, recs_from}

-- what a reader is in the midst of
pub data Open : Type 0 where
  -- the header
  InHeader : Open
  -- no record
  Between : Open
  -- a histogram with the counters so far, and how many are still to come
  InHist : RawHist → ℕ → Open
  -- block counts so far, and how many are still to come
  InBlocks : List RawBlock → ℕ → Open
  -- nothing more: this was refused
  Stopped : GmonRefusal → Open

-- what is read of the last bytes of a file of `len` bytes: records to its end
abbrev pub records_on : ℕ → List ℕ → Result (List Rec) GmonRefusal
records_on len rest = recs_from len (length rest) rest

abbrev pub header_on : ℕ → List ℕ → Result (List Rec) GmonRefusal
header_on len rest =
    if nat_lt (length rest) 20 then Err (Short len) else (
    if not (word_at rest 4 == gnu_version) then Err (Version (word_at rest 4)) else
    records_on len (drop 20 rest))

-- a histogram goes on with its counters, and then records
abbrev pub hist_on : ℕ → RawHist → ℕ → List ℕ → Result (List Rec) GmonRefusal
hist_on len h left rest =
    if nat_lt (length rest) (left * 2) then Err (Short len) else
    behind_records (Hist (record h { counters = h.counters ++ items_of_text 2 value_of left rest }) ∷ []) (records_on len (drop (left * 2) rest))

-- block counts go on, and then records
abbrev pub blocks_on : ℕ → List RawBlock → ℕ → List ℕ → Result (List Rec) GmonRefusal
blocks_on len blocks left rest =
    if nat_lt (length rest) (left * 8) then Err (Short len) else
    behind_records (Blocks (blocks ++ items_of_text 8 block_of left rest) ∷ []) (records_on len (drop (left * 8) rest))

abbrev pub resume : ℕ → Open → List ℕ → Result (List Rec) GmonRefusal
resume len InHeader rest = header_on len rest
resume len Between rest = records_on len rest
resume len (InHist h left) rest = hist_on len h left rest
resume len (InBlocks blocks left) rest = blocks_on len blocks left rest
resume len (Stopped refusal) rest = Err refusal

-- However a file that begins with these bytes goes on: what is read of it is the records so far, and what is read
-- of the rest of the bytes and of what follows them.
abbrev pub Reads : List ℕ → List Rec → Open → List ℕ → Type 0
Reads whole recs open_now rest =
    (more : List ℕ) → header_on (length (whole ++ more)) (whole ++ more) ≡ behind_records recs (resume (length (whole ++ more)) open_now (rest ++ more))
