-- How reading goes on behind the front of a record.
-- Only private functions and invariants speak of it.
use Rattle.std.specs.Prelude.{◌≡◌, ℕ, List, [], ◌∷◌, ◌++◌, length, Result, Err}
use Rattle.gp_base.specs.declared.records.Rec.{Rec}
use Rattle.gp_base.specs.declared.records.Rec.TheVariants.{Arc}
use Rattle.gp_base.specs.declared.refusal.GmonRefusal.{GmonRefusal}
use Rattle.gmon_gnu.specs.declared.state.Begun.{Begun}
use Rattle.gmon_gnu.specs.declared.state.Begun.TheVariants as begun
use Rattle.gmon_gnu.specs.Reading.{behind_records}
use Rattle.gmon_gnu.specs.Going.{records_on, header_on, hist_on, blocks_on}
use Rattle.gmon_gnu.specs.Held.{hist_with}

abbrev pub begun_on : ℕ → Begun → List ℕ → Result (List Rec) GmonRefusal
begun_on len (begun.Hist f count) rest = hist_on len (hist_with f []) count rest
begun_on len (begun.Arc arc) rest = behind_records (Arc arc ∷ []) (records_on len rest)
begun_on len (begun.Blocks count) rest = blocks_on len [] count rest
begun_on len (begun.Refused refusal) rest = Err refusal

-- what it takes of the room for entries, for fields of histograms, and for arcs
abbrev pub cost_of : Begun → ℕ
cost_of (begun.Hist f count) = 1
cost_of (begun.Arc arc) = 0
cost_of (begun.Blocks count) = 1
cost_of (begun.Refused refusal) = 0

abbrev pub fields_of : Begun → ℕ
fields_of (begun.Hist f count) = 1
fields_of (begun.Arc arc) = 0
fields_of (begun.Blocks count) = 0
fields_of (begun.Refused refusal) = 0

abbrev pub arcs_of : Begun → ℕ
arcs_of (begun.Hist f count) = 0
arcs_of (begun.Arc arc) = 1
arcs_of (begun.Blocks count) = 0
arcs_of (begun.Refused refusal) = 0

-- However the file goes on: what is read of it is the records so far, and what is read on behind that front.
abbrev pub Follows : List ℕ → List Rec → Begun → List ℕ → Type 0
Follows whole recs b rest = (more : List ℕ) → header_on (length (whole ++ more)) (whole ++ more) ≡ behind_records recs (begun_on (length (whole ++ more)) b (rest ++ more))
