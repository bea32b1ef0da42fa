-- Which fault a file of the GNU form has, by the grammar. Only the law at the end speaks of reading.
use Rattle.std.specs.Prelude.{◌≡◌, ◌≢◌, ◌↔◌, ℕ, ◌+◌, ◌*◌, ◌<◌, ◌≤◌, List, ◌∷◌, ◌++◌, length, Some}
use Rattle.std.specs.List.{AllByRecursion}
use Rattle.gp_base.specs.declared.records.Rec.{Rec}
use Rattle.gp_base.specs.declared.refusal.GmonRefusal.{GmonRefusal}
use Rattle.gp_base.specs.declared.refusal.GmonRefusal.TheVariants.{Short, Version, Tag, Range}
use Rattle.gp_base.specs.Bytes.{word_at, IsBytes}
use Rattle.gmon_gnu.specs.Fields.{gnu_version}
use Rattle.gmon_gnu.specs.Grammar.{gnu_spelling, RecFits}
use Rattle.gmon_gnu.specs.Reading.{gnu_refusal}

-- Behind a header and records without a fault, a record's tag stands at `at`, and the body is all that follows the tag
-- in the file.
pub record RecordAt (bytes : List ℕ) (at tag : ℕ) (body : List ℕ) : Type 0 where
  -- the first four bytes, the spare bytes and the records before it, as in a spelling
  pub first : List ℕ
  pub spare : List ℕ
  pub recs : List Rec
  pub text : bytes ≡ gnu_spelling first spare recs ++ tag ∷ body
  pub place : at ≡ length (gnu_spelling first spare recs)
  pub first_fits : length first ≡ 4
  pub spare_fits : length spare ≡ 12
  pub recs_fit : AllByRecursion RecFits recs

-- among the fields of a histogram, which take 32 bytes: its low and its high address, and how many counters follow
abbrev pub low_in : List ℕ → ℕ
low_in body = word_at body 0

abbrev pub high_in : List ℕ → ℕ
high_in body = word_at body 4

abbrev pub counters_in : List ℕ → ℕ
counters_in body = word_at body 8

-- how many pairs of an address and a count follow that number, which takes 4 bytes
abbrev pub pairs_in : List ℕ → ℕ
pairs_in body = word_at body 0

-- a histogram has counters, and its low address isn't below its high one
pub record HasEmptyRange (body : List ℕ) : Type 0 where
  pub fields : 32 ≤ length body
  pub counters : 0 < counters_in body
  pub range : high_in body ≤ low_in body

-- the file ends within the record of this tag
pub data IsTorn : ℕ → List ℕ → Type 0 where
  -- within the fields of a histogram
  TornFields : (body : List ℕ) → length body < 32 → IsTorn 0 body
  -- within its counters, of two bytes each, whose range isn't empty
  TornCounters : (body : List ℕ) → (0 < counters_in body → low_in body < high_in body) → length body < 32 + 2 * counters_in body → IsTorn 0 body
  -- within an arc
  TornArc : (body : List ℕ) → length body < 12 → IsTorn 1 body
  -- within the number of pairs
  TornNumber : (body : List ℕ) → length body < 4 → IsTorn 2 body
  -- within the pairs, of eight bytes each
  TornPairs : (body : List ℕ) → length body < 4 + 8 * pairs_in body → IsTorn 2 body

-- the first fault of a file, as the refusal that names it
pub data HasFault (bytes : List ℕ) : GmonRefusal → Type 0 where
  -- the header isn't all there
  TornHeader : length bytes < 20 → HasFault bytes (Short (length bytes))
  -- it has another version
  OtherVersion : 20 ≤ length bytes → word_at bytes 4 ≢ gnu_version → HasFault bytes (Version (word_at bytes 4))
  -- a record has none of the three tags
  OtherTag : (at tag : ℕ) (body : List ℕ) → RecordAt bytes at tag body → 2 < tag → HasFault bytes (Tag at tag)
  -- the range of a histogram with counters is empty
  EmptyRange : (at : ℕ) (body : List ℕ) → RecordAt bytes at 0 body → HasEmptyRange body → HasFault bytes (Range at (low_in body) (high_in body))
  -- a record isn't all there
  TornRecord : (at tag : ℕ) (body : List ℕ) → RecordAt bytes at tag body → IsTorn tag body → HasFault bytes (Short (length bytes))

-- a file is refused exactly where it has a fault, and with that one
abbrev pub FaultsAreAnswered : Type 0
FaultsAreAnswered = (bytes : List ℕ) → IsBytes bytes → (refusal : GmonRefusal) → (gnu_refusal bytes ≡ Some refusal) ↔ HasFault bytes refusal
