-- What a reader needs to take bytes, and what taking them leaves of it.
-- Only private functions and invariants speak of it.
use Rattle.std.specs.Prelude.{◌≡◌, ℕ, ◌+◌, ◌^◌, ◌<◌, ◌≤◌, List, [], ◌∷◌, ◌++◌, length, vec_len, vec_capacity}
use Rattle.gmon_gnu.specs.declared.state.Begun.{Begun}
use Rattle.gmon_gnu.specs.declared.state.Entry.{Entry}
use Rattle.gmon_gnu.specs.declared.state.HistFields.{HistFields}
use Rattle.gmon_gnu.specs.declared.state.Part.TheVariants as part
use Rattle.gmon_gnu.specs.declared.state.State.{State}
use Rattle.gmon_gnu.specs.Begun.{arcs_of, cost_of, fields_of}
use Rattle.gmon_gnu.specs.Held.{AreFew, AreWithin, Goes, HasRoom, IsHeld, pending_entries, pending_fields}

-- ---- a piece

-- A reader can take these bytes: it is at rest, and there is room for what they make whole. With them the file has
-- `total` bytes.
pub record CanTake (total : ℕ) (bytes : List ℕ) (s : State) : Type 0 where
  pub held : IsHeld s
  pub room : HasRoom (length bytes) s
  pub few : AreFew total (length bytes) s

-- Some of a piece was taken: what was taken of the file is read, and the rest of the piece can be taken.
pub record TakesSome (total : ℕ) (piece rest : List ℕ) (old new : State) : Type 0 where
  pub ready : CanTake total rest new
  pub goes : (whole : List ℕ) → length whole ≡ total → Goes whole old piece → Goes whole new rest
  pub less : length rest < length piece

-- both hold the same, whatever room there is
pub record HoldsSame (old new : State) : Type 0 where
  pub at_part : new.part ≡ old.part
  pub torn : new.torn ≡ old.torn
  pub counters : new.counters.cells.items ≡ old.counters.cells.items
  pub half : new.counters.torn ≡ old.counters.torn
  pub pairs : new.pairs.cells.items ≡ old.pairs.cells.items
  pub pair : new.pairs.torn ≡ old.pairs.torn
  pub arcs : new.arcs.items ≡ old.arcs.items
  pub fields : new.fields.items ≡ old.fields.items
  pub entries : new.entries.items ≡ old.entries.items
  pub run : new.run ≡ old.run

-- ---- the front of a record

-- nothing of a front is held, and all spans lie within what there is
pub record HoldsNoFront (s : State) : Type 0 where
  pub spans : AreWithin s
  pub run : s.run ≤ length s.arcs.items
  pub torn : s.torn ≡ []
  pub half : length s.counters.torn ≤ 2
  pub pair : length s.pairs.torn ≤ 8

-- a number of 32 bits tells each place in a list
pub record AreTold (s : State) : Type 0 where
  pub counters : vec_len s.counters.cells < 2 ^ 32
  pub pairs : vec_len s.pairs.cells < 2 ^ 32
  pub arcs : vec_len s.arcs < 2 ^ 32
  pub fields : vec_len s.fields < 2 ^ 32

-- there is room for the arc or the entry that a front makes
pub record HasPlaceFor (b : Begun) (s : State) : Type 0 where
  pub arcs : vec_len s.arcs + arcs_of b ≤ vec_capacity s.arcs
  pub fields : vec_len s.fields + fields_of b ≤ vec_capacity s.fields
  pub entries : vec_len s.entries + cost_of b ≤ vec_capacity s.entries

-- A record was begun. Its arc or its entry has a place, no counter and no pair of it has come, and the room stays.
pub record Begins (b : Begun) (old new : State) : Type 0 where
  pub torn : new.torn ≡ []
  pub counters : new.counters.cells ≡ old.counters.cells
  pub half : length new.counters.torn ≤ length old.counters.torn
  pub pairs : new.pairs.cells ≡ old.pairs.cells
  pub pair : length new.pairs.torn ≤ length old.pairs.torn
  pub arcs : vec_len new.arcs ≡ vec_len old.arcs + arcs_of b
  pub arcs_room : vec_capacity new.arcs ≡ vec_capacity old.arcs
  pub fields : vec_len new.fields + pending_fields new.part ≤ vec_len old.fields + fields_of b
  pub fields_room : vec_capacity new.fields ≡ vec_capacity old.fields
  pub entries : vec_len new.entries + pending_entries new.part ≤ vec_len old.entries + cost_of b
  pub capacity : vec_capacity new.entries ≡ vec_capacity old.entries

-- ---- counters and pairs

-- Of a histogram whose counters begin at `start`, `left` are still to come. Where none is, nothing is held in part.
pub record AwaitsCounters (start left : ℕ) (s : State) : Type 0 where
  pub within : start ≤ length s.counters.cells.items
  pub half : length s.counters.torn < 2
  pub ended : left ≡ 0 → s.counters.torn ≡ []

-- the same of counts of blocks
pub record AwaitsPairs (start left : ℕ) (s : State) : Type 0 where
  pub within : start ≤ length s.pairs.cells.items
  pub pair : length s.pairs.torn < 8
  pub ended : left ≡ 0 → s.pairs.torn ≡ []

-- a reader is in the midst of a histogram
pub record IsInHist (fields : HistFields) (start left : ℕ) (s : State) : Type 0 where
  pub at_part : s.part ≡ part.Hist fields start left
  pub torn : s.torn ≡ []
  pub some : 0 < left
  pub counters : AwaitsCounters start left s

-- and in the midst of counts of blocks
pub record IsInBlocks (start left : ℕ) (s : State) : Type 0 where
  pub at_part : s.part ≡ part.Blocks start left
  pub torn : s.torn ≡ []
  pub some : 0 < left
  pub pairs : AwaitsPairs start left s

-- ---- entries

-- the items that records are made of stay, and what there is of those that aren't whole
pub record KeepsItems (old new : State) : Type 0 where
  pub torn : new.torn ≡ old.torn
  pub counters : new.counters ≡ old.counters
  pub pairs : new.pairs ≡ old.pairs
  pub arcs : new.arcs ≡ old.arcs

-- an entry was added behind the others, in room that there was
pub record AddsEntry (e : Entry) (old new : State) : Type 0 where
  pub items : KeepsItems old new
  pub at_part : new.part ≡ old.part
  pub fields : new.fields ≡ old.fields
  pub entries : new.entries.items ≡ old.entries.items ++ e ∷ []
  pub len : vec_len new.entries ≡ vec_len old.entries + 1
  pub capacity : vec_capacity new.entries ≡ vec_capacity old.entries

-- a record ends, or goes on: it takes one entry of the room at most, and so many places for fields, now or once it ends
pub record EndsOrGoesOn (places : ℕ) (old new : State) : Type 0 where
  pub items : KeepsItems old new
  pub fields : vec_len new.fields + pending_fields new.part ≤ vec_len old.fields + places
  pub fields_room : vec_capacity new.fields ≡ vec_capacity old.fields
  pub entries : vec_len new.entries + pending_entries new.part ≤ vec_len old.entries + 1
  pub capacity : vec_capacity new.entries ≡ vec_capacity old.entries
