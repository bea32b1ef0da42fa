-- How a reader holds what it has read.
use Rattle.std.specs.Prelude.{◌≡◌, ℕ, zero, suc, ◌+◌, ◌-◌, ◌/◌, ◌^◌, ◌<◌, ◌≤◌, List, [], ◌∷◌, ◌++◌, map, take, drop, get_or, length, vec_len, vec_capacity, ⊤}
use Rattle.std.specs.List.{AllByRecursion, flat_map}
use Rattle.gp_base.specs.declared.records.RawArc.{RawArc}
use Rattle.gp_base.specs.declared.records.RawBlock.{RawBlock}
use Rattle.gp_base.specs.declared.records.RawHist.{RawHist}
use Rattle.gp_base.specs.declared.records.Rec.{Rec}
use Rattle.gp_base.specs.declared.records.Rec.TheVariants.{Hist, Arc, Blocks}
use Rattle.gp_base.specs.Spans.{HasRange}
use Rattle.gmon_data.specs.declared.refusal.AddRefusal.{AddRefusal}
use Rattle.gmon_data.specs.Hists.{IsUnlike}
use Rattle.gmon_data.specs.Content.{Content, WideRec, conflict_of, empty_content, wide_records, with_records, IsAdded, IsWithin as IsWithinLimits}
use Rattle.gmon_gnu.specs.declared.state.HistFields.{HistFields}
use Rattle.gmon_gnu.specs.declared.state.Entry.{Entry}
use Rattle.gmon_gnu.specs.declared.state.Body.{Body}
use Rattle.gmon_gnu.specs.declared.state.Body.TheVariants as body
use Rattle.gmon_gnu.specs.declared.state.Part.{Part}
use Rattle.gmon_gnu.specs.declared.state.Part.TheVariants as part
use Rattle.gmon_gnu.specs.declared.state.State.{State}
use Rattle.gmon_gnu.specs.Going.{Open, InHeader, Between, InHist, InBlocks, Stopped, Reads}

abbrev pub hist_with : HistFields → List ℕ → RawHist
hist_with f counters = record { low = f.low; high = f.high; unit = f.unit; counters = counters }

-- what stands where a list of fields has none
abbrev pub no_fields : HistFields
no_fields = record { low = 0; high = 0; unit = record { rate = 0; dim = []; «abbrev» = 0 } }

-- a record by the number of its fields and by its span of the counters, or by its span of the pairs
abbrev pub rec_of : List HistFields → List ℕ → List RawBlock → Body → Rec
rec_of fields counters pairs (body.Hist f start end) = Hist (hist_with (get_or fields f no_fields) (take (end - start) (drop start counters)))
rec_of fields counters pairs (body.Blocks start end) = Blocks (take (end - start) (drop start pairs))

-- as a reader holds it
abbrev pub held_rec : State → Body → Rec
held_rec s b = rec_of s.fields.items s.counters.cells.items s.pairs.cells.items b

-- the arcs from the first one of an entry to below its last one
abbrev pub arcs_before : List RawArc → Entry → List RawArc
arcs_before arcs e = take (e.last - e.first) (drop e.first arcs)

-- what stands where a list of entries has none
abbrev pub no_entry : Entry
no_entry = record { first = 0; last = 0; body = body.Hist 0 0 0 }

-- arcs, and the record behind them
abbrev pub entry_recs : List HistFields → List ℕ → List RawBlock → List RawArc → Entry → List Rec
entry_recs fields counters pairs arcs e = map Arc (arcs_before arcs e) ++ rec_of fields counters pairs e.body ∷ []

abbrev pub held_recs : State → Entry → List Rec
held_recs s = entry_recs s.fields.items s.counters.cells.items s.pairs.cells.items s.arcs.items

-- the records of entries, and behind them the arcs from a number on
abbrev pub recs_in : List HistFields → List ℕ → List RawBlock → List RawArc → List Entry → ℕ → List Rec
recs_in fields counters pairs arcs entries run = flat_map (entry_recs fields counters pairs arcs) entries ++ map Arc (drop run arcs)

abbrev pub recs_of : State → List Rec
recs_of s = recs_in s.fields.items s.counters.cells.items s.pairs.cells.items s.arcs.items s.entries.items s.run

-- the records of entries, as records of a profile
abbrev pub entries_recs : List HistFields → List ℕ → List RawBlock → List RawArc → List Entry → List WideRec
entries_recs fields counters pairs arcs entries = wide_records (flat_map (entry_recs fields counters pairs arcs) entries)

-- each histogram's counters, if there are any, share a range that isn't empty
abbrev pub HaveRanges : State → Type 0
HaveRanges s = AllByRecursion (λ e. HasRange (held_rec s e.body)) s.entries.items

-- fields and a span lie within what there is
abbrev pub IsBodyWithin : ℕ → ℕ → ℕ → Body → Type 0
IsBodyWithin fields counters pairs (body.Hist f start end) = (start ≤ end) × (end ≤ counters) × (f < fields)
IsBodyWithin fields counters pairs (body.Blocks start end) = (start ≤ end) × (end ≤ pairs)

abbrev pub IsWithin : ℕ → ℕ → ℕ → ℕ → Entry → Type 0
IsWithin fields counters pairs arcs e = (e.first ≤ e.last) × (e.last ≤ arcs) × IsBodyWithin fields counters pairs e.body

-- within what a reader holds
abbrev pub IsBodyHeld : State → Body → Type 0
IsBodyHeld s = IsBodyWithin (length s.fields.items) (length s.counters.cells.items) (length s.pairs.cells.items)

abbrev pub IsEntryHeld : State → Entry → Type 0
IsEntryHeld s = IsWithin (length s.fields.items) (length s.counters.cells.items) (length s.pairs.cells.items) (length s.arcs.items)

-- all entries are
abbrev pub AreWithin : State → Type 0
AreWithin s = AllByRecursion (IsEntryHeld s) s.entries.items

-- what was read can be added to a profile
pub record CanBeAdded (s : State) (old : Content) : Type 0 where
  pub held : AreWithin s
  pub run : s.run ≤ length s.arcs.items
  pub ranges : HaveRanges s
  pub few : length s.entries.items < 2 ^ 32
  pub within : IsWithinLimits (with_records (wide_records (recs_of s)) old)

-- a profile has them and nothing else
abbrev pub IsProfileOf : State → Content → Type 0
IsProfileOf s profile = IsAdded (wide_records (recs_of s)) empty_content profile

-- it tells the first conflict among them, or want of memory
abbrev pub IsConflictOf : State → AddRefusal → Type 0
IsConflictOf s refusal = IsUnlike refusal (conflict_of empty_content (wide_records (recs_of s)))

abbrev pub open_of : Part → List ℕ → List RawBlock → Open
open_of part.Header counters pairs = InHeader
open_of part.Between counters pairs = Between
open_of (part.Hist f start left) counters pairs = InHist (hist_with f (drop start counters)) left
open_of (part.Blocks start left) counters pairs = InBlocks (drop start pairs) left
open_of (part.Refused refusal) counters pairs = Stopped refusal

-- what has come of an item that isn't whole
abbrev pub rest_of : Part → List ℕ → List ℕ → List ℕ → List ℕ
rest_of part.Header torn half pair = torn
rest_of part.Between torn half pair = torn
rest_of (part.Hist f start left) torn half pair = half
rest_of (part.Blocks start left) torn half pair = pair
rest_of (part.Refused refusal) torn half pair = []

-- how many bytes a record takes up to its counters or pairs, by its tag; of one that is none only the tag is read
abbrev pub width_of : ℕ → ℕ
width_of zero = 33
width_of (suc zero) = 13
width_of (suc (suc zero)) = 5
width_of (suc (suc (suc tag))) = 1

-- less than that
abbrev pub IsPartial : List ℕ → Type 0
IsPartial [] = ⊤
IsPartial (tag ∷ body) = suc (length body) < width_of tag

-- just that
abbrev pub IsFront : List ℕ → Type 0
IsFront [] = ⊥
IsFront (tag ∷ body) = suc (length body) ≡ width_of tag

-- What was taken of the file is read, and the bytes that follow it are `rest`.
abbrev pub Goes : List ℕ → State → List ℕ → Type 0
Goes whole s rest = Reads whole (recs_of s) (open_of s.part s.counters.cells.items s.pairs.cells.items) (rest_of s.part s.torn s.counters.torn s.pairs.torn ++ rest)

-- at rest each item that was begun isn't whole
abbrev pub IsPart : Part → ℕ → ℕ → List ℕ → List ℕ → List ℕ → Type 0
IsPart part.Header counters pairs torn half pair = length torn < 20
IsPart part.Between counters pairs torn half pair = IsPartial torn
IsPart (part.Hist f start left) counters pairs torn half pair = (torn ≡ []) × (start ≤ counters) × (0 < left) × (length half < 2)
IsPart (part.Blocks start left) counters pairs torn half pair = (torn ≡ []) × (start ≤ pairs) × (0 < left) × (length pair < 8)
IsPart (part.Refused refusal) counters pairs torn half pair = ⊤

pub record IsHeld (s : State) : Type 0 where
  pub spans : AreWithin s
  pub run : s.run ≤ length s.arcs.items
  pub torn : length s.torn ≤ 33
  pub half : length s.counters.torn ≤ 2
  pub pair : length s.pairs.torn ≤ 8
  pub at_part : IsPart s.part (length s.counters.cells.items) (length s.pairs.cells.items) s.torn s.counters.torn s.pairs.torn

-- a record that was begun has no place among the entries yet
abbrev pub pending_entries : Part → ℕ
pending_entries part.Header = 0
pending_entries part.Between = 0
pending_entries (part.Hist f start left) = 1
pending_entries (part.Blocks start left) = 1
pending_entries (part.Refused refusal) = 0

-- nor have the fields of a histogram a place among those of the others
abbrev pub pending_fields : Part → ℕ
pending_fields part.Header = 0
pending_fields part.Between = 0
pending_fields (part.Hist f start left) = 1
pending_fields (part.Blocks start left) = 0
pending_fields (part.Refused refusal) = 0

-- With n bytes more the file has `total`. Each item took one of them at least, and so did what has come of one that
-- isn't whole: so a number of 32 bits tells each place in a list.
pub record AreFew (total n : ℕ) (s : State) : Type 0 where
  pub counters : vec_len s.counters.cells + length s.counters.torn + n ≤ total
  pub pairs : vec_len s.pairs.cells + length s.pairs.torn + n ≤ total
  pub arcs : vec_len s.arcs + length s.torn + n ≤ total
  pub fields : vec_len s.fields + pending_fields s.part + length s.torn + n ≤ total
  pub entries : vec_len s.entries + pending_entries s.part + length s.torn + n ≤ total

-- there is room for what n bytes more can make whole
pub record HasRoom (n : ℕ) (s : State) : Type 0 where
  pub counters : vec_len s.counters.cells + (length s.counters.torn + n) / 2 ≤ vec_capacity s.counters.cells
  pub pairs : vec_len s.pairs.cells + (length s.pairs.torn + n) / 8 ≤ vec_capacity s.pairs.cells
  pub arcs : vec_len s.arcs + (length s.torn + n) / 13 ≤ vec_capacity s.arcs
  pub fields : vec_len s.fields + (pending_fields s.part + (length s.torn + n) / 33) ≤ vec_capacity s.fields
  pub entries : vec_len s.entries + (pending_entries s.part + (length s.torn + n) / 5) ≤ vec_capacity s.entries
