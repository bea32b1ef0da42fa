-- What a list of records adds up to.
use Rattle.std.specs.Prelude.{◌≡◌, ℕ, ◌^◌, ◌<◌, Bool, true, false, ◌&&◌, nat_eq, List, [], ◌∷◌, ◌++◌, length, slice_get, fold, unwrap_or, filter_map, map, Option, Some, None, ⊤, if◌then◌else◌}
use Rattle.gp_base.specs.declared.records.Unit as units
use Rattle.gp_base.specs.declared.records.RawArc.{RawArc}
use Rattle.gp_base.specs.declared.records.RawHist.{RawHist}
use Rattle.gp_base.specs.declared.records.RawBlock.{RawBlock}
use Rattle.gp_base.specs.declared.records.Rec.{Rec}
use Rattle.gp_base.specs.declared.records.Rec.TheVariants as raw
use Rattle.gmon_data.specs.declared.hist.Hist.{Hist}
use Rattle.std.specs.List.{sum_by, flat_map, AllByRecursion, IsDistinct}
use Rattle.std.specs.Option.{option_or}
use Rattle.std.specs.Map.{keys_of, lookup}
use Rattle.gmon_data.specs.declared.refusal.Unlike.{Unlike}
use Rattle.gmon_data.specs.declared.refusal.AddRefusal.{AddRefusal}
use Rattle.gmon_data.specs.Hists.{range_of, put_hist, kept_unit, has_counters, conflict_with, samples_of, unlike_in, IsKept, IsApart, IsUnitOf}
use Rattle.gmon_data.specs.Tally.{tally, sums_by_key, tally_total}

-- a record whose numbers have 64 bits
pub data WideRec : Type 0 where
  WideHist : Hist → units.Unit → WideRec
  WideArc : ℕ → ℕ → ℕ → WideRec
  WideBlock : ℕ → ℕ → WideRec

pub record Content : Type 0 where
  -- in ascending order of their low addresses
  pub hists : List Hist
  -- by pair of call site and callee, and by address, as they came first
  pub arcs : List ((ℕ × ℕ) × ℕ)
  pub blocks : List (ℕ × ℕ)
  -- that of the histograms
  pub «unit» : Option units.Unit

abbrev pub empty_content : Content
empty_content = record { hists = []; arcs = []; blocks = []; «unit» = None }

-- the executions at an address, 0 where it has none
abbrev pub runs_at : ℕ → List (ℕ × ℕ) → ℕ
runs_at addr blocks = unwrap_or (lookup (nat_eq addr) blocks) 0

abbrev pub same_ends : ℕ × ℕ → ℕ × ℕ → Bool
same_ends p q = nat_eq p.0 q.0 && nat_eq p.1 q.1

abbrev pub arc_in : WideRec → Option ((ℕ × ℕ) × ℕ)
arc_in (WideHist h u) = None
arc_in (WideArc from to count) = Some ((from, to), count)
arc_in (WideBlock addr count) = None

abbrev pub block_in : WideRec → Option (ℕ × ℕ)
block_in (WideHist h u) = None
block_in (WideArc from to count) = None
block_in (WideBlock addr count) = Some (addr, count)

-- a histogram without counters gives nothing
abbrev pub hist_in : WideRec → Option Hist
hist_in (WideHist h u) = if has_counters h then Some h else None
hist_in (WideArc from to count) = None
hist_in (WideBlock addr count) = None

abbrev pub unit_in : WideRec → Option units.Unit
unit_in (WideHist h u) = if has_counters h then Some (kept_unit u) else None
unit_in (WideArc from to count) = None
unit_in (WideBlock addr count) = None

abbrev pub hists_of : List WideRec → List Hist
hists_of recs = fold (λ done h. put_hist h done) [] (filter_map hist_in recs)

abbrev pub unit_of : List WideRec → Option units.Unit
unit_of recs = slice_get (filter_map unit_in recs) 0

abbrev pub summed_arcs : List WideRec → List ((ℕ × ℕ) × ℕ)
summed_arcs recs = sums_by_key same_ends (filter_map arc_in recs)

abbrev pub blocks_of : List WideRec → List (ℕ × ℕ)
blocks_of recs = sums_by_key nat_eq (filter_map block_in recs)

unfoldable pub content_of : List WideRec → Content
content_of recs = record { hists = hists_of recs; arcs = summed_arcs recs; blocks = blocks_of recs; «unit» = unit_of recs }

abbrev pub with_hist : Hist → units.Unit → Content → Content
with_hist h u c = if has_counters h then record c { hists = put_hist h c.hists; «unit» = Some (unwrap_or c.«unit» (kept_unit u)) } else c

-- why a histogram can't be added
abbrev pub hist_conflict : Content → Hist → units.Unit → Option Unlike
hist_conflict c h u = if has_counters h then conflict_with c.hists c.«unit» (range_of h) (kept_unit u) else None

abbrev pub with_arc : ℕ → ℕ → ℕ → Content → Content
with_arc from to count c = record c { arcs = tally same_ends (from, to) count c.arcs }

abbrev pub with_block : ℕ → ℕ → Content → Content
with_block addr count c = record c { blocks = tally nat_eq addr count c.blocks }

-- ---- the records of a file

-- the histogram whose counters share the addresses from a low one to below a high one
abbrev pub hist_over : ℕ → ℕ → List ℕ → Hist
hist_over low high counters = record { low = low; high = high; counters = counters }

abbrev pub wide_hist : RawHist → Hist
wide_hist hist = hist_over hist.low hist.high hist.counters

abbrev pub wide_arc : RawArc → WideRec
wide_arc arc = WideArc arc.from arc.to arc.count

abbrev pub wide_block : RawBlock → WideRec
wide_block block = WideBlock block.addr block.count

-- a record of a file as records of 64 bits: one for each pair of a blocks record
abbrev pub wide_record : Rec → List WideRec
wide_record (raw.Hist hist) = WideHist (wide_hist hist) hist.«unit» ∷ []
wide_record (raw.Arc arc) = WideArc arc.from arc.to arc.count ∷ []
wide_record (raw.Blocks blocks) = map wide_block blocks

abbrev pub wide_records : List Rec → List WideRec
wide_records recs = flat_map wide_record recs

-- whether a record is an arc
abbrev pub is_arc : Rec → Bool
is_arc (raw.Hist hist) = false
is_arc (raw.Arc arc) = true
is_arc (raw.Blocks blocks) = false

-- the counters of a histogram, if there are any, share a range that isn't empty
abbrev pub HasSpan : WideRec → Type 0
HasSpan (WideHist h u) = 0 < length h.counters → h.low < h.high
HasSpan (WideArc from to count) = ⊤
HasSpan (WideBlock addr count) = ⊤

-- ---- many records

abbrev pub with_record : WideRec → Content → Content
with_record (WideHist hist u) c = with_hist hist u c
with_record (WideArc from to count) c = with_arc from to count c
with_record (WideBlock addr count) c = with_block addr count c

abbrev pub with_records : List WideRec → Content → Content
with_records [] c = c
with_records (r ∷ recs) c = with_records recs (with_record r c)

abbrev pub record_conflict : Content → WideRec → Option Unlike
record_conflict c (WideHist hist u) = hist_conflict c hist u
record_conflict c (WideArc from to count) = None
record_conflict c (WideBlock addr count) = None

-- the first record that can't be added after those before it
abbrev pub conflict_of : Content → List WideRec → Option Unlike
conflict_of c [] = None
conflict_of c (r ∷ recs) = option_or (record_conflict c r) (conflict_of (with_record r c) recs)

-- the first record is the one that wasn't added: memory runs out only at one that has no conflict
abbrev pub IsRefusedFirst : AddRefusal → Content → List WideRec → Type 0
IsRefusedFirst refusal c [] = ⊥
IsRefusedFirst refusal c (r ∷ recs) = record_conflict c r ≡ unlike_in refusal

-- the records before the refused one were added, and none after them
pub record IsStopped (refusal : AddRefusal) (recs : List WideRec) (old new : Content) : Type 0 where
  pub done : List WideRec
  pub rest : List WideRec
  pub split : recs ≡ done ++ rest
  pub added : new ≡ with_records done old
  pub accepted : conflict_of old done ≡ None
  pub refused : IsRefusedFirst refusal new rest

-- all were added
pub record IsAdded (recs : List WideRec) (old new : Content) : Type 0 where
  pub added : new ≡ with_records recs old
  pub accepted : conflict_of old recs ≡ None

-- what a profile holds at most
pub record IsWithin (c : Content) : Type 0 where
  pub samples : samples_of c.hists < 2 ^ 45
  pub counters : sum_by (λ h. length h.counters) c.hists < 2 ^ 26
  pub calls : tally_total c.arcs < 2 ^ 59
  pub runs : tally_total c.blocks < 2 ^ 59
  pub pairs : length c.arcs < 2 ^ 26
  pub addresses : length c.blocks < 2 ^ 26

-- ---- the numbers of a profile, as a file has them

abbrev pub HistNumbersFit : Hist → Type 0
HistNumbersFit h = (h.low < 2 ^ 32) × (h.high < 2 ^ 32) × (length h.counters < 2 ^ 32)

abbrev pub PairFits : (ℕ × ℕ) × ℕ → Type 0
PairFits e = (e.0.0 < 2 ^ 32) × (e.0.1 < 2 ^ 32)

abbrev pub AddressFits : ℕ × ℕ → Type 0
AddressFits e = e.0 < 2 ^ 32

abbrev pub UnitFits : Option units.Unit → Type 0
UnitFits None = ⊤
UnitFits (Some u) = (u.rate < 2 ^ 32) × (length u.dim ≡ 15)

-- addresses and rates have four bytes, and a dimension's name has fifteen
pub record NumbersFit (c : Content) : Type 0 where
  pub hists : AllByRecursion HistNumbersFit c.hists
  pub arcs : AllByRecursion PairFits c.arcs
  pub blocks : AllByRecursion AddressFits c.blocks
  pub «unit» : UnitFits c.«unit»

-- what holds of each profile
pub record IsProfile (c : Content) : Type 0 where
  pub within : IsWithin c
  pub numbers : NumbersFit c
  pub hists : AllByRecursion IsKept c.hists
  pub apart : IsApart c.hists
  pub «unit» : IsUnitOf c.hists c.«unit»
  pub arcs : IsDistinct same_ends (keys_of c.arcs)
  pub blocks : IsDistinct nat_eq (keys_of c.blocks)
