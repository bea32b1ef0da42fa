-- How the profile of what was read of a file is made: its histograms in some order, and then the other records.
-- Only private functions use these definitions.
use Rattle.std.specs.Prelude.{ℕ, ◌-◌, ◌<◌, ◌≤◌, ⊤, Bool, true, false, List, [], ◌∷◌, ◌++◌, map, take, drop, get_or, slice_get, Option, Some, None}
use Rattle.std.specs.List.{flat_map, filter}
use Rattle.std.specs.List.Sorted.{IsPermutation}
use Rattle.gp_base.specs.declared.records.RawArc.{RawArc}
use Rattle.gp_base.specs.declared.records.RawBlock.{RawBlock}
use Rattle.gp_base.specs.declared.records.Unit as units
use Rattle.gmon_data.specs.declared.hist.HistRange.{HistRange}
use Rattle.gmon_data.specs.Content.{WideRec, wide_arc, wide_block, wide_record}
use Rattle.gmon_gnu.specs.declared.state.Body.{Body}
use Rattle.gmon_gnu.specs.declared.state.Body.TheVariants as body
use Rattle.gmon_gnu.specs.declared.state.Entry.{Entry}
use Rattle.gmon_gnu.specs.declared.state.HistFields.{HistFields}
use Rattle.gmon_gnu.specs.declared.state.State.{State}
use Rattle.gmon_gnu.specs.declared.profile.Placed.{Placed}
use Rattle.gmon_gnu.specs.Held.{arcs_before, no_fields, rec_of}

abbrev pub is_hist : Body → Bool
is_hist (body.Hist f start end) = true
is_hist (body.Blocks start end) = false

-- the entries that are histograms
abbrev pub hists_among : List Entry → List Entry
hists_among entries = filter (λ e. is_hist e.body) entries

-- the entries with these numbers
abbrev pub placed_entries : List Entry → List Placed → List (Option Entry)
placed_entries entries order = map (λ p. slice_get entries p.entry) order

-- each histogram has its place in the order
abbrev pub IsOrderOf : List Entry → List Placed → Type 0
IsOrderOf entries order = IsPermutation (map Some (hists_among entries)) (placed_entries entries order)

abbrev pub body_recs : List HistFields → List ℕ → List RawBlock → Option Entry → List WideRec
body_recs fields counters pairs None = []
body_recs fields counters pairs (Some e) = wide_record (rec_of fields counters pairs e.body)

-- what the entries with these numbers stand for, without the arcs before them
abbrev pub placed_recs : List HistFields → List ℕ → List RawBlock → List Entry → List Placed → List WideRec
placed_recs fields counters pairs entries order = flat_map (body_recs fields counters pairs) (placed_entries entries order)

-- what an entry stands for where it is a histogram
abbrev pub hist_recs : List HistFields → List ℕ → List RawBlock → Body → List WideRec
hist_recs fields counters pairs (body.Hist f start end) = wide_record (rec_of fields counters pairs (body.Hist f start end))
hist_recs fields counters pairs (body.Blocks start end) = []

-- the histograms of entries
abbrev pub later_recs : List HistFields → List ℕ → List RawBlock → List Entry → List WideRec
later_recs fields counters pairs entries = flat_map (λ e. hist_recs fields counters pairs e.body) entries

abbrev pub block_recs : List RawBlock → Body → List WideRec
block_recs pairs (body.Hist f start end) = []
block_recs pairs (body.Blocks start end) = map wide_block (take (end - start) (drop start pairs))

-- the arcs before an entry, and the counts of blocks where it has some
abbrev pub other_recs : List RawBlock → List RawArc → Entry → List WideRec
other_recs pairs arcs e = map wide_arc (arcs_before arcs e) ++ block_recs pairs e.body

-- the histograms of later entries, and then all other records
abbrev pub behind_recs : State → List Entry → List WideRec
behind_recs s later = later_recs s.fields.items s.counters.cells.items s.pairs.cells.items later ++ (flat_map (other_recs s.pairs.cells.items s.arcs.items) s.entries.items ++ map wide_arc (drop s.run s.arcs.items))

-- the fields of a histogram lie within what there is, and its span has an end
abbrev pub IsPlacedIn : ℕ → Body → Type 0
IsPlacedIn n (body.Hist f start end) = (f < n) × (start ≤ end)
IsPlacedIn n (body.Blocks start end) = ⊤

-- the range and the unit of a record that is a histogram
abbrev pub hist_at : List HistFields → Body → Option (HistRange × units.Unit)
hist_at fields (body.Hist f start end) =
    Some (record { low = (get_or fields f no_fields).low; high = (get_or fields f no_fields).high; count = end - start }, (get_or fields f no_fields).«unit»)
hist_at fields (body.Blocks start end) = None

-- the place of an entry where it is one
abbrev pub place_at : Option (HistRange × units.Unit) → ℕ → List Placed
place_at None i = []
place_at (Some p) i = record { range = p.0; entry = i } ∷ []

abbrev pub place_of : List HistFields → Body → ℕ → List Placed
place_of fields b i = place_at (hist_at fields b) i
