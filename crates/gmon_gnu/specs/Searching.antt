-- How the first conflict among the first histograms of what was read is looked for, without memory.
-- Only private functions use these definitions.
use Rattle.std.specs.Prelude.{ℕ, zero, suc, ◌-◌, nat_lt, not, ◌&&◌, List, [], ◌∷◌, ◌++◌, filter_map, Option, Some, None, if◌then◌else◌}
use Rattle.std.specs.Option.{option_or}
use Rattle.gp_base.specs.declared.records.Unit as units
use Rattle.gmon_data.specs.declared.hist.HistRange.{HistRange}
use Rattle.gmon_data.specs.declared.refusal.Unlike.{Unlike}
use Rattle.gmon_data.specs.declared.refusal.Unlike.TheVariants.{Range}
use Rattle.gmon_data.specs.Hists.{kept_unit, overlap, same_range, unit_conflict}
use Rattle.gmon_gnu.specs.declared.state.Body.{Body}
use Rattle.gmon_gnu.specs.declared.state.Entry.{Entry}
use Rattle.gmon_gnu.specs.declared.state.HistFields.{HistFields}
use Rattle.gmon_gnu.specs.Making.{hist_at}

-- a histogram where it has counters
abbrev pub where_counted : Option (HistRange × units.Unit) → Option (HistRange × units.Unit)
where_counted None = None
where_counted (Some p) = if nat_lt 0 p.0.count then Some p else None

-- the range and the unit of a record that is a histogram with counters
abbrev pub counted_hist : List HistFields → Body → Option (HistRange × units.Unit)
counted_hist fields b = where_counted (hist_at fields b)

-- those of the entries that are, in their order
abbrev pub counted_hists : List HistFields → List Entry → List (HistRange × units.Unit)
counted_hists fields entries = filter_map (λ e. counted_hist fields e.body) entries

-- the lower one of the lowest so far and of another range
abbrev pub lower_one : Option HistRange → HistRange → HistRange
lower_one None old = old
lower_one (Some best) old = if nat_lt old.low best.low then old else best

-- where that overlaps the new one and differs
abbrev pub lower_unlike : Option HistRange → HistRange → HistRange → Option HistRange
lower_unlike best old new = if overlap old new && not (same_range old new) then Some (lower_one best old) else best

abbrev pub lower_where_counted : Option HistRange → Option (HistRange × units.Unit) → HistRange → Option HistRange
lower_where_counted best None new = best
lower_where_counted best (Some p) new = lower_unlike best p.0 new

-- the lowest of ranges that overlaps the new one and differs, beside the lowest so far
abbrev pub lowest_unlike : Option HistRange → List (HistRange × units.Unit) → HistRange → Option HistRange
lowest_unlike best [] new = best
lowest_unlike best (p ∷ ps) new = lowest_unlike (lower_unlike best p.0 new) ps new

-- the unit of the first one
abbrev pub first_unit : List (HistRange × units.Unit) → Option units.Unit
first_unit [] = None
first_unit (p ∷ ps) = Some (kept_unit p.1)

abbrev pub range_unlike : Option HistRange → HistRange → Option Unlike
range_unlike None new = None
range_unlike (Some old) new = Some (Range old new)

-- why a histogram can't be added to those before it
abbrev pub unlike_before : List (HistRange × units.Unit) → HistRange → units.Unit → Option Unlike
unlike_before before range new = option_or (range_unlike (lowest_unlike None before range) range) (unit_conflict (first_unit before) (kept_unit new))

-- where it is one with counters
abbrev pub unlike_where_counted : List (HistRange × units.Unit) → Option (HistRange × units.Unit) → Option Unlike
unlike_where_counted before None = None
unlike_where_counted before (Some p) = unlike_before before p.0 p.1

-- how many are left to be looked at
abbrev pub left_behind : ℕ → Option (HistRange × units.Unit) → ℕ
left_behind left None = left
left_behind left (Some p) = left - 1

-- why one of the first n can't be, behind those that were looked at
abbrev pub unlike_among : List (HistRange × units.Unit) → List (HistRange × units.Unit) → ℕ → Option Unlike
unlike_among before [] n = None
unlike_among before (p ∷ ps) zero = None
unlike_among before (p ∷ ps) (suc n) = option_or (unlike_before before p.0 p.1) (unlike_among (before ++ p ∷ []) ps n)
