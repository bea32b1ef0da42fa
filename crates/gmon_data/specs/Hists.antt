-- Histograms, their sums, and which can't be added up.
use Rattle.std.specs.Prelude.{◌≡◌, ℕ, suc, ◌+◌, ◌<◌, ◌≤◌, ◌==◌, nat_lt, Bool, ◌&&◌, not, List, [], ◌∷◌, length, sum, slice_index, Option, Some, None, ⊤, if◌then◌else◌}
use Rattle.std.specs.List.{sum_by, AllByRecursion}
use Rattle.std.specs.Option.{option_or}
use Rattle.std.specs.Str.{bytes_eq}
use Rattle.gp_base.specs.declared.records.Unit as units
use Rattle.gmon_data.specs.declared.hist.Hist.{Hist}
use Rattle.gmon_data.specs.declared.hist.HistRange.{HistRange}
use Rattle.gmon_data.specs.declared.refusal.Unlike.{Unlike}
use Rattle.gmon_data.specs.declared.refusal.Unlike.TheVariants.{Range, Rate, Dimension}
use Rattle.gmon_data.specs.declared.refusal.AddRefusal.{AddRefusal}
use Rattle.gmon_data.specs.declared.refusal.AddRefusal.TheVariants as answers

-- counter by counter; where one list is longer, its own
abbrev pub pointwise_sum : List ℕ → List ℕ → List ℕ
pointwise_sum [] ys = ys
pointwise_sum (x ∷ xs) [] = x ∷ xs
pointwise_sum (x ∷ xs) (y ∷ ys) = (x + y) ∷ pointwise_sum xs ys

abbrev pub range_of : Hist → HistRange
range_of h = record { low = h.low; high = h.high; count = length h.counters }

abbrev pub hist_sum : Hist → Hist → Hist
hist_sum k h = record k { counters = pointwise_sum k.counters h.counters }

-- a histogram is added to the one with its low address, and else takes its place in ascending order
abbrev pub put_hist : Hist → List Hist → List Hist
put_hist h [] = h ∷ []
put_hist h (k ∷ ks) = if nat_lt k.low h.low then k ∷ put_hist h ks else (if k.low == h.low then hist_sum k h ∷ ks else h ∷ k ∷ ks)

-- a rate of 0 stands for 100
abbrev pub kept_unit : units.Unit → units.Unit
kept_unit u = record u { rate = if u.rate == 0 then 100 else u.rate }

abbrev pub overlap : HistRange → HistRange → Bool
overlap a b = nat_lt a.low b.high && nat_lt b.low a.high

abbrev pub same_range : HistRange → HistRange → Bool
same_range a b = ((a.low == b.low) && (a.high == b.high)) && (a.count == b.count)

-- the lowest kept histogram that overlaps the new range and differs from it
abbrev pub range_conflict : List Hist → HistRange → Option Unlike
range_conflict [] new = None
range_conflict (k ∷ ks) new = if overlap (range_of k) new && not (same_range (range_of k) new) then Some (Range (range_of k) new) else range_conflict ks new

-- how many kept histograms lie lower, in ascending order
abbrev pub place_of : ℕ → List Hist → ℕ
place_of low [] = 0
place_of low (k ∷ ks) = if nat_lt k.low low then suc (place_of low ks) else 0

-- the samples of histograms
abbrev pub samples_of : List Hist → ℕ
samples_of hs = sum_by (λ h. sum h.counters) hs

-- what a histogram counts at a place, where it has the low address
abbrev pub count_at : ℕ → ℕ → Hist → ℕ
count_at low i h = if h.low == low then slice_index h.counters i else 0

-- the kept unit, which differs
abbrev pub unit_conflict : Option units.Unit → units.Unit → Option Unlike
unit_conflict None new = None
unit_conflict (Some old) new =
    if not (old.rate == new.rate) then Some (Rate old.rate new.rate) else (
    if not (bytes_eq old.dim new.dim && (old.«abbrev» == new.«abbrev»)) then Some (Dimension old new) else None)

abbrev pub has_counters : Hist → Bool
has_counters h = nat_lt 0 (length h.counters)

-- why a histogram of a unit can't be added to those that are kept
abbrev pub conflict_with : List Hist → Option units.Unit → HistRange → units.Unit → Option Unlike
conflict_with hists «unit» range new = option_or (range_conflict hists range) (unit_conflict «unit» new)

-- why a histogram with counters can't be added to one other
abbrev pub unlike_of : HistRange → units.Unit → HistRange → units.Unit → Option Unlike
unlike_of old old_unit new new_unit =
    option_or (if overlap old new && not (same_range old new) then Some (Range old new) else None) (unit_conflict (Some (kept_unit old_unit)) (kept_unit new_unit))

-- the two histograms that a refusal tells of
abbrev pub unlike_in : AddRefusal → Option Unlike
unlike_in answers.OutOfMemory = None
unlike_in (answers.Unlike unlike) = Some unlike

-- a refusal is the one that is given, unless memory ran out before
abbrev pub IsUnlike : AddRefusal → Option Unlike → Type 0
IsUnlike answers.OutOfMemory given = ⊤
IsUnlike (answers.Unlike unlike) given = given ≡ Some unlike

-- a kept histogram
pub record IsKept (h : Hist) : Type 0 where
  pub range : h.low < h.high
  pub some : 0 < length h.counters

-- each ends at or below the begin of those after it
abbrev pub IsApart : List Hist → Type 0
IsApart [] = ⊤
IsApart (h ∷ hs) = AllByRecursion (λ k. h.high ≤ k.low) hs × IsApart hs

-- there is a unit exactly where there are histograms
abbrev pub IsUnitOf : List Hist → Option units.Unit → Type 0
IsUnitOf [] o = o ≡ None
IsUnitOf (h ∷ hs) o = (u : units.Unit) × (o ≡ Some u) × (kept_unit u ≡ u)
