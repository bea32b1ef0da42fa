-- The numbers of a profile have the bytes of their fields, whatever is added.
use Rattle.std.proofs.Common.{◌≡◌, ℕ, subst, ◌^◌, ◌<◌, Bool, true, false, ltb, eqb, ◌-◌, List, [], ◌∷◌, length, Some, unwrap_or, refl, if◌then◌else◌, arith}
use Rattle.std.specs.List.{AllByRecursion}
use Rattle.gp_base.specs.declared.records.Unit as units
use Rattle.gp_base.specs.declared.records.RawHist.{RawHist}
use Rattle.gp_base.specs.declared.records.Rec.{Rec}
use Rattle.gp_base.specs.declared.records.Rec.TheVariants as raw
use Rattle.gmon_data.specs.declared.hist.Hist.{Hist}
use Rattle.gmon_data.specs.Hists.{has_counters, hist_sum, kept_unit, pointwise_sum, put_hist}
use Rattle.gmon_data.specs.Content.{Content, wide_hist, wide_record, with_hist, with_records, HistNumbersFit, IsWithin}
use Rattle.gmon_data.proofs.HistLemmas.{counters-put}

longest : (n : ℕ) (xs ys : List ℕ) → length xs < n → length ys < n → length (pointwise_sum xs ys) < n
longest n [] ys low high = high
longest n (x ∷ xs) [] low high = low
longest n (x ∷ xs) (y ∷ ys) low high = grind (arith, longest (n - 1) xs ys)

pub hists_fit : (h : Hist) (hs : List Hist) → HistNumbersFit h → AllByRecursion HistNumbersFit hs → AllByRecursion HistNumbersFit (put_hist h hs)
hists_fit h [] mine all = (mine, tt)
hists_fit h (k ∷ ks) mine all = by (ltb k.low h.low) (eqb k.low h.low) (hists_fit h ks mine all.1)
  where
    by : (b e : Bool) → AllByRecursion HistNumbersFit (put_hist h ks) → AllByRecursion HistNumbersFit (if b then k ∷ put_hist h ks else (if e then hist_sum k h ∷ ks else h ∷ k ∷ ks))
    by true e others = (all.0, others)
    by false true others = ((all.0.0, all.0.1, longest (2 ^ 32) k.counters h.counters all.0.2 mine.2), all.1)
    by false false others = (mine, all)

-- a histogram that is within what a profile holds has a number of counters that is shown
pub few_counters : (h : Hist) (u : units.Unit) (c : Content) → IsWithin (with_hist h u c) → length h.counters < 2 ^ 32
few_counters h u c within = by (has_counters h) refl within
  where
    by : (b : Bool) → has_counters h ≡ b → IsWithin (if b then record c { hists = put_hist h c.hists; «unit» = Some (unwrap_or c.«unit» (kept_unit u)) } else c) → length h.counters < 2 ^ 32
    by b some w = grind (arith, counters-put)

pub few_of_record : (rec : Rec) (hist : RawHist) (c : Content) → rec ≡ raw.Hist hist → IsWithin (with_records (wide_record rec) c) → length hist.counters < 2 ^ 32
few_of_record rec hist c is within = few_counters (wide_hist hist) hist.«unit» c (subst (λ (r : Rec). IsWithin (with_records (wide_record r) c)) is within)
