-- Records without a conflict can be split: what both parts add up to has a sum.
use Rattle.std.proofs.Common.{◌≡◌, Bool, true, false, ltb, eqb, List, [], ◌∷◌, ◌++◌, length, filter_map, slice_get, option_and_then, Option, Some, None, unwrap_or, refl, sym, ap, subst, ◌∙◌, if◌then◌else◌}
use Rattle.std.specs.List.{All, AllByRecursion}
use Rattle.std.specs.Option.{option_or}
use Rattle.std.proofs.lemmas.Bool.{ltb-true, eqb-true}
use Rattle.std.proofs.lemmas.List.Elements.{recursion_from_All}
use Rattle.gp_base.specs.declared.records.Unit as units
use Rattle.gmon_data.specs.declared.hist.Hist.{Hist}
use Rattle.gmon_data.specs.declared.hist.HistRange.{HistRange}
use Rattle.gmon_data.specs.Hists.{put_hist, hist_sum, range_of, range_conflict, unit_conflict, conflict_with, kept_unit, has_counters, IsKept}
use Rattle.gmon_data.specs.Content.{Content, WideRec, WideHist, WideArc, WideBlock, empty_content, content_of, with_record, with_records, HasSpan, record_conflict, conflict_of, hist_conflict}
use Rattle.gmon_data.proofs.ConflictLemmas.{after_put, alike_of, before_put, own_clear, IsAlike}
use Rattle.gmon_data.proofs.HistLemmas.{all_kept, range-sum, unit_twice}
use Rattle.gmon_data.proofs.RecordLemmas.{parts_none}
use Rattle.profile_sum.specs.Sum.{clash_of, sum_of}
use Rattle.profile_sum.proofs.ClashLemmas.{some_counters}
use Rattle.profile_sum.proofs.ContentLemmas.{content_is_added, fold_put, or_none, record_later, rising_put, sum_none, IsRising}

all_ranges : (P : HistRange → Type 0) (h : Hist) (hs : List Hist) → IsAlike h hs → P (range_of h) → AllByRecursion (λ k. P (range_of k)) hs → AllByRecursion (λ k. P (range_of k)) (put_hist h hs)
all_ranges P h [] alike mine all = (mine, tt)
all_ranges P h (k ∷ ks) alike mine all = by (ltb k.low h.low) (eqb k.low h.low) refl (all_ranges P h ks alike.1 mine all.1)
  where
    by : (b e : Bool) → eqb k.low h.low ≡ e → AllByRecursion (λ k. P (range_of k)) (put_hist h ks) → AllByRecursion (λ k. P (range_of k)) (if b then k ∷ put_hist h ks else (if e then hist_sum k h ∷ ks else h ∷ k ∷ ks))
    by true e eq others = (all.0, others)
    by false true eq others = (subst P (sym (range-sum k h (ap (λ (r : HistRange). r.count) (alike.0 (eqb-true k.low h.low eq))))) all.0, all.1)
    by false false eq others = (mine, all)

-- ---- records that are added to q, as to the sum of p and q, have no conflict with p either

record Compatible (p q : Content) : Type 0 where
  pub rising : IsRising q.hists
  pub kept : AllByRecursion IsKept q.hists
  pub sum_kept : AllByRecursion IsKept (sum_of p q).hists
  pub fit : AllByRecursion (λ k. range_conflict p.hists (range_of k) ≡ None) q.hists
  pub first : (r : HistRange) → range_conflict (sum_of p q).hists r ≡ None → range_conflict p.hists r ≡ None
  pub second : (r : HistRange) → range_conflict (sum_of p q).hists r ≡ None → range_conflict q.hists r ≡ None
  pub one_unit : (u : units.Unit) → q.«unit» ≡ Some u → (unit_conflict p.«unit» u ≡ None) × (kept_unit u ≡ u)

module _ (p q : Content) (w : Compatible p q) (h : Hist) (v : units.Unit) (mine : IsKept h) where
  abbrev next : Content
  next = record q { hists = put_hist h q.hists; «unit» = Some (unwrap_or q.«unit» (kept_unit v)) }

  module _ (range : range_conflict (sum_of p q).hists (range_of h) ≡ None) (un : unit_conflict (sum_of p q).«unit» (kept_unit v) ≡ None) where
    sum_next : (sum_of p next).hists ≡ put_hist h (sum_of p q).hists
    sum_next = fold_put h q.hists p.hists w.rising

    in_sum : IsAlike h (sum_of p q).hists
    in_sum = alike_of h (sum_of p q).hists mine w.sum_kept range

    in_second : IsAlike h q.hists
    in_second = alike_of h q.hists mine w.kept (w.second (range_of h) range)

    units_next : (o : Option units.Unit) → q.«unit» ≡ o → (u : units.Unit) → Some (unwrap_or o (kept_unit v)) ≡ Some u → (unit_conflict p.«unit» u ≡ None) × (kept_unit u ≡ u)
    units_next None e u is =
        let same : kept_unit v ≡ u = cc in
        let here : unit_conflict p.«unit» (kept_unit v) ≡ None = sym (ap (λ o. unit_conflict o (kept_unit v)) (ap (option_or p.«unit») e ∙ or_none p.«unit»)) ∙ un in
        subst (λ (x : units.Unit). (unit_conflict p.«unit» x ≡ None) × (kept_unit x ≡ x)) same (here, unit_twice v)
    units_next (Some x) e u is = let same : x ≡ u = cc in w.one_unit u (e ∙ ap (λ (z : units.Unit). Some z) same)

    next_compatible : Compatible p next
    next_compatible = record {
      rising = rising_put h q.hists w.rising;
      kept = all_kept h q.hists mine w.kept;
      sum_kept = subst (λ (l : List Hist). AllByRecursion IsKept l) (sym sum_next) (all_kept h (sum_of p q).hists mine w.sum_kept);
      fit = all_ranges (λ r. range_conflict p.hists r ≡ None) h q.hists in_second (w.first (range_of h) range) w.fit;
      first = λ r none. w.first r (before_put h r (sum_of p q).hists in_sum (sym (ap (λ l. range_conflict l r) sum_next) ∙ none));
      second = λ r none.
          let none' = sym (ap (λ l. range_conflict l r) sum_next) ∙ none in
          after_put h r q.hists in_second (w.second r (before_put h r (sum_of p q).hists in_sum none')) (own_clear h r (sum_of p q).hists in_sum none');
      one_unit = units_next q.«unit» refl;
    }

one_more : (r : WideRec) (p q : Content) → Compatible p q → HasSpan r → record_conflict (sum_of p q) r ≡ None → Compatible p (with_record r q)
one_more (WideHist h v) p q w span none = by (has_counters h) refl none
  where
    by : (b : Bool) → has_counters h ≡ b → (if b then conflict_with (sum_of p q).hists (sum_of p q).«unit» (range_of h) (kept_unit v) else None) ≡ None
        → Compatible p (if b then record q { hists = put_hist h q.hists; «unit» = Some (unwrap_or q.«unit» (kept_unit v)) } else q)
    by true e none =
        let some = ltb-true 0 (length h.counters) e in
        let parts = parts_none (range_conflict (sum_of p q).hists (range_of h)) (unit_conflict (sum_of p q).«unit» (kept_unit v)) none in
        next_compatible p q w h v (record { range = span some; some = some }) parts.0 parts.1
    by false e none = w
one_more (WideArc from to count) p q w span none = record { rising = w.rising; kept = w.kept; sum_kept = w.sum_kept; fit = w.fit; first = w.first; second = w.second; one_unit = w.one_unit }
one_more (WideBlock addr count) p q w span none = record { rising = w.rising; kept = w.kept; sum_kept = w.sum_kept; fit = w.fit; first = w.first; second = w.second; one_unit = w.one_unit }

all_more : (recs : List WideRec) (p q : Content) → Compatible p q → AllByRecursion HasSpan recs → conflict_of (sum_of p q) recs ≡ None → Compatible p (with_records recs q)
all_more [] p q w spans none = w
all_more (r ∷ recs) p q w spans none =
    let parts = parts_none (record_conflict (sum_of p q) r) (conflict_of (with_record r (sum_of p q)) recs) none in
    all_more recs p (with_record r q) (one_more r p q w spans.0 parts.0) spans.1
    (ap (λ c. conflict_of c recs) (record_later r p q w.rising) ∙ parts.1)

at_first : (p : Content) → AllByRecursion IsKept p.hists → Compatible p empty_content
at_first p kept = record { rising = tt; kept = tt; sum_kept = kept; fit = tt; first = λ r none. none; second = λ r none. refl; one_unit = λ u e. absurd cc }

-- ---- so they have a sum

compatible_sum : (p q : Content) → Compatible p q → clash_of p q ≡ None
compatible_sum p q w = by q.«unit» refl
  where
    no_unit : (hs : List Hist) → slice_get (filter_map (λ h. option_and_then (hist_conflict p h) None) hs) 0 ≡ None
    no_unit [] = refl
    no_unit (h ∷ hs) = no_unit hs

    of_unit : (u : units.Unit) → (unit_conflict p.«unit» u ≡ None) × (kept_unit u ≡ u) → (hs : List Hist) → AllByRecursion IsKept hs
        → AllByRecursion (λ k. range_conflict p.hists (range_of k) ≡ None) hs → slice_get (filter_map (λ h. hist_conflict p h u) hs) 0 ≡ None
    of_unit u un [] kept fit = refl
    of_unit u un (h ∷ hs) kept fit =
        let none : hist_conflict p h u ≡ None = rw (some_counters h kept.0, un.1, fit.0) un.0 in
        rw none (of_unit u un hs kept.1 fit.1)

    by : (o : Option units.Unit) → q.«unit» ≡ o → clash_of p q ≡ None
    by None e = ap (λ o. slice_get (filter_map (λ h. option_and_then (hist_conflict p h) o) q.hists) 0) e ∙ no_unit q.hists
    by (Some u) e = ap (λ o. slice_get (filter_map (λ h. option_and_then (hist_conflict p h) o) q.hists) 0) e ∙ of_unit u (w.one_unit u e) q.hists w.kept w.fit

split_none : (xs ys : List WideRec) (c : Content) → conflict_of c (xs ++ ys) ≡ None → (conflict_of c xs ≡ None) × (conflict_of (with_records xs c) ys ≡ None)
split_none [] ys c none = (refl, none)
split_none (x ∷ xs) ys c none =
    let parts = parts_none (record_conflict c x) (conflict_of (with_record x c) (xs ++ ys)) none in
    let rest = split_none xs ys (with_record x c) parts.1 in
    (ap (λ o. option_or o (conflict_of (with_record x c) xs)) parts.0 ∙ rest.0, rest.1)

split_all : (xs ys : List WideRec) → AllByRecursion HasSpan (xs ++ ys) → AllByRecursion HasSpan xs × AllByRecursion HasSpan ys
split_all [] ys all = (tt, all)
split_all (x ∷ xs) ys all = let rest = split_all xs ys all.1 in ((all.0, rest.0), rest.1)

pub parts_have_sum : (a b : List WideRec) → All HasSpan (a ++ b) → conflict_of empty_content (a ++ b) ≡ None → clash_of (content_of a) (content_of b) ≡ None
parts_have_sum a b spans none =
    let all = split_all a b (recursion_from_All HasSpan (a ++ b) spans) in
    let parts = split_none a b empty_content none in
    let p = content_of a in
    let q = content_of b in
    let kept = (all_more a empty_content empty_content (at_first empty_content tt) all.0 parts.0).kept in
    let kept' = subst (λ (c : Content). AllByRecursion IsKept c.hists) (sym (content_is_added a)) kept in
    let rest = ap (λ c. conflict_of c b) (sum_none p ∙ content_is_added a) ∙ parts.1 in
    let w = all_more b p empty_content (at_first p kept') all.1 rest in
    compatible_sum p q (subst (λ (c : Content). Compatible p c) (sym (content_is_added b)) w)

-- ---- what records add up to has histograms with a range and counters

kept_with : (r : WideRec) (c : Content) → HasSpan r → AllByRecursion IsKept c.hists → AllByRecursion IsKept (with_record r c).hists
kept_with (WideHist h v) c span all = by (has_counters h) refl
  where
    by : (b : Bool) → has_counters h ≡ b → AllByRecursion IsKept (if b then record c { hists = put_hist h c.hists; «unit» = Some (unwrap_or c.«unit» (kept_unit v)) } else c).hists
    by true e = let some = ltb-true 0 (length h.counters) e in all_kept h c.hists (record { range = span some; some = some }) all
    by false e = all
kept_with (WideArc from to count) c span all = all
kept_with (WideBlock addr count) c span all = all

all_with : (recs : List WideRec) (c : Content) → AllByRecursion HasSpan recs → AllByRecursion IsKept c.hists → AllByRecursion IsKept (with_records recs c).hists
all_with [] c spans all = all
all_with (r ∷ recs) c spans all = all_with recs (with_record r c) spans.1 (kept_with r c spans.0 all)

pub hists_kept : (recs : List WideRec) → All HasSpan recs → AllByRecursion IsKept (content_of recs).hists
hists_kept recs spans = search (content_is_added, all_with, recursion_from_All)
