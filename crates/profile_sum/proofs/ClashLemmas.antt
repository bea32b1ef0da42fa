-- Of histograms that are apart and of one unit, what was added doesn't stand in the way of the rest.
use Rattle.std.proofs.Common.{◌≡◌, ℕ, suc, ◌+◌, ◌≤◌, drop, is_some, true≢false, Bool, true, false, ltb, eqb, ◌&&◌, not, List, [], ◌∷◌, length, map, slice_get, filter_map, option_and_then, Option, Some, None, unwrap_or, refl, sym, ap, subst, ◌∙◌, if◌then◌else◌}
use Rattle.std.specs.List.{AllByRecursion}
use Rattle.std.specs.Option.{option_or}
use Rattle.std.proofs.lemmas.Bool.{le-ltb, lt-ltb, eqb-true, and_right}
use Rattle.gp_base.specs.declared.records.Unit as units
use Rattle.gmon_data.specs.declared.hist.Hist.{Hist}
use Rattle.gmon_data.specs.declared.hist.HistRange.{HistRange}
use Rattle.gmon_data.specs.declared.refusal.Unlike.{Unlike}
use Rattle.gmon_data.specs.declared.refusal.Unlike.TheVariants.{Range}
use Rattle.gmon_data.specs.Hists.{put_hist, hist_sum, range_of, range_conflict, overlap, same_range, conflict_with, unit_conflict, kept_unit, has_counters, IsKept, IsApart, IsUnitOf}
use Rattle.gmon_data.specs.Content.{Content, empty_content, with_hist, hist_conflict, conflict_of, IsProfile}
use Rattle.gmon_data.proofs.ExchangeLemmas.{unit_self}
use Rattle.gmon_data.proofs.HistLemmas.{alike_counters, all_kept, first_none, range-sum}
use Rattle.gmon_data.proofs.LoopLemmas.{at_all}
use Rattle.gmon_data.proofs.RecordLemmas.{cut_at, past_end}
use Rattle.profile_sum.specs.Sum.{clash_of, hist_record}

-- a histogram that was put in changes no conflict of a range that it doesn't overlap
skip_put : (h : Hist) (hs : List Hist) (new : HistRange) → overlap (range_of h) new ≡ false
    → ((i : ℕ) (k : Hist) → slice_get hs i ≡ Some k → k.low ≡ h.low → length k.counters ≡ length h.counters)
    → range_conflict (put_hist h hs) new ≡ range_conflict hs new
skip_put h [] new free alike = rw free refl
skip_put h (k ∷ ks) new free alike = by (ltb k.low h.low) (eqb k.low h.low) refl (skip_put h ks new free (λ i x at. alike (suc i) x at))
  where
    by : (b e : Bool) → eqb k.low h.low ≡ e → range_conflict (put_hist h ks) new ≡ range_conflict ks new
        → range_conflict (if b then k ∷ put_hist h ks else (if e then hist_sum k h ∷ ks else h ∷ k ∷ ks)) new ≡ range_conflict (k ∷ ks) new
    by true e eq others = ap (λ (o : Option Unlike). if overlap (range_of k) new && not (same_range (range_of k) new) then Some (Range (range_of k) new) else o) others
    by false true eq others =
        let range = range-sum k h (alike 0 k refl (eqb-true k.low h.low eq)) in
        ap (λ (r : HistRange). if overlap r new && not (same_range r new) then Some (Range r new) else range_conflict ks new) range
    by false false eq others = rw free refl

unit_more : (o : Option units.Unit) (u : units.Unit) → kept_unit u ≡ u → unit_conflict (Some (unwrap_or o (kept_unit u))) u ≡ unit_conflict o u
unit_more (Some v) u is = refl
unit_more None u is = ap (λ (v : units.Unit). unit_conflict (Some v) u) is ∙ unit_self u

pub some_counters : (h : Hist) → IsKept h → has_counters h ≡ true
some_counters h kept = lt-ltb 0 (length h.counters) kept.some

pub with_kept : (u : units.Unit) (h : Hist) (c : Content) → IsKept h → with_hist h u c ≡ record c { hists = put_hist h c.hists; «unit» = Some (unwrap_or c.«unit» (kept_unit u)) }
with_kept u h c kept = rw (some_counters h kept) refl

module _ (u : units.Unit) (is : kept_unit u ≡ u) where
  -- a kept histogram has a conflict of range or of unit
  conflict_is : (c : Content) (h : Hist) → IsKept h → hist_conflict c h u ≡ option_or (range_conflict c.hists (range_of h)) (unit_conflict c.«unit» u)
  conflict_is c h kept = rw (some_counters h kept, is) refl

  -- adding h changes no conflict of those above it
  same_conflict : (c : Content) (h x : Hist) → AllByRecursion IsKept c.hists → IsKept h → IsKept x → h.high ≤ x.low → hist_conflict c h u ≡ None
      → hist_conflict (with_hist h u c) x u ≡ hist_conflict c x u
  same_conflict c h x all kept kept' above none =
      let free : overlap (range_of h) (range_of x) ≡ false = and_right (ltb h.low x.high) (ltb x.low h.high) (le-ltb x.low h.high above) in
      let alike = alike_counters h c.hists (first_none (range_conflict c.hists (range_of h)) (unit_conflict c.«unit» u) (sym (conflict_is c h kept) ∙ none)) all kept.range in
      let range = skip_put h c.hists (range_of x) free alike in
      ap (λ (d : Content). hist_conflict d x u) (with_kept u h c kept)
      ∙ conflict_is (record c { hists = put_hist h c.hists; «unit» = Some (unwrap_or c.«unit» (kept_unit u)) }) x kept'
      ∙ (λ j. option_or (range j) (unit_more c.«unit» u is j))
      ∙ sym (conflict_is c x kept')

  kept_with : (c : Content) (h : Hist) → IsKept h → AllByRecursion IsKept c.hists → AllByRecursion IsKept (with_hist h u c).hists
  kept_with c h kept all = rw (some_counters h kept) (all_kept h c.hists kept all)

  -- one after the other they have the first conflict that one of them has alone
  module _ (old : Content) where
    abbrev alone : Hist → Option Unlike
    alone h = hist_conflict old h u

    rest_same : (c : Content) (h : Hist) (xs : List Hist) → AllByRecursion IsKept c.hists → IsKept h → hist_conflict c h u ≡ None → AllByRecursion IsKept xs
        → AllByRecursion (λ k. h.high ≤ k.low) xs → AllByRecursion (λ x. hist_conflict c x u ≡ alone x) xs → AllByRecursion (λ x. hist_conflict (with_hist h u c) x u ≡ alone x) xs
    rest_same c h [] all kept none kepts above same = tt
    rest_same c h (x ∷ xs) all kept none kepts above same = search (same_conflict, rest_same c h xs all kept none kepts.1 above.1 same.1)

    in_turn : (hs : List Hist) (c : Content) → AllByRecursion IsKept hs → IsApart hs → AllByRecursion IsKept c.hists → AllByRecursion (λ h. hist_conflict c h u ≡ alone h) hs
        → conflict_of c (map (hist_record u) hs) ≡ slice_get (filter_map alone hs) 0
    in_turn [] c kept apart all same = refl
    in_turn (h ∷ hs) c kept apart all same =
        by (hist_conflict c h u) refl (λ none. in_turn hs (with_hist h u c) kept.1 apart.1 (kept_with c h kept.0 all) (rest_same c h hs all kept.0 none kept.1 apart.0 same.1))
      where
        by : (o : Option Unlike) → hist_conflict c h u ≡ o → (hist_conflict c h u ≡ None → conflict_of (with_hist h u c) (map (hist_record u) hs) ≡ slice_get (filter_map alone hs) 0)
            → conflict_of c (map (hist_record u) (h ∷ hs)) ≡ slice_get (filter_map alone (h ∷ hs)) 0
        by (Some x) e others = let mine : alone h ≡ Some x = sym same.0 ∙ e in rw (e, mine) refl
        by None e others = let mine : alone h ≡ None = sym same.0 ∙ e in rw (e, mine) (others e)

all_same : (u : units.Unit) (c : Content) (hs : List Hist) → AllByRecursion (λ h. hist_conflict c h u ≡ hist_conflict c h u) hs
all_same u c [] = tt
all_same u c (h ∷ hs) = (refl, all_same u c hs)

-- a profile's unit is a kept one
unit_is_kept : (hs : List Hist) (o : Option units.Unit) (u : units.Unit) → IsUnitOf hs o → o ≡ Some u → kept_unit u ≡ u
unit_is_kept [] o u is e = absurd (let f : None ≡ Some u = sym is ∙ e in cc)
unit_is_kept (h ∷ hs) o u is e = let same : is.0 ≡ u = cc in subst (λ (v : units.Unit). kept_unit v ≡ v) same is.2

pub clash_in_turn : (p q : Content) (u : units.Unit) → IsProfile p → IsProfile q → q.«unit» ≡ Some u → conflict_of p (map (hist_record u) q.hists) ≡ clash_of p q
clash_in_turn p q u is is' e =
    in_turn u (unit_is_kept q.hists q.«unit» u is'.«unit» e) p q.hists p is'.hists is'.apart is.hists (all_same u p q.hists)
    ∙ ap (λ (o : Option units.Unit). slice_get (filter_map (λ h. option_and_then (hist_conflict p h) o) q.hists) 0) (sym e)

-- ---- looking for the first clash

-- the first conflict among histograms of a unit, each tried alone
abbrev pub first_clash : Content → units.Unit → List Hist → Option Unlike
first_clash p u hs = slice_get (filter_map (λ h. hist_conflict p h u) hs) 0

first_found : (f : Hist → Option Unlike) (h : Hist) (hs : List Hist) → slice_get (filter_map f (h ∷ hs)) 0 ≡ option_or (f h) (slice_get (filter_map f hs) 0)
first_found f h hs = by (f h) refl
  where
    by : (o : Option Unlike) → f h ≡ o → slice_get (filter_map f (h ∷ hs)) 0 ≡ option_or (f h) (slice_get (filter_map f hs) 0)
    by None e = rw e refl
    by (Some x) e = rw e refl

or_found : (o rest : Option Unlike) → is_some o ≡ true → option_or o rest ≡ o
or_found None rest e = absurd (true≢false (sym e))
or_found (Some x) rest e = refl

or_passed : (o rest : Option Unlike) → is_some o ≡ false → option_or o rest ≡ rest
or_passed None rest e = refl
or_passed (Some x) rest e = absurd (true≢false e)

-- without a unit there is no clash
pub no_unit_no_clash : (p q : Content) → q.«unit» ≡ None → clash_of p q ≡ None
no_unit_no_clash p q none = ap (λ (o : Option units.Unit). slice_get (filter_map (λ h. option_and_then (hist_conflict p h) o) q.hists) 0) none ∙ nothing q.hists
  where
    nothing : (hs : List Hist) → slice_get (filter_map (λ (h : Hist). option_and_then (hist_conflict p h) None) hs) 0 ≡ None
    nothing [] = refl
    nothing (h ∷ hs) = nothing hs

pub clash_of_unit : (p q : Content) (u : units.Unit) → q.«unit» ≡ Some u → clash_of p q ≡ first_clash p u q.hists
clash_of_unit p q u is = ap (λ (o : Option units.Unit). slice_get (filter_map (λ h. option_and_then (hist_conflict p h) o) q.hists) 0) is

module _ (p : Content) (u : units.Unit) (hs : List Hist) (kept : AllByRecursion IsKept hs) (i : ℕ) (h : Hist) (at : slice_get hs i ≡ Some h) (found : Option Unlike)
    (is : found ≡ conflict_with p.hists p.«unit» (range_of h) (kept_unit u)) where
  next_clash : first_clash p u (drop i hs) ≡ option_or found (first_clash p u (drop (i + 1) hs))
  next_clash =
      let mine : hist_conflict p h u ≡ found = rw (some_counters h (at_all IsKept hs i h kept at)) (sym is) in
      ap (first_clash p u) (cut_at hs i h at) ∙ first_found (λ x. hist_conflict p x u) h (drop (i + 1) hs) ∙ ap (λ o. option_or o (first_clash p u (drop (i + 1) hs))) mine

  pub clash_found : is_some found ≡ true → first_clash p u (drop i hs) ≡ found
  clash_found some = next_clash ∙ or_found found _ some

  pub clash_passed : is_some found ≡ false → first_clash p u (drop i hs) ≡ first_clash p u (drop (i + 1) hs)
  clash_passed none = next_clash ∙ or_passed found _ none

pub clash_ends : (p : Content) (u : units.Unit) (hs : List Hist) (i : ℕ) → length hs ≤ i → first_clash p u (drop i hs) ≡ None
clash_ends p u hs i le = ap (first_clash p u) (past_end hs i le)

-- ---- nothing is unlike nothing

free_of_empty : (h : Hist) (o : Option units.Unit) → option_and_then (hist_conflict empty_content h) o ≡ None
free_of_empty h None = refl
free_of_empty h (Some u) = by (has_counters h)
  where
    by : (b : Bool) → (if b then conflict_with [] None (range_of h) (kept_unit u) else None) ≡ None
    by true = refl
    by false = refl

all_free : (o : Option units.Unit) (hs : List Hist) → filter_map (λ h. option_and_then (hist_conflict empty_content h) o) hs ≡ []
all_free o [] = refl
all_free o (h ∷ hs) = rw (free_of_empty h o, all_free o hs) refl

pub no_clash : (q : Content) → clash_of empty_content q ≡ None
no_clash q = ap (λ (us : List Unlike). slice_get us 0) (all_free q.«unit» q.hists)
