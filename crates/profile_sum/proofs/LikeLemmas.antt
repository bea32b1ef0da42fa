-- Records that are alike among themselves, and whose contents have a sum, have no conflict one after the other.
use Rattle.std.proofs.Common.{◌≡◌, ◌<◌, Bool, true, false, get_or, List, [], ◌∷◌, ◌++◌, length, map, filter_map, slice_get, option_and_then, Option, Some, None, unwrap_or, refl, sym, ap, subst, ◌∙◌, if◌then◌else◌}
use Rattle.std.specs.Prelude.{⊤}
use Rattle.std.specs.List.{All, AllByRecursion, cons_option}
use Rattle.std.specs.Option.{option_or}
use Rattle.std.proofs.lemmas.Bool.{lt-ltb, ltb-true}
use Rattle.std.proofs.lemmas.List.Elements.{All-contains, All-contains_itself, All-from_recursion, All-map, recursion_from_All}
use Rattle.gp_base.specs.declared.records.Unit as units
use Rattle.gmon_data.specs.declared.hist.Hist.{Hist}
use Rattle.gmon_data.specs.declared.hist.HistRange.{HistRange}
use Rattle.gmon_data.specs.declared.refusal.Unlike.{Unlike}
use Rattle.gmon_data.specs.Hists.{put_hist, range_of, range_conflict, unit_conflict, conflict_with, kept_unit, has_counters, IsKept}
use Rattle.gmon_data.specs.Content.{Content, WideRec, WideHist, WideArc, WideBlock, empty_content, content_of, hist_in, with_record, with_records, HasSpan, record_conflict, conflict_of, hist_conflict}
use Rattle.gmon_data.proofs.ExchangeLemmas.{same_unit}
use Rattle.gmon_data.proofs.ConflictLemmas.{after_put, alike_of, before_put, own_clear}
use Rattle.gmon_data.proofs.HistLemmas.{all_kept, unit_twice}
use Rattle.gmon_data.proofs.RangeLemmas.{ranges_of_content}
use Rattle.gmon_data.proofs.RecordLemmas.{parts_none}
use Rattle.profile_sum.specs.Sum.{clash_of}
use Rattle.profile_sum.proofs.ClashLemmas.{some_counters}
use Rattle.profile_sum.proofs.ContentLemmas.{content_is_added}
use Rattle.profile_sum.proofs.SplitLemmas.{hists_kept}

-- ---- records that are added to two contents at once

-- what has no conflict with p and with q has none with c
record IsBoth (p q c : Content) : Type 0 where
  pub kept_q : AllByRecursion IsKept q.hists
  pub kept_c : AllByRecursion IsKept c.hists
  pub free : (r : HistRange) → range_conflict p.hists r ≡ None → range_conflict q.hists r ≡ None → range_conflict c.hists r ≡ None
  pub one : (u : units.Unit) → unit_conflict p.«unit» u ≡ None → unit_conflict q.«unit» u ≡ None → unit_conflict c.«unit» u ≡ None
  pub none : c.«unit» ≡ None → q.«unit» ≡ None

-- a record has no conflict with p
abbrev IsLike : Content → WideRec → Type 0
IsLike p (WideHist h v) = 0 < length h.counters → (range_conflict p.hists (range_of h) ≡ None) × (unit_conflict p.«unit» (kept_unit v) ≡ None)
IsLike p (WideArc from to count) = ⊤
IsLike p (WideBlock addr count) = ⊤

units_free : (o q c : Option units.Unit) (x u : units.Unit) → ((u : units.Unit) → unit_conflict o u ≡ None → unit_conflict q u ≡ None → unit_conflict c u ≡ None) → (c ≡ None → q ≡ None)
    → unit_conflict o u ≡ None → unit_conflict (Some (unwrap_or q x)) u ≡ None → unit_conflict (Some (unwrap_or c x)) u ≡ None
units_free o None None x u one none p both = both
units_free o (Some y) None x u one none p both = absurd (let e : Some y ≡ None = none refl in cc)
units_free o None (Some z) x u one none p both = one u p refl
units_free o (Some y) (Some z) x u one none p both = one u p both

none_or : (o rest : Option Unlike) → o ≡ None → rest ≡ None → option_or o rest ≡ None
none_or o rest e f = ap (λ (x : Option Unlike). option_or x rest) e ∙ f

-- a record goes to q and to c
abbrev GoesTo : Content → WideRec → Content → Content → Type 0
GoesTo p r q c = (record_conflict c r ≡ None) × IsBoth p (with_record r q) (with_record r c)

module _ (p q c : Content) (b : IsBoth p q c) (h : Hist) (v : units.Unit) (mine : IsKept h) where
  hist_both : range_conflict p.hists (range_of h) ≡ None → range_conflict q.hists (range_of h) ≡ None
      → IsBoth p (record q { hists = put_hist h q.hists; «unit» = Some (unwrap_or q.«unit» (kept_unit v)) }) (record c { hists = put_hist h c.hists; «unit» = Some (unwrap_or c.«unit» (kept_unit v)) })
  hist_both of_p of_q =
      let alike_q = alike_of h q.hists mine b.kept_q of_q in
      let alike_c = alike_of h c.hists mine b.kept_c (b.free (range_of h) of_p of_q) in
      record {
        kept_q = all_kept h q.hists mine b.kept_q;
        kept_c = all_kept h c.hists mine b.kept_c;
        free = λ r free_p free_q. after_put h r c.hists alike_c (b.free r free_p (before_put h r q.hists alike_q free_q)) (own_clear h r q.hists alike_q free_q);
        one = λ u free_p free_q. units_free p.«unit» q.«unit» c.«unit» (kept_unit v) u b.one b.none free_p free_q;
        none = λ e. absurd cc;
      }

goes_to : (r : WideRec) (p q c : Content) → IsBoth p q c → HasSpan r → IsLike p r → record_conflict q r ≡ None → GoesTo p r q c
goes_to (WideHist h v) p q c b span like none = by (has_counters h) refl none
  where
    by : (t : Bool) → has_counters h ≡ t → (if t then conflict_with q.hists q.«unit» (range_of h) (kept_unit v) else None) ≡ None
        → ((if t then conflict_with c.hists c.«unit» (range_of h) (kept_unit v) else None) ≡ None)
        × IsBoth p (if t then record q { hists = put_hist h q.hists; «unit» = Some (unwrap_or q.«unit» (kept_unit v)) } else q)
        (if t then record c { hists = put_hist h c.hists; «unit» = Some (unwrap_or c.«unit» (kept_unit v)) } else c)
    by true e none =
        let some = ltb-true 0 (length h.counters) e in
        let with_p = like some in
        let with_q = parts_none (range_conflict q.hists (range_of h)) (unit_conflict q.«unit» (kept_unit v)) none in (
          none_or (range_conflict c.hists (range_of h)) (unit_conflict c.«unit» (kept_unit v)) (b.free (range_of h) with_p.0 with_q.0) (b.one (kept_unit v) with_p.1 with_q.1),
          hist_both p q c b h v (record { range = span some; some = some }) with_p.0 with_q.0,
        )
    by false e none = (refl, b)
goes_to (WideArc from to count) p q c b span like none = (refl, record { kept_q = b.kept_q; kept_c = b.kept_c; free = b.free; one = b.one; none = b.none })
goes_to (WideBlock addr count) p q c b span like none = (refl, record { kept_q = b.kept_q; kept_c = b.kept_c; free = b.free; one = b.one; none = b.none })

all_go : (recs : List WideRec) (p q c : Content) → IsBoth p q c → AllByRecursion HasSpan recs → AllByRecursion (IsLike p) recs → conflict_of q recs ≡ None → conflict_of c recs ≡ None
all_go [] p q c b spans like none = refl
all_go (r ∷ recs) p q c b spans like none =
    let parts = parts_none (record_conflict q r) (conflict_of (with_record r q) recs) none in
    let one = goes_to r p q c b spans.0 like.0 parts.0 in
    none_or (record_conflict c r) (conflict_of (with_record r c) recs) one.0 (all_go recs p (with_record r q) (with_record r c) one.1 spans.1 like.1 parts.1)

at_first : (p : Content) → AllByRecursion IsKept p.hists → IsBoth p empty_content p
at_first p kept = record { kept_q = tt; kept_c = kept; free = λ r of_p of_q. of_p; one = λ u of_p of_q. of_p; none = λ e. refl }

-- ---- units

-- the first unit stays
unit_stays : (recs : List WideRec) (c : Content) (u : units.Unit) → c.«unit» ≡ Some u → (with_records recs c).«unit» ≡ Some u
unit_stays [] c u is = is
unit_stays (WideHist h v ∷ recs) c u is = unit_stays recs (with_record (WideHist h v) c) u (by (has_counters h))
  where
    by : (t : Bool) → (if t then record c { hists = put_hist h c.hists; «unit» = Some (unwrap_or c.«unit» (kept_unit v)) } else c).«unit» ≡ Some u
    by true = ap (λ (o : Option units.Unit). Some (unwrap_or o (kept_unit v))) is
    by false = is
unit_stays (WideArc from to count ∷ recs) c u is = unit_stays recs (with_record (WideArc from to count) c) u is
unit_stays (WideBlock addr count ∷ recs) c u is = unit_stays recs (with_record (WideBlock addr count) c) u is

-- a histogram with counters has this unit
abbrev HasUnit : Option units.Unit → WideRec → Type 0
HasUnit o (WideHist h v) = 0 < length h.counters → o ≡ Some (kept_unit v)
HasUnit o (WideArc from to count) = ⊤
HasUnit o (WideBlock addr count) = ⊤

first_unit : (o : Option units.Unit) (x : units.Unit) → unit_conflict o x ≡ None → unwrap_or o x ≡ x
first_unit None x none = refl
first_unit (Some y) x none = same_unit y x none

-- without conflict all have the same unit
one_unit : (recs : List WideRec) (c : Content) → conflict_of c recs ≡ None → AllByRecursion (HasUnit (with_records recs c).«unit») recs
one_unit [] c none = tt
one_unit (WideHist h v ∷ recs) c none =
    let parts = parts_none (record_conflict c (WideHist h v)) (conflict_of (with_record (WideHist h v) c) recs) none in
    (by parts.0, one_unit recs (with_record (WideHist h v) c) parts.1)
  where
    next : Content
    next = with_record (WideHist h v) c

    at : (t : Bool) → has_counters h ≡ t → 0 < length h.counters → (if t then conflict_with c.hists c.«unit» (range_of h) (kept_unit v) else None) ≡ None
        → (if t then record c { hists = put_hist h c.hists; «unit» = Some (unwrap_or c.«unit» (kept_unit v)) } else c).«unit» ≡ Some (kept_unit v)
    at true e some none = ap (λ (u : units.Unit). Some u) (first_unit c.«unit» (kept_unit v) (parts_none (range_conflict c.hists (range_of h)) (unit_conflict c.«unit» (kept_unit v)) none).1)
    at false e some none = absurd (let t : true ≡ false = sym (lt-ltb 0 (length h.counters) some) ∙ e in cc)

    by : record_conflict c (WideHist h v) ≡ None → 0 < length h.counters → (with_records recs next).«unit» ≡ Some (kept_unit v)
    by none some = unit_stays recs next (kept_unit v) (at (has_counters h) refl some none)
one_unit (WideArc from to count ∷ recs) c none = search (parts_none, one_unit recs)
one_unit (WideBlock addr count ∷ recs) c none = search (parts_none, one_unit recs)

-- ---- each record has no conflict with the other content

each_none : (f : Hist → Option Unlike) (hs : List Hist) → slice_get (filter_map f hs) 0 ≡ None → AllByRecursion (λ h. f h ≡ None) hs
each_none f [] none = tt
each_none f (h ∷ hs) none = by (f h) refl (λ later. each_none f hs later)
  where
    by : (o : Option Unlike) → f h ≡ o → (slice_get (filter_map f hs) 0 ≡ None → AllByRecursion (λ h. f h ≡ None) hs) → AllByRecursion (λ h. f h ≡ None) (h ∷ hs)
    by None e rest = (e, rest (rw e at none))
    by (Some x) e rest = absurd (let found : Some x ≡ None = rw e at none in cc)

-- this range and the unit, where there is one, have no conflict with p
abbrev IsFree : Content → Option units.Unit → HistRange → Type 0
IsFree p o r = (u : units.Unit) → o ≡ Some u → (range_conflict p.hists r ≡ None) × (unit_conflict p.«unit» (kept_unit u) ≡ None)

all_free : (p : Content) (o : Option units.Unit) (hs : List Hist) → AllByRecursion IsKept hs → AllByRecursion (λ h. option_and_then (hist_conflict p h) o ≡ None) hs → AllByRecursion (λ h. IsFree p o (range_of h)) hs
all_free p o [] kept none = tt
all_free p o (h ∷ hs) kept none = (mine, all_free p o hs kept.1 none.1)
  where
    mine : IsFree p o (range_of h)
    mine u is =
        let alone : hist_conflict p h u ≡ None = sym (ap (option_and_then (hist_conflict p h)) is) ∙ none.0 in
        parts_none (range_conflict p.hists (range_of h)) (unit_conflict p.«unit» (kept_unit u)) (rw (some_counters h kept.0) at alone)

likes : (p : Content) (o : Option units.Unit) (recs : List WideRec) → AllByRecursion (IsFree p o) (map range_of (filter_map hist_in recs)) → AllByRecursion (HasUnit o) recs → AllByRecursion (IsLike p) recs
likes p o [] free has = tt
likes p o (WideHist h v ∷ recs) free has = by (has_counters h) refl free (λ later. likes p o recs later has.1)
  where
    like : IsFree p o (range_of h) → IsLike p (WideHist h v)
    like mine some =
        let both = mine (kept_unit v) (has.0 some) in
        (both.0, subst (λ (u : units.Unit). unit_conflict p.«unit» u ≡ None) (unit_twice v) both.1)

    by : (t : Bool) → has_counters h ≡ t → AllByRecursion (IsFree p o) (map range_of (cons_option (if t then Some h else None) (filter_map hist_in recs)))
        → (AllByRecursion (IsFree p o) (map range_of (filter_map hist_in recs)) → AllByRecursion (IsLike p) recs) → AllByRecursion (IsLike p) (WideHist h v ∷ recs)
    by true e free rest = (like free.0, rest free.1)
    by false e free rest = ((λ some. absurd (let t : true ≡ false = sym (lt-ltb 0 (length h.counters) some) ∙ e in cc)), rest free)
likes p o (WideArc from to count ∷ recs) free has = (tt, likes p o recs free has.1)
likes p o (WideBlock addr count ∷ recs) free has = (tt, likes p o recs free has.1)

-- ---- so they have none one after the other

both_parts : (a b : List WideRec) → AllByRecursion HasSpan (a ++ b) → AllByRecursion HasSpan a × AllByRecursion HasSpan b
both_parts [] b all = (tt, all)
both_parts (r ∷ a) b all = let rest = both_parts a b all.1 in ((all.0, rest.0), rest.1)

joined : (a b : List WideRec) (c : Content) → conflict_of c a ≡ None → conflict_of (with_records a c) b ≡ None → conflict_of c (a ++ b) ≡ None
joined [] b c first second = second
joined (r ∷ a) b c first second =
    let parts = parts_none (record_conflict c r) (conflict_of (with_record r c) a) first in
    none_or (record_conflict c r) (conflict_of (with_record r c) (a ++ b)) parts.0 (joined a b (with_record r c) parts.1 second)

pub alike_joined : (a b : List WideRec) → All HasSpan (a ++ b) → conflict_of empty_content a ≡ None → conflict_of empty_content b ≡ None → clash_of (content_of a) (content_of b) ≡ None → conflict_of empty_content (a ++ b) ≡ None
alike_joined a b spans first second none =
    let parts = both_parts a b (recursion_from_All HasSpan (a ++ b) spans) in
    let of_b = All-from_recursion HasSpan b parts.1 in
    let p = content_of a in
    let q = content_of b in
    let o = q.«unit» in
    let kept_a = hists_kept a (All-from_recursion HasSpan a parts.0) in
    let kept_b = hists_kept b of_b in
    let clear = all_free p o q.hists kept_b (each_none (λ h. option_and_then (hist_conflict p h) o) q.hists none) in
    let ranges = All-map (IsFree p o) range_of q.hists (All-from_recursion (λ (h : Hist). IsFree p o (range_of h)) q.hists clear) in
    let those = (ranges_of_content b of_b second).those in
    let given : List HistRange = map range_of (filter_map hist_in b) in
    let free : All (IsFree p o) given = λ k d inside. All-contains (IsFree p o) (map range_of q.hists) (get_or given k d) ranges ((those (get_or given k d)).1 (All-contains_itself given k d inside)) in
    let has = subst (λ (c : Content). AllByRecursion (HasUnit c.«unit») b) (sym (content_is_added b)) (one_unit b empty_content second) in
    let like = likes p o b (recursion_from_All (IsFree p o) given free) has in
    let rest = all_go b p empty_content p (at_first p kept_a) parts.1 like second in
    joined a b empty_content first (subst (λ (c : Content). conflict_of c b ≡ None) (content_is_added a) rest)
