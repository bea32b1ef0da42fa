-- The ranges of the histograms of a content.
use Rattle.std.proofs.Common.{◌≡◌, ◌↔◌, ◌⊎◌, inl, inr, ℕ, suc, ◌<◌, Bool, true, false, ltb, eqb, ◌&&◌, not, List, [], ◌∷◌, length, map, filter_map, get_or, Contains, None, refl, sym, ap, subst, if◌then◌else◌, ⊎_elim, arith}
use Rattle.std.proofs.lemmas.Bool.{eqb-true, ltb-true}
use Rattle.std.proofs.lemmas.List.Elements.{recursion_from_All}
use Rattle.std.specs.List.{All, AllByRecursion}
use Rattle.gmon_data.specs.declared.hist.Hist.{Hist}
use Rattle.gmon_data.specs.declared.hist.HistRange.{HistRange}
use Rattle.gmon_data.specs.Content.{Content, WideRec, WideHist, WideArc, WideBlock, conflict_of, content_of, empty_content, hist_in, record_conflict, with_hist, with_records, HasSpan}
use Rattle.gmon_data.specs.Hists.{conflict_with, has_counters, hist_sum, kept_unit, overlap, put_hist, range_conflict, range_of, same_range, unit_conflict, IsApart, IsKept}
use Rattle.gmon_data.specs.Laws.{HaveRangesOf}
use Rattle.gmon_data.proofs.HistLemmas.{all_kept, apart_put, first_none, none_of, range-sum}
use Rattle.gmon_data.proofs.RecordLemmas.{content-more, parts_none}

-- ---- elements

head_in : {A : Type 0} (x : A) (xs : List A) → Contains (x ∷ xs) x
head_in x xs = (0, omega arith, refl)

tail_in : {A : Type 0} (y x : A) (xs : List A) → Contains xs x → Contains (y ∷ xs) x
tail_in y x xs h = (suc h.0, (let lt : h.0 < length xs = h.1 in let more : suc h.0 < suc (length xs) = omega (arith, lt) in more), h.2)

in_cases : {A : Type 0} (y x : A) (xs : List A) → Contains (y ∷ xs) x → (y ≡ x) ⊎ Contains xs x
in_cases {A} y x xs h = by h.0 h.1 h.2
  where
    by : (k : ℕ) → k < length (y ∷ xs) → get_or (y ∷ xs) k x ≡ x → (y ≡ x) ⊎ Contains xs x
    by k lt is = grind arith

-- ---- one histogram more

module _ (h : Hist) (mine : IsKept h) (r : HistRange) where
  sum_range : (k : Hist) → IsKept k → k.low ≡ h.low → (overlap (range_of k) (range_of h) && not (same_range (range_of k) (range_of h))) ≡ false
      → (range_of k ≡ range_of h) × (range_of (hist_sum k h) ≡ range_of k)
  sum_range k kept low none = grind (arith, range-sum)

  abbrev Kept : List Hist → Type 0
  Kept hs = Contains (map range_of hs) r

  pub put_in : (hs : List Hist) → range_conflict hs (range_of h) ≡ None → AllByRecursion IsKept hs → Kept (put_hist h hs) ↔ ((range_of h ≡ r) ⊎ Kept hs)
  put_in [] none kept = (in_cases (range_of h) r [], λ w. ⊎_elim (λ is. subst (λ (x : HistRange). Contains (range_of h ∷ []) x) is (head_in (range_of h) [])) (λ w. tail_in (range_of h) r [] w) w)
  put_in (k ∷ ks) none kept = by (ltb k.low h.low) (eqb k.low h.low) refl (put_in ks parts.1 kept.1)
    where
      parts : ((overlap (range_of k) (range_of h) && not (same_range (range_of k) (range_of h))) ≡ false) × (range_conflict ks (range_of h) ≡ None)
      parts = none_of (overlap (range_of k) (range_of h) && not (same_range (range_of k) (range_of h))) _ _ none

      first : (x : Hist) (xs : List Hist) → range_of x ≡ r → Kept (x ∷ xs)
      first x xs is = subst (λ (y : HistRange). Contains (map range_of (x ∷ xs)) y) is (head_in (range_of x) (map range_of xs))

      later : (x : Hist) (xs : List Hist) → Kept xs → Kept (x ∷ xs)
      later x xs w = tail_in (range_of x) r (map range_of xs) w

      by : (b e : Bool) → eqb k.low h.low ≡ e → Kept (put_hist h ks) ↔ ((range_of h ≡ r) ⊎ Kept ks)
          → Kept (if b then k ∷ put_hist h ks else (if e then hist_sum k h ∷ ks else h ∷ k ∷ ks)) ↔ ((range_of h ≡ r) ⊎ Kept (k ∷ ks))
      by true e eq others = grind (arith, later)
      by false true eq others = grind (arith, sum_range, eqb-true)
      by false false eq others = search (⊎_elim, first, later, in_cases)

-- ---- records

none_in : {A : Type 0} (x : A) → Contains [] x → ⊥
none_in x h = let lt : h.0 < 0 = h.1 in omega (arith, lt)

-- the ranges that are kept after records are those from before and those of the records
pub record AreKept (r : HistRange) (old given new : List Hist) : Type 0 where
  pub from_these : Contains (map range_of new) r → Contains (map range_of old) r ⊎ Contains (map range_of given) r
  pub old_stay : Contains (map range_of old) r → Contains (map range_of new) r
  pub given_stay : Contains (map range_of given) r → Contains (map range_of new) r
  pub kept : AllByRecursion IsKept new
  pub apart : IsApart new

unchanged : (r : HistRange) (hs : List Hist) → AllByRecursion IsKept hs → IsApart hs → AreKept r hs [] hs
unchanged r hs kept apart = record { from_these = λ w. inl w; old_stay = λ w. w; given_stay = λ w. absurd (none_in r w); kept = kept; apart = apart }

one_kept : (r : HistRange) (h : Hist) (given hs new : List Hist) → range_conflict hs (range_of h) ≡ None → IsKept h → AllByRecursion IsKept hs
    → AreKept r (put_hist h hs) given new → AreKept r hs (h ∷ given) new
one_kept r h given hs new none mine kept a = record {
  from_these = λ w. ⊎_elim (λ v. ⊎_elim (λ is. inr (mine_in is)) (λ u. inl u) (put.0 v)) (λ v. inr (tail_in (range_of h) r (map range_of given) v)) (a.from_these w);
  old_stay = λ w. a.old_stay (put.1 (inr w));
  given_stay = λ w. ⊎_elim (λ is. a.old_stay (put.1 (inl is))) (λ v. a.given_stay v) (in_cases (range_of h) r (map range_of given) w);
  kept = a.kept;
  apart = a.apart;
}
  where
    put : Contains (map range_of (put_hist h hs)) r ↔ ((range_of h ≡ r) ⊎ Contains (map range_of hs) r)
    put = put_in h mine r hs none kept

    mine_in : range_of h ≡ r → Contains (map range_of (h ∷ given)) r
    mine_in is = subst (λ (x : HistRange). Contains (map range_of (h ∷ given)) x) is (head_in (range_of h) (map range_of given))

pub ranges_with : (r : HistRange) (recs : List WideRec) (c : Content) → AllByRecursion HasSpan recs → conflict_of c recs ≡ None
    → AllByRecursion IsKept c.hists → IsApart c.hists → AreKept r c.hists (filter_map hist_in recs) (with_records recs c).hists
ranges_with r [] c spans none kept apart = unchanged r c.hists kept apart
ranges_with r (WideArc from to count ∷ recs) c spans none kept apart = ranges_with r recs _ spans.1 none kept apart
ranges_with r (WideBlock addr count ∷ recs) c spans none kept apart = ranges_with r recs _ spans.1 none kept apart
ranges_with r (WideHist h u ∷ recs) c spans none kept apart = by (has_counters h) refl (ranges_with r recs (with_hist h u c) spans.1 parts.1)
  where
    parts : (record_conflict c (WideHist h u) ≡ None) × (conflict_of (with_hist h u c) recs ≡ None)
    parts = parts_none (record_conflict c (WideHist h u)) (conflict_of (with_hist h u c) recs) none

    by : (b : Bool) → has_counters h ≡ b
        → (AllByRecursion IsKept (with_hist h u c).hists → IsApart (with_hist h u c).hists → AreKept r (with_hist h u c).hists (filter_map hist_in recs) (with_records recs (with_hist h u c)).hists)
        → AreKept r c.hists (filter_map hist_in (WideHist h u ∷ recs)) (with_records recs (with_hist h u c)).hists
    by true some rest =
        let lt = ltb-true 0 (length h.counters) some in
        let mine : IsKept h = record { range = spans.0 lt; some = lt } in
        let conflict : conflict_with c.hists c.«unit» (range_of h) (kept_unit u) ≡ None = rw some at parts.0 in
        let free = first_none (range_conflict c.hists (range_of h)) (unit_conflict c.«unit» (kept_unit u)) conflict in
        let after = rw some at rest in
        rw some (one_kept r h (filter_map hist_in recs) c.hists _ free mine kept (after (all_kept h c.hists mine kept) (apart_put h c.hists free mine.range kept apart)))
    by false some rest = let after = rw some at rest in rw some (after kept apart)

pub ranges_of_content : (recs : List WideRec) → All HasSpan recs → conflict_of empty_content recs ≡ None → HaveRangesOf (filter_map hist_in recs) (content_of recs).hists
unfolding content_of
ranges_of_content recs spans none =
    let same : (content_of recs).hists ≡ (with_records recs empty_content).hists = ap (λ (c : Content). c.hists) (content-more [] recs) in
    let all = λ (r : HistRange). ranges_with r recs empty_content (recursion_from_All HasSpan recs spans) none tt tt in
    let any : HistRange = record { low = 0; high = 0; count = 0 } in
    subst (HaveRangesOf (filter_map hist_in recs)) (sym same) (record {
      those = λ r. (λ w. ⊎_elim (λ v. absurd (none_in r v)) (λ v. v) ((all r).from_these w), (all r).given_stay);
      apart = (all any).apart;
      some = (all any).kept;
    })
