-- What a histogram that takes its place changes of the conflicts.
use Rattle.std.proofs.Common.{◌≡◌, Bool, true, false, ltb, eqb, ◌&&◌, not, List, [], ◌∷◌, Option, Some, None, refl, sym, ap, subst, ◌∙◌, if◌then◌else◌}
use Rattle.std.specs.List.{AllByRecursion}
use Rattle.std.proofs.lemmas.Bool.{eqb-true}
use Rattle.gmon_data.specs.declared.hist.Hist.{Hist}
use Rattle.gmon_data.specs.declared.hist.HistRange.{HistRange}
use Rattle.gmon_data.specs.declared.refusal.Unlike.{Unlike}
use Rattle.gmon_data.specs.declared.refusal.Unlike.TheVariants.{Range}
use Rattle.gmon_data.specs.Hists.{put_hist, hist_sum, range_of, range_conflict, overlap, same_range, IsKept}
use Rattle.gmon_data.proofs.HistLemmas.{none_of, one_range, range-sum}

abbrev pub IsClear : HistRange → HistRange → Type 0
IsClear old new = (overlap old new && not (same_range old new)) ≡ false

-- histograms of its low address have its range
abbrev pub IsAlike : Hist → List Hist → Type 0
IsAlike h hs = AllByRecursion (λ k. k.low ≡ h.low → range_of k ≡ range_of h) hs

pub alike_of : (h : Hist) (hs : List Hist) → IsKept h → AllByRecursion IsKept hs → range_conflict hs (range_of h) ≡ None → IsAlike h hs
alike_of h [] mine kept none = tt
alike_of h (k ∷ ks) mine kept none =
    let parts = none_of (overlap (range_of k) (range_of h) && not (same_range (range_of k) (range_of h))) _ _ none in
    ((λ low. one_range (range_of k) (range_of h) kept.0.range mine.range low parts.0), alike_of h ks mine kept.1 parts.1)

none_from : (b : Bool) (x : Unlike) (o : Option Unlike) → b ≡ false → o ≡ None → (if b then Some x else o) ≡ None
none_from b x o e f = rw (e, f) refl

abbrev conflict_or : HistRange → HistRange → Option Unlike → Option Unlike
conflict_or old new o = if overlap old new && not (same_range old new) then Some (Range old new) else o

module _ (h : Hist) (new : HistRange) where
  -- without a conflict behind it, there was none before
  pub before_put : (hs : List Hist) → IsAlike h hs → range_conflict (put_hist h hs) new ≡ None → range_conflict hs new ≡ None
  before_put [] alike none = refl
  before_put (k ∷ ks) alike none = by (ltb k.low h.low) (eqb k.low h.low) refl none (before_put ks alike.1)
    where
      by : (b e : Bool) → eqb k.low h.low ≡ e → range_conflict (if b then k ∷ put_hist h ks else (if e then hist_sum k h ∷ ks else h ∷ k ∷ ks)) new ≡ None
          → (range_conflict (put_hist h ks) new ≡ None → range_conflict ks new ≡ None) → range_conflict (k ∷ ks) new ≡ None
      by true e eq none others =
          let parts = none_of (overlap (range_of k) new && not (same_range (range_of k) new)) _ _ none in
          none_from (overlap (range_of k) new && not (same_range (range_of k) new)) _ _ parts.0 (others parts.1)
      by false true eq none others =
          subst (λ (r : HistRange). conflict_or r new (range_conflict ks new) ≡ None) (range-sum k h (ap (λ (r : HistRange). r.count) (alike.0 (eqb-true k.low h.low eq)))) none
      by false false eq none others = (none_of (overlap (range_of h) new && not (same_range (range_of h) new)) _ _ none).1

  -- nor does it have one itself
  pub own_clear : (hs : List Hist) → IsAlike h hs → range_conflict (put_hist h hs) new ≡ None → IsClear (range_of h) new
  own_clear [] alike none = (none_of (overlap (range_of h) new && not (same_range (range_of h) new)) _ _ none).0
  own_clear (k ∷ ks) alike none = by (ltb k.low h.low) (eqb k.low h.low) refl none (own_clear ks alike.1)
    where
      by : (b e : Bool) → eqb k.low h.low ≡ e → range_conflict (if b then k ∷ put_hist h ks else (if e then hist_sum k h ∷ ks else h ∷ k ∷ ks)) new ≡ None
          → (range_conflict (put_hist h ks) new ≡ None → IsClear (range_of h) new) → IsClear (range_of h) new
      by true e eq none others = others (none_of (overlap (range_of k) new && not (same_range (range_of k) new)) _ _ none).1
      by false true eq none others =
          let same = alike.0 (eqb-true k.low h.low eq) in
          subst (λ (r : HistRange). IsClear r new) (range-sum k h (ap (λ (r : HistRange). r.count) same) ∙ same) (none_of (overlap (range_of (hist_sum k h)) new && not (same_range (range_of (hist_sum k h)) new)) _ _ none).0
      by false false eq none others = (none_of (overlap (range_of h) new && not (same_range (range_of h) new)) _ _ none).0

  -- without either there is none behind it
  pub after_put : (hs : List Hist) → IsAlike h hs → range_conflict hs new ≡ None → IsClear (range_of h) new → range_conflict (put_hist h hs) new ≡ None
  after_put [] alike none clear = none_from (overlap (range_of h) new && not (same_range (range_of h) new)) _ _ clear refl
  after_put (k ∷ ks) alike none clear = by (ltb k.low h.low) (eqb k.low h.low) refl (after_put ks alike.1 parts.1 clear)
    where
      parts : IsClear (range_of k) new × (range_conflict ks new ≡ None)
      parts = none_of (overlap (range_of k) new && not (same_range (range_of k) new)) _ _ none

      by : (b e : Bool) → eqb k.low h.low ≡ e → range_conflict (put_hist h ks) new ≡ None → range_conflict (if b then k ∷ put_hist h ks else (if e then hist_sum k h ∷ ks else h ∷ k ∷ ks)) new ≡ None
      by true e eq others = none_from (overlap (range_of k) new && not (same_range (range_of k) new)) _ _ parts.0 others
      by false true eq others =
          subst (λ (r : HistRange). conflict_or r new (range_conflict ks new) ≡ None) (sym (range-sum k h (ap (λ (r : HistRange). r.count) (alike.0 (eqb-true k.low h.low eq))))) none
      by false false eq others = none_from (overlap (range_of h) new && not (same_range (range_of h) new)) _ _ clear none
