-- A profile without some arcs, put together from its parts.
use Rattle.std.proofs.Common.{◌≡◌, ℕ, ◌+◌, ◌<◌, ◌≤◌, Bool, true, false, not, cond, nat_eq, List, [], ◌∷◌, ◌++◌, length, map, drop, fold, slice_get, Some, refl, sym, ap, subst, ◌∙◌, arith}
use Rattle.std.specs.Prelude.{filter}
use Rattle.std.specs.List.{AllByRecursion, IsDistinct}
use Rattle.std.specs.Map.{keys_of}
use Rattle.std.proofs.lemmas.Bool.{eqb-true}
use Rattle.std.proofs.lemmas.List.Sums.{sum_by-cons}
use Rattle.gmon_data.specs.declared.hist.Hist.{Hist}
use Rattle.gmon_data.specs.declared.refusal.AddRefusal.{AddRefusal}
use Rattle.gmon_data.specs.declared.refusal.AddRefusal.TheVariants as answers
use Rattle.gmon_data.specs.declared.refusal.Unlike.{Unlike}
use Rattle.gmon_data.specs.Hists.{put_hist, IsApart, IsKept, IsUnlike}
use Rattle.gmon_data.specs.Tally.{tally, tally_total}
use Rattle.gmon_data.specs.Content.{Content, PairFits, IsProfile, IsWithin, WideRec, empty_content, same_ends, with_arc, with_records}
use Rattle.gmon_data.proofs.ContentLemmas.{pair-equal, pair-self, same-self}
use Rattle.gmon_data.proofs.RecordLemmas.{IsUnderway, cut_at, one_added, one_more, within_next}
use Rattle.profile_sum.specs.Sum.{arc_record, block_record, clash_of, hist_records, sum_of}
use Rattle.profile_sum.proofs.ClashLemmas.{no_clash}
use Rattle.profile_sum.proofs.SumLemmas.{all_added, arcs_fit, blocks_fit, hists_fit}
use Rattle.elf32_syms.specs.declared.image.Symbol.{Symbol}
use Rattle.arc_filter.specs.Cuts.{is_cut, stays, without_cuts}

-- ---- fewer entries

module _ {K : Type 0} (same : K → K → Bool) (p : K × ℕ → Bool) where
  apart_still : (k : K) (es : List (K × ℕ)) → AllByRecursion (λ y. same k y ≡ false) (keys_of es) → AllByRecursion (λ y. same k y ≡ false) (keys_of (filter p es))
  apart_still k [] apart = tt
  apart_still k (e ∷ es) apart = by (p e) (apart_still k es apart.1)
    where
      by : (b : Bool) → AllByRecursion (λ y. same k y ≡ false) (keys_of (filter p es)) → AllByRecursion (λ y. same k y ≡ false) (keys_of (cond b (e ∷ filter p es) (filter p es)))
      by true rest = (apart.0, rest)
      by false rest = rest

  pub distinct_still : (es : List (K × ℕ)) → IsDistinct same (keys_of es) → IsDistinct same (keys_of (filter p es))
  unfolding IsDistinct
  distinct_still [] distinct = tt
  distinct_still (e ∷ es) distinct = by (p e) (distinct_still es distinct.1)
    where
      by : (b : Bool) → IsDistinct same (keys_of (filter p es)) → IsDistinct same (keys_of (cond b (e ∷ filter p es) (filter p es)))
      by true rest = (apart_still e.0 es distinct.0, rest)
      by false rest = rest

  pub total_less : (es : List (K × ℕ)) → tally_total (filter p es) ≤ tally_total es
  total_less [] = omega arith
  total_less (e ∷ es) = by (p e) (total_less es)
    where
      by : (b : Bool) → tally_total (filter p es) ≤ tally_total es → tally_total (cond b (e ∷ filter p es) (filter p es)) ≤ tally_total (e ∷ es)
      by true rest = omega (arith, rest, sum_by-cons (λ (x : K × ℕ). x.1) e (filter p es), sum_by-cons (λ (x : K × ℕ). x.1) e es)
      by false rest = omega (arith, rest, sum_by-cons (λ (x : K × ℕ). x.1) e es)

  pub fewer : (es : List (K × ℕ)) → length (filter p es) ≤ length es
  fewer [] = omega arith
  fewer (e ∷ es) = by (p e) (fewer es)
    where
      by : (b : Bool) → length (filter p es) ≤ length es → length (cond b (e ∷ filter p es) (filter p es)) ≤ length (e ∷ es)
      by true rest = omega (arith, rest)
      by false rest = omega (arith, rest)

all_still : {K : Type 0} (P : K → Type 0) (p : K → Bool) (xs : List K) → AllByRecursion P xs → AllByRecursion P (filter p xs)
all_still P p [] all = tt
all_still {K} P p (x ∷ xs) all = by (p x) (all_still P p xs all.1)
  where
    by : (b : Bool) → AllByRecursion P (filter p xs) → AllByRecursion P (cond b (x ∷ filter p xs) (filter p xs))
    by true rest = (all.0, rest)
    by false rest = rest

-- what is left is a profile
pub profile_left : (p : Content) (symbols : List Symbol) (cuts : List (List ℕ)) → IsProfile p → IsProfile (without_cuts p symbols cuts)
unfolding without_cuts
profile_left p symbols cuts is = record {
  within = record {
    samples = is.within.samples;
    counters = is.within.counters;
    calls = omega (arith, is.within.calls, total_less same_ends (stays symbols cuts) p.arcs);
    runs = is.within.runs;
    pairs = omega (arith, is.within.pairs, fewer same_ends (stays symbols cuts) p.arcs);
    addresses = is.within.addresses;
  };
  numbers = record {
    hists = is.numbers.hists;
    arcs = all_still PairFits (stays symbols cuts) p.arcs is.numbers.arcs;
    blocks = is.numbers.blocks;
    «unit» = is.numbers.«unit»;
  };
  hists = is.hists;
  apart = is.apart;
  «unit» = is.«unit»;
  arcs = distinct_still same_ends (stays symbols cuts) p.arcs is.arcs;
  blocks = is.blocks;
}

-- ---- a profile is what its parts add up to

module _ {K : Type 0} (same : K → K → Bool) (self : (k : K) → same k k ≡ true) (equal : (x y : K) → same x y ≡ true → x ≡ y) where
  abbrev added : List (K × ℕ) → K × ℕ → List (K × ℕ)
  added done e = tally same e.0 e.1 done

  -- an entry whose key doesn't come again stays where it is
  passed_over : (e : K × ℕ) (es done : List (K × ℕ)) → AllByRecursion (λ y. same e.0 y ≡ false) (keys_of es) → fold added (e ∷ done) es ≡ e ∷ fold added done es
  passed_over e [] done apart = refl
  passed_over e (f ∷ es) done apart = grind (arith, passed_over e es (tally same f.0 f.1 done) apart.1)

  pub tallied : (es : List (K × ℕ)) → IsDistinct same (keys_of es) → fold added [] es ≡ es
  unfolding IsDistinct
  tallied [] distinct = refl
  tallied (e ∷ es) distinct = passed_over e es [] distinct.0 ∙ ap (λ (l : List (K × ℕ)). e ∷ l) (tallied es distinct.1)

abbrev put : List Hist → Hist → List Hist
put done h = put_hist h done

hist_passed : (h : Hist) (hs done : List Hist) → h.low < h.high → AllByRecursion (λ k. h.high ≤ k.low) hs → fold put (h ∷ done) hs ≡ h ∷ fold put done hs
hist_passed h [] done some above = refl
hist_passed h (k ∷ ks) done some above = grind (arith, hist_passed h ks (put_hist k done) some above.1)

hists_put : (hs : List Hist) → AllByRecursion IsKept hs → IsApart hs → fold put [] hs ≡ hs
hists_put [] kept apart = refl
hists_put (h ∷ hs) kept apart = hist_passed h hs [] kept.0.range apart.0 ∙ ap (λ (l : List Hist). h ∷ l) (hists_put hs kept.1 apart.1)

pub sum_with_nothing : (q : Content) → IsProfile q → sum_of empty_content q ≡ q
sum_with_nothing q is =
    let hists = hists_put q.hists is.hists is.apart in
    let arcs = tallied same_ends pair-self pair-equal q.arcs is.arcs in
    let blocks = tallied nat_eq same-self eqb-true q.blocks is.blocks in
    λ i. record q { hists = hists i; arcs = arcs i; blocks = blocks i }

-- ---- the parts of what is left

module _ (p : Content) (symbols : List Symbol) (cuts : List (List ℕ)) (is : IsProfile p) where
  abbrev left : Content
  left = without_cuts p symbols cuts

  fits : IsWithin (sum_of empty_content left)
  fits = subst (λ (c : Content). IsWithin c) (sym (sum_with_nothing left (profile_left p symbols cuts is))) (profile_left p symbols cuts is).within

  abbrev with_hists : Content
  with_hists = with_records (hist_records p) empty_content

  abbrev with_arcs : Content
  with_arcs = with_records (map arc_record (filter (stays symbols cuts) p.arcs)) with_hists

  pub hists_within : (c : Content) → c ≡ empty_content → IsWithin (with_records (hist_records p) c)
  unfolding without_cuts
  hists_within c e = hists_fit empty_content left (profile_left p symbols cuts is) fits c e

  pub arcs_within : (c : Content) → c ≡ with_hists → IsWithin (with_records (map arc_record (filter (stays symbols cuts) p.arcs)) c)
  unfolding without_cuts
  arcs_within c e = arcs_fit empty_content left (profile_left p symbols cuts is) fits c e

  pub blocks_within : (c : Content) → c ≡ with_arcs → IsWithin (with_records (map block_record p.blocks) c)
  unfolding without_cuts
  blocks_within c e = blocks_fit empty_content left (profile_left p symbols cuts is) fits c e

  pub all_put : with_records (map block_record p.blocks) with_arcs ≡ left
  unfolding without_cuts
  all_put = all_added empty_content left (profile_left p symbols cuts is) ∙ sum_with_nothing left (profile_left p symbols cuts is)

-- ---- no words

all_pass : {X : Type 0} (p : X → Bool) → ((x : X) → p x ≡ true) → (xs : List X) → filter p xs ≡ xs
all_pass p passes [] = refl
all_pass {X} p passes (x ∷ xs) = rw (passes x) (ap (λ (l : List X). x ∷ l) (all_pass p passes xs))

pub nothing_cut : (p : Content) (symbols : List Symbol) → without_cuts p symbols [] ≡ p
unfolding without_cuts is_cut
nothing_cut p symbols = λ i. record p { arcs = all_pass (stays symbols []) (λ arc. refl) p.arcs i }

-- ---- nothing is unlike nothing

pub unlike_nothing : (refusal : AddRefusal) (unlike : Unlike) (c q : Content) → refusal ≡ answers.Unlike unlike → c ≡ empty_content → IsUnlike refusal (clash_of c q) → ⊥
unlike_nothing refusal unlike c q is none because = grind (arith, no_clash)

-- ---- arcs that stay are put one by one

module _ (symbols : List Symbol) (cuts : List (List ℕ)) (arcs : List ((ℕ × ℕ) × ℕ)) where
  abbrev pub left_from : ℕ → List WideRec
  left_from i = map arc_record (filter (stays symbols cuts) (drop i arcs))

  abbrev pub all_left : List WideRec
  all_left = map arc_record (filter (stays symbols cuts) arcs)

  module _ (i : ℕ) (old now : Content) (w : IsUnderway all_left (left_from i) old now) (arc : (ℕ × ℕ) × ℕ) (below : i < length arcs) (at : slice_get arcs i ≡ Some arc) where
    next : (gone : Bool) → is_cut symbols cuts arc.0.0 arc.0.1 ≡ gone → IsUnderway all_left (map arc_record (cond (not gone) (arc ∷ filter (stays symbols cuts) (drop (i + 1) arcs)) (filter (stays symbols cuts) (drop (i + 1) arcs)))) old now
    next gone is = grind (arith, cut_at)

    kept : is_cut symbols cuts arc.0.0 arc.0.1 ≡ false → IsUnderway all_left ((arc_record arc ∷ []) ++ left_from (i + 1)) old now
    kept = next false

    pub cut_next : is_cut symbols cuts arc.0.0 arc.0.1 ≡ true → IsUnderway all_left (left_from (i + 1)) old now
    cut_next = next true

    pub kept_within : is_cut symbols cuts arc.0.0 arc.0.1 ≡ false → IsWithin (with_records all_left old) → IsWithin (with_arc arc.0.0 arc.0.1 arc.1 now)
    kept_within is fits = within_next all_left (arc_record arc ∷ []) (left_from (i + 1)) old now (kept is) fits

    pub kept_next : is_cut symbols cuts arc.0.0 arc.0.1 ≡ false → (new : Content) → new ≡ with_arc arc.0.0 arc.0.1 arc.1 now → IsUnderway all_left (left_from (i + 1)) old new
    kept_next is new added = one_more all_left (arc_record arc ∷ []) (left_from (i + 1)) old now (kept is) new (one_added (arc_record arc) now new refl added)
