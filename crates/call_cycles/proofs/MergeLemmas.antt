-- Arcs by caller and callee: their calls, lists that are in order, and the merging of neighbours.
use Rattle.std.proofs.Common.{◌≡◌, ◌≢◌, ◌<◌, ◌≤◌, ◌⊎◌, ℕ, zero, suc, ◌+◌, ◌-◌, ◌&&◌, Bool, true, false, List, [], ◌∷◌, ◌++◌, length, get_or, take, refl, ap, sym, ◌∙◌, subst, inl, inr, ⊎_elim, arith, length-append}
use Rattle.std.specs.Prelude.{◌==◌, ◌||◌, if◌then◌else◌, slice_set}
use Rattle.std.specs.List.{All, flat_map, sum_by}
use Rattle.std.specs.List.Sorted.{IsPermutation, IsSorted}
use Rattle.std.specs.Ordering.{nat_cmp, is_lt, ordering_then}
use Rattle.std.specs.Cmp.{IsTotalOrder}
use Rattle.std.proofs.lemmas.Bool.{cases_eq, cases_lt, eqb-true, eqb-false, eq-eqb, ne_eqb}
use Rattle.std.proofs.lemmas.Bool.Decides.{nat_tests}
use Rattle.std.proofs.lemmas.Cmp.{on_total, then_total, nat_cmp_total}
use Rattle.std.proofs.lemmas.Grind.{take-set_at}
use Rattle.std.proofs.lemmas.List.{take_more, take_more_set, get_or_append_left, get_or_push, get_or-take, get_or_default, length-take-le, length_push}
use Rattle.std.proofs.lemmas.List.Elements.{All-push, All-weaker}
use Rattle.std.proofs.lemmas.List.Sorted.{ranks_by, sorted_far, sum_by-IsPermutation, All-permutation}
use Rattle.std.proofs.lemmas.List.Sums.{sum_by-cons, sum_by_push, sum_by_more_le_part, get_or-le-sum_by}
use Rattle.call_cycles.specs.declared.graphs.FunArc.{FunArc}
use Rattle.call_cycles.specs.Sums.{sum_below, when, numbers_below}
use Rattle.call_cycles.specs.Graph.{no_arc, IsArcBefore}
use Rattle.call_cycles.specs.Arcs.{AreInOrder, IsArcBelow}
use Rattle.call_cycles.specs.Calls.{arc_between, arcs_among, calls_in, count_of, by_ends}
use Rattle.call_cycles.specs.Merging.{AreMerged, IsUpTo}
use Rattle.call_cycles.proofs.SumLemmas.{sum_ext, sum_none, sum_flat, when_le}
use Rattle.call_cycles.proofs.ArcLemmas.{arcs_below, in_order, in_order_after}

-- the arc goes from f to g
abbrev goes : FunArc → ℕ → ℕ → Bool
goes a f g = a.caller == f && a.callee == g

-- ---- calls from one function to another

pub calls_in_none : (f g : ℕ) → calls_in [] f g ≡ 0
unfolding calls_in
calls_in_none f g = refl

pub calls_in_cons : (a : FunArc) (arcs : List FunArc) (f g : ℕ) → calls_in (a ∷ arcs) f g ≡ when (a.caller == f && a.callee == g) a.count + calls_in arcs f g
unfolding calls_in
calls_in_cons a arcs f g = sum_by-cons (λ (b : FunArc). when (goes b f g) b.count) a arcs

pub calls_in_more : (arcs : List FunArc) (a : FunArc) (f g : ℕ) → calls_in (arcs ++ a ∷ []) f g ≡ calls_in arcs f g + when (a.caller == f && a.callee == g) a.count
unfolding calls_in
calls_in_more arcs a f g = sum_by_push (λ (b : FunArc). when (goes b f g) b.count) arcs a

pub calls_in_moved : (arcs moved : List FunArc) → IsPermutation arcs moved → (f g : ℕ) → calls_in moved f g ≡ calls_in arcs f g
unfolding calls_in
calls_in_moved arcs moved is f g = sum_by-IsPermutation (λ (b : FunArc). when (goes b f g) b.count) arcs moved is

-- each arc has its part of the calls between its ends
pub count_le_calls : (arcs : List FunArc) (i : ℕ) → i < length arcs → (get_or arcs i no_arc).count ≤ calls_in arcs (get_or arcs i no_arc).caller (get_or arcs i no_arc).callee
unfolding calls_in
count_le_calls arcs i below = grind (arith, get_or-le-sum_by)

no_calls_in : (arcs : List FunArc) (f g : ℕ) → All (λ (a : FunArc). goes a f g ≡ false) arcs → calls_in arcs f g ≡ 0
no_calls_in [] f g none = calls_in_none f g
no_calls_in (a ∷ arcs) f g none =
    let first : when (goes a f g) a.count ≡ 0 = ap (λ (t : Bool). when t a.count) (none 0 no_arc (omega arith)) in
    let rest = no_calls_in arcs f g (λ i d below. none (suc i) d (omega arith)) in
    omega (arith, calls_in_cons a arcs f g)

-- ---- lists in order

goes_elsewhere : (p q f g : ℕ) → (f < p) ⊎ ((f ≡ p) × (g < q)) → (p == f && q == g) ≡ false
goes_elsewhere p q f g later = ⊎_elim (λ (lower : f < p). grind (arith, nat_tests)) (λ (same : (f ≡ p) × (g < q)). let less = same.1 in grind (arith, nat_tests)) later

rest_in_order : (a : FunArc) (arcs : List FunArc) → AreInOrder (a ∷ arcs) → AreInOrder arcs
rest_in_order a arcs rising i j less below = rising (suc i) (suc j) (omega arith) (omega arith)

first_in_order : (a : FunArc) (arcs : List FunArc) → AreInOrder (a ∷ arcs) → All (IsArcBefore a) arcs
first_in_order a arcs rising i d below = rw (get_or_default arcs i d no_arc below) (rising 0 (suc i) (omega arith) (omega arith))

before_all : (f g : ℕ) (arcs : List FunArc) → All (λ (a : FunArc). (f < a.caller) ⊎ ((f ≡ a.caller) × (g < a.callee))) arcs → calls_in arcs f g ≡ 0
before_all f g arcs later = no_calls_in arcs f g (λ i d below. goes_elsewhere (get_or arcs i d).caller (get_or arcs i d).callee f g (later i d below))

-- of two arcs one comes before the other, or they have the same ends
cases_ends : (p q f g : ℕ) → ((p < f) ⊎ ((p ≡ f) × (q < g))) ⊎ (((f < p) ⊎ ((f ≡ p) × (g < q))) ⊎ ((p ≡ f) × (q ≡ g)))
cases_ends p q f g = grind arith

before_trans : (p q f g m n : ℕ) → (p < f) ⊎ ((p ≡ f) × (q < g)) → (f < m) ⊎ ((f ≡ m) × (g < n)) → (p < m) ⊎ ((p ≡ m) × (q < n))
before_trans p q f g m n one two = grind arith

-- the calls at the ends of the first arc are those of this arc
first_calls : (a : FunArc) (arcs : List FunArc) → AreInOrder (a ∷ arcs) → calls_in (a ∷ arcs) a.caller a.callee ≡ a.count
first_calls a arcs rising = grind (arith, before_all a.caller a.callee arcs (first_in_order a arcs rising), calls_in_cons a arcs a.caller a.callee)

-- where all arcs come behind these ends, there are no calls between them
no_calls_before : (f g : ℕ) (b : FunArc) (arcs : List FunArc) → AreInOrder (b ∷ arcs) → (f < b.caller) ⊎ ((f ≡ b.caller) × (g < b.callee)) → calls_in (b ∷ arcs) f g ≡ 0
no_calls_before f g b arcs rising before =
    let rest = before_all f g arcs (λ i d below. let a = get_or arcs i d in before_trans f g b.caller b.callee a.caller a.callee before (first_in_order b arcs rising i d below)) in
    let both = calls_in_cons b arcs f g in
    let first : when (goes b f g) b.count ≡ 0 = ap (λ (t : Bool). when t b.count) (goes_elsewhere b.caller b.callee f g before) in
    omega arith

same_arc : (a b : FunArc) → a.caller ≡ b.caller → a.callee ≡ b.callee → a.count ≡ b.count → a ≡ b
same_arc a b callers callees counts = λ i. record { caller = callers i; callee = callees i; count = counts i }

-- arcs in order are known by their calls
one_list : (xs ys : List FunArc) → AreInOrder xs → AreInOrder ys → All (λ (a : FunArc). 0 < a.count) xs → All (λ (a : FunArc). 0 < a.count) ys
    → ((f g : ℕ) → calls_in xs f g ≡ calls_in ys f g) → xs ≡ ys
one_list [] [] rise_x rise_y some_x some_y same = refl
one_list [] (b ∷ ys) rise_x rise_y some_x some_y same =
    let count = some_y 0 no_arc (omega arith) in
    absurd (omega (arith, calls_in_none b.caller b.callee, first_calls b ys rise_y))
one_list (a ∷ xs) [] rise_x rise_y some_x some_y same =
    let count = some_x 0 no_arc (omega arith) in
    absurd (omega (arith, calls_in_none a.caller a.callee, first_calls a xs rise_x))
one_list (a ∷ xs) (b ∷ ys) rise_x rise_y some_x some_y same =
    ⊎_elim
    (λ (before : IsArcBefore a b).
    let none = no_calls_before a.caller a.callee b ys rise_y before in
    let some = first_calls a xs rise_x in
    let calls = same a.caller a.callee in
    let count = some_x 0 no_arc (omega arith) in
    absurd (omega arith))
    (λ (other : IsArcBefore b a ⊎ ((a.caller ≡ b.caller) × (a.callee ≡ b.callee))).
    ⊎_elim
    (λ (before : IsArcBefore b a).
    let none = no_calls_before b.caller b.callee a xs rise_x before in
    let some = first_calls b ys rise_y in
    let calls = same b.caller b.callee in
    let count = some_y 0 no_arc (omega arith) in
    absurd (omega arith))
    (λ (ends : (a.caller ≡ b.caller) × (a.callee ≡ b.callee)).
    let at : calls_in (b ∷ ys) a.caller a.callee ≡ calls_in (b ∷ ys) b.caller b.callee = ap (λ (f : ℕ). calls_in (b ∷ ys) f a.callee) ends.0 ∙ ap (calls_in (b ∷ ys) b.caller) ends.1 in
    let first : a ≡ b = same_arc a b ends.0 ends.1 (sym (first_calls a xs rise_x) ∙ same a.caller a.callee ∙ at ∙ first_calls b ys rise_y) in
    let rest : xs ≡ ys = one_list xs ys (rest_in_order a xs rise_x) (rest_in_order b ys rise_y) (λ i d below. some_x (suc i) d (omega arith)) (λ i d below. some_y (suc i) d (omega arith))
    (λ f g.
    let one = calls_in_cons a xs f g in
    let two = calls_in_cons b ys f g in
    let calls = same f g in
    let heads : when (goes a f g) a.count ≡ when (goes b f g) b.count = ap (λ (c : FunArc). when (goes c f g) c.count) first in
    omega arith) in
    ap (λ (c : FunArc). c ∷ xs) first ∙ ap (λ (zs : List FunArc). b ∷ zs) rest)
    other)
    (cases_ends a.caller a.callee b.caller b.callee)

-- ---- the calls of the arcs between n functions

sum_one : (n k : ℕ) (x : ℕ → ℕ) → k < n → sum_below n (λ i. when (i == k) (x i)) ≡ x k
sum_one zero k x below = absurd (omega arith)
sum_one (suc n) k x below =
    ⊎_elim
    (λ (at : n ≡ k).
    let before = sum_none n (λ i. when (i == k) (x i)) (λ i low. ap (λ (t : Bool). when t (x i)) (ne_eqb i k (λ q. omega arith))) in
    let last : when (n == k) (x n) ≡ x n = ap (λ (t : Bool). when t (x n)) (eq-eqb n k at) in
    let there : x n ≡ x k = ap x at in
    omega arith)
    (λ (apart : n ≢ k).
    let before = sum_one n k x (omega arith) in
    let last : when (n == k) (x n) ≡ 0 = ap (λ (t : Bool). when t (x n)) (ne_eqb n k apart) in
    omega arith)
    (cases_eq n k)

-- the calls from f to g that the arc from h to k has
between_calls : (calls : ℕ → ℕ → ℕ) (h k f g : ℕ) → f ≢ g → sum_by (λ (a : FunArc). when (goes a f g) a.count) (arc_between calls h k) ≡ when (h == f) (when (k == g) (calls h k))
between_calls calls h k f g apart = by (h == k) (calls h k == 0) (h == f) (k == g) refl refl refl refl
  where
    by : (same none from to : Bool) → (h == k) ≡ same → (calls h k == 0) ≡ none → (h == f) ≡ from → (k == g) ≡ to
        → sum_by (λ (a : FunArc). when (a.caller == f && a.callee == g) a.count) (if same || none then [] else record { caller = h; callee = k; count = calls h k } ∷ []) ≡ when from (when to (calls h k))
    by same none from to is also one two = grind (arith, eqb-true)

calls_among : (calls : ℕ → ℕ → ℕ) (n f g : ℕ) → f < n → g < n → f ≢ g → calls_in (arcs_among n calls) f g ≡ calls f g
unfolding calls_in arcs_among
calls_among calls n f g low_f low_g apart =
    let weight = λ (a : FunArc). when (goes a f g) a.count in
    sum_flat weight (λ h. flat_map (arc_between calls h) (numbers_below n)) n
    ∙ sum_ext n (λ h. sum_by weight (flat_map (arc_between calls h) (numbers_below n))) (λ h. when (h == f) (calls h g)) (λ h low.
    sum_flat weight (arc_between calls h) n
    ∙ sum_ext n (λ k. sum_by weight (arc_between calls h k)) (λ k. when (h == f) (when (k == g) (calls h k))) (λ k at. between_calls calls h k f g apart)
    ∙ row (h == f) h)
    ∙ sum_one n f (λ h. calls h g) low_f
  where
    row : (from : Bool) (h : ℕ) → sum_below n (λ k. when from (when (k == g) (calls h k))) ≡ when from (calls h g)
    row true h = sum_one n g (calls h) low_g
    row false h = sum_none n (λ k. 0) (λ k low. refl)

-- functions that no arc below n has
no_calls_past : (n f g : ℕ) (arcs : List FunArc) → All (IsArcBelow n) arcs → (n ≤ f) ⊎ ((n ≤ g) ⊎ (f ≡ g)) → calls_in arcs f g ≡ 0
no_calls_past n f g arcs below past =
    no_calls_in arcs f g (λ i d inside.
    let a = get_or arcs i d in
    let is = below i d inside in
    let low_f = is.caller in
    let low_g = is.callee in
    let apart = is.apart in
    elsewhere n a.caller a.callee f g low_f low_g apart past)
  where
    elsewhere : (n p q f g : ℕ) → p < n → q < n → p ≢ q → (n ≤ f) ⊎ ((n ≤ g) ⊎ (f ≡ g)) → (p == f && q == g) ≡ false
    elsewhere n p q f g low_p low_q apart past = grind arith

-- arcs between n functions, in order, are those that their calls make
pub arcs_by_calls : (n : ℕ) (arcs : List FunArc) → AreInOrder arcs → All (IsArcBelow n) arcs → arcs ≡ arcs_among n (calls_in arcs)
arcs_by_calls n arcs rising below =
    one_list arcs (arcs_among n (calls_in arcs)) rising (in_order (calls_in arcs) n)
    (All-weaker (IsArcBelow n) (λ (a : FunArc). 0 < a.count) (λ a is. is.called) arcs below)
    (All-weaker (IsArcBelow n) (λ (a : FunArc). 0 < a.count) (λ a is. is.called) (arcs_among n (calls_in arcs)) made)
    (λ f g.
    ⊎_elim
    (λ (low_f : f < n).
    ⊎_elim
    (λ (low_g : g < n).
    ⊎_elim
    (λ (same : f ≡ g). past f g (inr (inr same)))
    (λ (apart : f ≢ g). sym (calls_among (calls_in arcs) n f g low_f low_g apart))
    (cases_eq f g))
    (λ (high : n ≤ g). past f g (inr (inl high)))
    (cases_lt g n))
    (λ (high : n ≤ f). past f g (inl high))
    (cases_lt f n))
  where
    made : All (IsArcBelow n) (arcs_among n (calls_in arcs))
    made = arcs_below (calls_in arcs) n

    past : (f g : ℕ) → (n ≤ f) ⊎ ((n ≤ g) ⊎ (f ≡ g)) → calls_in arcs f g ≡ calls_in (arcs_among n (calls_in arcs)) f g
    past f g high = no_calls_past n f g arcs below high ∙ sym (no_calls_past n f g (arcs_among n (calls_in arcs)) made high)

-- ---- neighbours are merged

all_front : {X : Type 0} (P : X → Type 0) (xs ys : List X) → All P (xs ++ ys) → All P xs
all_front P xs ys all i d below = subst P (get_or_append_left xs ys d i below) (all i d (omega (arith, length-append xs ys)))

all_last : {X : Type 0} (P : X → Type 0) (xs : List X) (y : X) → All P (xs ++ y ∷ []) → P y
all_last P xs y all = subst P (get_or_push xs y y (length xs) refl) (all (length xs) y (omega (arith, length_push xs y)))

-- an arc that comes behind all others
pub merged_behind : (sorted arcs : List FunArc) (a : FunArc) → All (λ b. IsArcBefore b a) arcs → AreMerged sorted arcs → AreMerged (sorted ++ a ∷ []) (arcs ++ a ∷ [])
merged_behind sorted arcs a behind merged = record {
  rising = in_order_after arcs (a ∷ []) merged.rising (λ i j less below. absurd (omega arith)) (λ i j front back. let first : j ≡ 0 = omega arith in subst (λ (k : ℕ). IsArcBefore (get_or arcs i no_arc) (get_or (a ∷ []) k no_arc)) (sym first) (behind i no_arc front));
  calls = λ f g. calls_in_more arcs a f g ∙ ap (λ (x : ℕ). x + when (goes a f g) a.count) (merged.calls f g) ∙ sym (calls_in_more sorted a f g);
  below = λ n all. All-push (IsArcBelow n) arcs a (merged.below n (all_front (IsArcBelow n) sorted (a ∷ []) all)) (all_last (IsArcBelow n) sorted a all);
  up_to = λ f g all. All-push (IsUpTo f g) arcs a (merged.up_to f g (all_front (IsUpTo f g) sorted (a ∷ []) all)) (all_last (IsUpTo f g) sorted a all);
}

-- an arc with the ends of the last one
module _ (pre : List FunArc) (last a : FunArc) (callers : last.caller ≡ a.caller) (callees : last.callee ≡ a.callee) where
  abbrev pub both : FunArc
  both = record { caller = last.caller; callee = last.callee; count = last.count + a.count }

  pub both_calls : (f g : ℕ) → when (goes both f g) both.count ≡ when (goes last f g) last.count + when (goes a f g) a.count
  both_calls f g = ap (λ (x : ℕ). when (x == f && last.callee == g) (last.count + a.count)) callers ∙ ap (λ (y : ℕ). when (a.caller == f && y == g) (last.count + a.count)) callees
      ∙ split (goes a f g)
      ∙ ap (λ (x : ℕ). when (x == f && a.callee == g) last.count + when (goes a f g) a.count) (sym callers) ∙ ap (λ (y : ℕ). when (last.caller == f && y == g) last.count + when (goes a f g) a.count) (sym callees)
    where
      split : (t : Bool) → when t (last.count + a.count) ≡ when t last.count + when t a.count
      split t = grind arith

  -- the ends of the list are those that it had
  same_at : (i : ℕ) → i < length (pre ++ both ∷ []) → ((get_or (pre ++ both ∷ []) i no_arc).caller ≡ (get_or (pre ++ last ∷ []) i no_arc).caller) × ((get_or (pre ++ both ∷ []) i no_arc).callee ≡ (get_or (pre ++ last ∷ []) i no_arc).callee)
  same_at i below = grind (arith, get_or_append_left, length_push, get_or_push)

  still_in_order : AreInOrder (pre ++ last ∷ []) → AreInOrder (pre ++ both ∷ [])
  still_in_order rising i j less below =
      let long = length_push pre both in
      let was = length_push pre last in
      let one = same_at i (omega arith) in
      let two = same_at j below in
      rw (one.0, one.1, two.0, two.1) (rising i j less (omega arith))

  pub merged_into_last : (sorted : List FunArc) → AreMerged sorted (pre ++ last ∷ []) → AreMerged (sorted ++ a ∷ []) (pre ++ both ∷ [])
  merged_into_last sorted merged = record {
    rising = still_in_order merged.rising;
    calls = λ f g.
        let new = calls_in_more pre both f g in
        let old = calls_in_more pre last f g in
        let more = calls_in_more sorted a f g in
        let same = merged.calls f g in
        let parts = both_calls f g in
        omega arith;
    below = λ n all.
        let front = merged.below n (all_front (IsArcBelow n) sorted (a ∷ []) all) in
        let was = all_last (IsArcBelow n) pre last front in
        let some = was.called in
        All-push (IsArcBelow n) pre both (all_front (IsArcBelow n) pre (last ∷ []) front) (record { caller = was.caller; callee = was.callee; called = omega arith; apart = was.apart });
    up_to = λ f g all.
        let front = merged.up_to f g (all_front (IsUpTo f g) sorted (a ∷ []) all) in
        All-push (IsUpTo f g) pre both (all_front (IsUpTo f g) pre (last ∷ []) front) (all_last (IsUpTo f g) pre last front);
  }

-- where the last arc has other ends, all arcs come before one that comes behind or at their ends
pub all_before : (arcs : List FunArc) (a : FunArc) (n : ℕ) → n ≡ length arcs → 0 < n → AreInOrder arcs → All (IsUpTo a.caller a.callee) arcs
    → ((get_or arcs (n - 1) no_arc).caller ≡ a.caller → (get_or arcs (n - 1) no_arc).callee ≡ a.callee → ⊥) → All (λ b. IsArcBefore b a) arcs
all_before arcs a n long some rising up apart i d inside =
    rw (get_or_default arcs i d no_arc inside)
    (⊎_elim
    (λ (at : i ≡ n - 1). subst (λ (k : ℕ). IsArcBefore (get_or arcs k no_arc) a) (sym at) last_before)
    (λ (other : i ≢ n - 1).
    let b = get_or arcs i no_arc in
    before_trans b.caller b.callee last.caller last.callee a.caller a.callee (rising i (n - 1) (omega arith) (omega arith)) last_before)
    (cases_eq i (n - 1)))
  where
    last : FunArc
    last = get_or arcs (n - 1) no_arc

    last_before : IsArcBefore last a
    last_before = strictly last.caller last.callee a.caller a.callee (up (n - 1) no_arc (omega arith)) apart
      where
        strictly : (p q f g : ℕ) → (p < f) ⊎ ((p ≡ f) × (q ≤ g)) → (p ≡ f → q ≡ g → ⊥) → (p < f) ⊎ ((p ≡ f) × (q < g))
        strictly p q f g up apart = ⊎_elim (λ (less : p < f). inl less) (λ (same : (p ≡ f) × (q ≤ g)). let le = same.1 in let other : q ≢ g = apart same.0 in inr (same.0, omega arith)) up

-- ---- sorted arcs

ends_total : IsTotalOrder (λ (p q : ℕ × ℕ). ordering_then (nat_cmp p.0 q.0) (nat_cmp p.1 q.1))
ends_total = then_total (on_total (λ (p : ℕ × ℕ). p.0) nat_cmp_total) (on_total (λ (p : ℕ × ℕ). p.1) nat_cmp_total)

up_to_later : (p q f g : ℕ) → is_lt (ordering_then (nat_cmp f p) (nat_cmp g q)) ≡ false → (p < f) ⊎ ((p ≡ f) × (q ≤ g))
up_to_later p q f g later = grind arith

-- those in front of an arc go up to its ends
pub front_up_to : (arcs : List FunArc) → IsSorted by_ends arcs → (i : ℕ) → i < length arcs → All (IsUpTo (get_or arcs i no_arc).caller (get_or arcs i no_arc).callee) (take i arcs)
front_up_to arcs sorted i below k d inside =
    let long : k < i = omega (arith, length-take-le i arcs (omega arith)) in
    let a = get_or arcs i no_arc in
    let b = get_or arcs k no_arc in
    let far : is_lt (by_ends a b) ≡ false = sorted_far (λ x y. is_lt (by_ends x y)) (ranks_by ends_total (λ (x : FunArc). (x.caller, x.callee))) arcs sorted k i no_arc (omega arith) below in
    rw (get_or-take i arcs k d long, get_or_default arcs k d no_arc (omega arith)) (up_to_later b.caller b.callee a.caller a.callee far)

-- ---- arcs that are merged in place: the first n of a list are made

module _ (arcs : List FunArc) (n : ℕ) (a : FunArc) (inside : n < length arcs) where
  abbrev last_made : FunArc
  last_made = get_or arcs (n - 1) no_arc

  made_split : 0 < n → take n arcs ≡ take (n - 1) arcs ++ last_made ∷ []
  made_split some = let whole : n ≡ (n - 1) + 1 = omega arith in ap (λ (k : ℕ). take k arcs) whole ∙ take_more arcs (n - 1) no_arc (omega arith)

  pub last_fits : (bound : ℕ) → 0 < n → ((f g : ℕ) → calls_in (take n arcs) f g + a.count < bound) → (get_or arcs (n - 1) no_arc).count + a.count < bound
  last_fits bound some fits = grind (arith, length-take-le, get_or-take, count_le_calls)

  module _ (sorted : List FunArc) (merged : AreMerged sorted (take n arcs)) where
    pub made_into_last : 0 < n → (get_or arcs (n - 1) no_arc).caller ≡ a.caller → (get_or arcs (n - 1) no_arc).callee ≡ a.callee
        → AreMerged (sorted ++ a ∷ []) (take n (slice_set arcs (n - 1) (record { caller = (get_or arcs (n - 1) no_arc).caller; callee = (get_or arcs (n - 1) no_arc).callee; count = (get_or arcs (n - 1) no_arc).count + a.count })))
    made_into_last some callers callees =
        let new : FunArc = both (take (n - 1) arcs) last_made a callers callees in
        let now : take n (slice_set arcs (n - 1) new) ≡ take (n - 1) arcs ++ new ∷ [] = take-set_at arcs (n - 1) n new (omega arith) (omega arith) in
        subst (AreMerged (sorted ++ a ∷ [])) (sym now) (merged_into_last (take (n - 1) arcs) last_made a callers callees sorted (subst (AreMerged sorted) (made_split some) merged))

    pub made_behind : All (IsUpTo a.caller a.callee) sorted → (0 < n → (get_or arcs (n - 1) no_arc).caller ≡ a.caller → (get_or arcs (n - 1) no_arc).callee ≡ a.callee → ⊥)
        → AreMerged (sorted ++ a ∷ []) (take (n + 1) (slice_set arcs n a))
    made_behind up apart =
        subst (AreMerged (sorted ++ a ∷ [])) (sym (take_more_set arcs n a inside)) (merged_behind sorted (take n arcs) a before merged)
      where
        long : length (take n arcs) ≡ n
        long = length-take-le n arcs (omega arith)

        before : All (λ b. IsArcBefore b a) (take n arcs)
        before =
            ⊎_elim
            (λ (none : n ≡ 0). λ i d below. absurd (omega (arith, long)))
            (λ (some : n ≢ 0).
            let at : get_or (take n arcs) (n - 1) no_arc ≡ last_made = get_or-take n arcs (n - 1) no_arc (omega arith) in
            all_before (take n arcs) a n (sym long) (omega arith) merged.rising (merged.up_to a.caller a.callee up)
            (λ callers callees. apart (omega arith) (ap (λ (b : FunArc). b.caller) (sym at) ∙ callers) (ap (λ (b : FunArc). b.callee) (sym at) ∙ callees)))
            (cases_eq n 0)

-- ---- sorted arcs, one after another

pub front_calls_fit : (arcs : List FunArc) (i : ℕ) (f g : ℕ) → i < length arcs → calls_in (take i arcs) f g + (get_or arcs i no_arc).count ≤ count_of arcs
unfolding calls_in
front_calls_fit arcs i f g below = sum_by_more_le_part (λ (b : FunArc). when (goes b f g) b.count) (λ (b : FunArc). b.count) arcs i no_arc below (λ b. when_le (goes b f g) b.count)

pub merged_more : (old front made : List FunArc) (i : ℕ) (a : FunArc) → IsSorted by_ends old → i < length old → a ≡ get_or old i no_arc
    → ((sorted : List FunArc) → All (IsUpTo a.caller a.callee) sorted → AreMerged sorted front → AreMerged (sorted ++ a ∷ []) made)
    → AreMerged (take i old) front → AreMerged (take (i + 1) old) made
merged_more old front made i a sorted below at step merged =
    subst (λ (xs : List FunArc). AreMerged xs made) (ap (λ (b : FunArc). take i old ++ b ∷ []) at ∙ sym (take_more old i no_arc below))
    (step (take i old) (subst (λ (b : FunArc). All (IsUpTo b.caller b.callee) (take i old)) (sym at) (front_up_to old sorted i below)) merged)

-- the arcs that are made of all calls
pub all_merged : (arcs sorted made : List FunArc) → IsPermutation arcs sorted → AreMerged sorted made → (n : ℕ) → All (IsArcBelow n) arcs → made ≡ arcs_among n (calls_in arcs)
all_merged arcs sorted made moved merged n below =
    arcs_by_calls n made merged.rising (merged.below n (All-permutation (IsArcBelow n) arcs sorted moved below))
    ∙ (λ i. arcs_among n (λ f g. same f g i))
  where
    same : (f g : ℕ) → calls_in made f g ≡ calls_in arcs f g
    same f g = merged.calls f g ∙ calls_in_moved arcs sorted moved f g

-- the arc of so many calls, if there are any, and unless it would lead to its caller
abbrev arc_unless : Bool → ℕ → ℕ → ℕ → List FunArc
arc_unless own f g calls = if own || calls == 0 then [] else record { caller = f; callee = g; count = calls } ∷ []

-- the arcs among n functions look at the calls between different ones alone
pub arcs_same : (n : ℕ) (c d : ℕ → ℕ → ℕ) → ((f g : ℕ) → f ≢ g → c f g ≡ d f g) → arcs_among n c ≡ arcs_among n d
unfolding arcs_among
arcs_same n c d same = λ i. flat_map (λ f. flat_map (λ g. one f g i) (numbers_below n)) (numbers_below n)
  where
    one : (f g : ℕ) → arc_between c f g ≡ arc_between d f g
    one f g = by (f == g) refl
      where
        by : (own : Bool) → (f == g) ≡ own → arc_unless own f g (c f g) ≡ arc_unless own f g (d f g)
        by own is = grind (arith, eqb-false)
