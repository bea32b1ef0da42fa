-- The first wide step: what a search finds, and that all solutions have the same steps.
use Rattle.std.proofs.Common.{◌≡◌, ◌<◌, ℕ, zero, suc, ◌*◌, ◌^◌, Bool, true, false, not, ◌&&◌, cond, List, [], ◌∷◌, length, map, Option, Some, None, get_or, refl, ap, sym, ◌∙◌, subst, arith}
use Rattle.std.specs.Prelude.{◌==◌, nat_lt, find, if◌then◌else◌}
use Rattle.std.specs.Option.{option_map}
use Rattle.std.specs.List.{All}
use Rattle.std.proofs.lemmas.Bool.{and_parts, and_from, true≢false, lt-ltb, not-false}
use Rattle.std.proofs.lemmas.List.Elements.{All-cons}
use Rattle.call_cycles.specs.Sums.{list_of, numbers_below}
use Rattle.call_cycles.specs.Graph.{GraphValue, IsGraph, arc_at, arc_count, entering_of, component_count, head_of, source_of, target_of, is_outside, leaves}
use Rattle.call_cycles.specs.Flow.{self_in}
use Rattle.call_cycles.specs.ExactFlow.{ExactTimes, IsExactFlow, AreSameTimes, carried_exactly}
use Rattle.call_cycles.proofs.SumLemmas.{sum_ext}
use Rattle.call_cycles.proofs.NumberingLemmas.{target_within}
use Rattle.fraction128.specs.Fractions.{Fraction, fraction, lowest, fits}
use Rattle.fraction128.proofs.ValueLemmas.{lowest_same}
use Rattle.propagate.specs.Arcs.{IsLeaving, outside_arcs_of}
use Rattle.propagate.specs.ExactSolution.{exact_in}
use Rattle.propagate.proofs.ExactLemmas.{chosen_times, exact_solution, same_times}
use Rattle.propagate.proofs.ArcOrderLemmas.{each_leaves, each_there}
use Rattle.propagate.proofs.OrderLemmas.{caller_order}
use Rattle.propagate.proofs.UniqueLemmas.{when_ext}
use Rattle.exact_flow.specs.Times.{in_grains, outside_numbers}
use Rattle.exact_flow.specs.Solution.{by_arcs, flow_of_times, exact_flow_in}
use Rattle.exact_flow.proofs.OrderLemmas.{stands_before}
use Rattle.exact_flow.specs.Progress.{step_in}
use Rattle.exact_flow.proofs.StateLemmas.{IsSoFar, map_below, numbered, same_numbers}
use Rattle.exact_flow.specs.Steps.{StepNumbers, FitsStep, fits_step, step_at, brought_before, IsNoneWide, IsFirstWide}
use Rattle.exact_flow.specs.Wide.{WideStep, step_of_arc, first_wide, first_wide_of}

-- ---- a search

find_none : {X : Type 0} (p : X → Bool) (xs : List X) → All (λ x. p x ≡ false) xs → find p xs ≡ None
find_none p [] none = refl
find_none {X} p (x ∷ xs) none = ap (λ (b : Bool). cond b (Some x) (find p xs)) (none 0 x (omega arith)) ∙ find_none p xs (λ k d low. none (suc k) d (omega arith))

find_first : {X : Type 0} (p : X → Bool) (xs : List X) (n : ℕ) (x : X) → n < length xs → x ≡ get_or xs n x → ((k : ℕ) (d : X) → k < n → p (get_or xs k d) ≡ false) → p x ≡ true → find p xs ≡ Some x
find_first p [] n x low at before here = absurd (omega arith)
find_first {X} p (y ∷ ys) zero x low at before here = grind arith
find_first {X} p (y ∷ ys) (suc n) x low at before here =
    ap (λ (b : Bool). cond b (Some y) (find p ys)) (before 0 x (omega arith)) ∙ find_first p ys n x (omega arith) at (λ k d less. before (suc k) d (omega arith)) here

-- what was found passes, at a place before which nothing does
record IsFound {X : Type 0} (p : X → Bool) (xs : List X) (x : X) : Type 0 where
  pub place : ℕ
  pub low : place < length xs
  pub at : (d : X) → get_or xs place d ≡ x
  pub here : p x ≡ true
  pub before : (k : ℕ) (d : X) → k < place → p (get_or xs k d) ≡ false

found : {X : Type 0} (p : X → Bool) (xs : List X) (x : X) → find p xs ≡ Some x → IsFound p xs x
found p [] x is = absurd cc
found {X} p (y ∷ ys) x is = by (found p ys x) (p y) refl is
  where
    earlier : ((k : ℕ) (d : X) → k < 0 → p (get_or (y ∷ ys) k d) ≡ false)
    earlier k d less = absurd (omega arith)

    by : (find p ys ≡ Some x → IsFound p ys x) → (b : Bool) → p y ≡ b → cond b (Some y) (find p ys) ≡ Some x → IsFound p (y ∷ ys) x
    by rest true pass same = grind arith
    by rest false fail same =
        let r = rest same in
        record { place = suc r.place; low = (let low = r.low in omega arith); at = r.at; here = r.here; before = before r.place r.before }
      where
        before : (n : ℕ) → ((k : ℕ) (d : X) → k < n → p (get_or ys k d) ≡ false) → (k : ℕ) (d : X) → k < suc n → p (get_or (y ∷ ys) k d) ≡ false
        before n old zero d less = fail
        before n old (suc k) d less = old k d (omega arith)

none_found : {X : Type 0} (p : X → Bool) (xs : List X) → find p xs ≡ None → All (λ x. p x ≡ false) xs
none_found p [] is = λ k d low. absurd (omega arith)
none_found {X} p (x ∷ xs) is = by (none_found p xs) (p x) refl is
  where
    by : (find p xs ≡ None → All (λ x. p x ≡ false) xs) → (b : Bool) → p x ≡ b → cond b (Some x) (find p xs) ≡ None → All (λ y. p y ≡ false) (x ∷ xs)
    by rest true pass same = absurd cc
    by rest false fail same = All-cons (λ y. p y ≡ false) x xs fail (rest same)

find_same : {X : Type 0} (p q : X → Bool) (xs : List X) → All (λ x. p x ≡ q x) xs → find p xs ≡ find q xs
find_same p q [] same = refl
find_same {X} p q (x ∷ xs) same =
    ap (λ (b : Bool). cond b (Some x) (find p xs)) (same 0 x (omega arith)) ∙ ap (λ (o : Option X). cond (q x) (Some x) o) (find_same p q xs (λ k d low. same (suc k) d (omega arith)))

-- ---- what fits, as a fact and as a test

fits_true : (n d : ℕ) → (n < 2 ^ 128) × (d < 2 ^ 128) → fits n d ≡ true
fits_true n d both = and_from (nat_lt n (2 ^ 128)) (nat_lt d (2 ^ 128)) (lt-ltb n (2 ^ 128) both.0) (lt-ltb d (2 ^ 128) both.1)

pub step_fits : (n : StepNumbers) → FitsStep n → fits_step n ≡ true
step_fits n fit = four _ _ _ _ (fits_true _ _ fit.self) (fits_true _ _ fit.child) (fits_true _ _ fit.first) (fits_true _ _ fit.second)
  where
    four : (a b c d : Bool) → a ≡ true → b ≡ true → c ≡ true → d ≡ true → (a && b && c && d) ≡ true
    four a b c d one two three last = and_from (a && b && c) d (and_from (a && b) c (and_from a b one two) three) last

pub fits_from : (n : StepNumbers) → fits_step n ≡ true → FitsStep n
fits_from n yes_it = grind (arith, and_parts)

-- ---- all solutions have the same steps

module _ (g : GraphValue) (shares : List ℕ) (x y : ExactTimes) (is : IsGraph g) (one : IsExactFlow g shares x) (two : IsExactFlow g shares y) where
  same : AreSameTimes g x y
  same = same_times g shares is x y one two

  same_brought : (i : ℕ) → i < arc_count g → brought_before g x i * y.grain ≡ brought_before g y i * x.grain
  same_brought i low =
      chosen_times i (leaves g (source_of g i)) (carried_exactly x) y.grain
      ∙ sum_ext i _ _ (λ j less. when_ext (leaves g (source_of g i) j) _ _ (λ taken. each j (omega arith) (and_parts (is_outside g j) (source_of g j == source_of g i) taken).0))
      ∙ sym (chosen_times i (leaves g (source_of g i)) (carried_exactly y) x.grain)
    where
      each : (j : ℕ) → j < arc_count g → is_outside g j ≡ true → carried_exactly x j * y.grain ≡ carried_exactly y j * x.grain
      each j below out = let a = same.arc_self j below out in let b = same.arc_child j below out in omega arith

  pub same_step : (i : ℕ) → i < arc_count g → is_outside g i ≡ true → step_at g shares x i ≡ step_at g shares y i
  same_step i low out = λ j. record { self = self_in g shares (target_of g i); child = child j; calls = lowest (arc_at g i).count (entering_of g (target_of g i)); before = before j }
    where
      child : in_grains x (x.child (target_of g i)) ≡ in_grains y (y.child (target_of g i))
      child = lowest_same (x.child (target_of g i)) x.grain (y.child (target_of g i)) y.grain one.some two.some (same.child (target_of g i) (target_within g is i low))

      before : in_grains x (brought_before g x i) ≡ in_grains y (brought_before g y i)
      before = lowest_same (brought_before g x i) x.grain (brought_before g y i) y.grain one.some two.some (same_brought i low)

  pub same_first : first_wide_of g shares x ≡ first_wide_of g shares y
  same_first = grind (arith, find_same, each_leaves, same_step)

  pub same_flow : flow_of_times g shares x ≡ flow_of_times g shares y
  same_flow = λ j. record { self = list_of (component_count g) (self_in g shares); child = child j; arc_self = arcs x.arc_self y.arc_self same.arc_self j; arc_child = arcs x.arc_child y.arc_child same.arc_child j; outside = outside_numbers g }
    where
      child : map (λ c. in_grains x (x.child c)) (numbers_below (component_count g)) ≡ map (λ c. in_grains y (y.child c)) (numbers_below (component_count g))
      child = map_below (component_count g) _ _ (λ c low. lowest_same (x.child c) x.grain (y.child c) y.grain one.some two.some (same.child c low))

      arcs : (a b : ℕ → ℕ) → ((i : ℕ) → i < arc_count g → is_outside g i ≡ true → a i * y.grain ≡ b i * x.grain) → by_arcs g (λ i. in_grains x (a i)) ≡ by_arcs g (λ i. in_grains y (b i))
      arcs a b equal = map_below (arc_count g) _ _ (λ i low. each i low (is_outside g i) refl)
        where
          each : (i : ℕ) → i < arc_count g → (t : Bool) → is_outside g i ≡ t → (if t then in_grains x (a i) else fraction 0 1) ≡ (if t then in_grains y (b i) else fraction 0 1)
          each i low true out = lowest_same (a i) x.grain (b i) y.grain one.some two.some (equal i low out)
          each i low false out = refl

module _ (g : GraphValue) (shares : List ℕ) (x : ExactTimes) (is : IsGraph g) (exact : IsExactFlow g shares x) where
  pub one_first : first_wide_of g shares x ≡ first_wide g shares
  unfolding first_wide
  one_first = same_first g shares x (exact_in g shares) is exact (exact_solution g shares is)

  pub one_flow : flow_of_times g shares x ≡ exact_flow_in g shares
  unfolding exact_flow_in
  one_flow = same_flow g shares x (exact_in g shares) is exact (exact_solution g shares is)

  -- the test of a step, as the search makes it
  abbrev wide : ℕ × ℕ → Bool
  wide p = not (fits_step (step_at g shares x p.1))

  pub none_is_wide : first_wide g shares ≡ None → IsNoneWide g shares x
  none_is_wide none i low out =
      let all = none_found wide (outside_arcs_of g) (nothing (find wide (outside_arcs_of g)) (one_first ∙ none)) in
      let there = each_there g is i low out in
      let at = all there.0 (source_of g i, i) there.1 in
      fits_from (step_at g shares x i) (not-false _ (ap wide (sym there.2) ∙ at))
    where
      nothing : (o : Option (ℕ × ℕ)) → option_map (step_of_arc g) o ≡ None → o ≡ None
      nothing None same = refl
      nothing (Some p) same = absurd cc

  pub first_is_wide : (w : WideStep) → first_wide g shares ≡ Some w → IsFirstWide g shares x w.head w.arc
  first_is_wide w some = by (find wide (outside_arcs_of g)) refl (one_first ∙ some)
    where
      first : (p : ℕ × ℕ) → IsFound wide (outside_arcs_of g) p → IsFirstWide g shares x (head_of g p.0) p.1
      first p r =
          let leaving : IsLeaving g p = subst (IsLeaving g) (r.at p) (each_leaves g r.place p r.low) in
          record {
            within = leaving.0;
            outside = leaving.2;
            from = ap (head_of g) leaving.1;
            wide = λ fit. true≢false (sym r.here ∙ ap not (step_fits (step_at g shares x p.1) fit));
            before = λ j low out earlier.
                let there = stands_before g (outside_arcs_of g) (caller_order g is) r.place p r.low (sym (r.at p)) j low out earlier in
                fits_from (step_at g shares x j) (not-false _ (ap wide (sym there.2) ∙ r.before there.0 (source_of g j, j) there.1));
          }

      by : (o : Option (ℕ × ℕ)) → find wide (outside_arcs_of g) ≡ o → option_map (step_of_arc g) o ≡ Some w → IsFirstWide g shares x w.head w.arc
      by None at same = absurd cc
      by (Some p) at same = grind (arith, first, found)

-- ---- what the walk over the arcs finds

module _ (g : GraphValue) (shares : List ℕ) (is : IsGraph g) where
  pub none_first : IsNoneWide g shares (exact_in g shares) → first_wide g shares ≡ None
  unfolding first_wide
  none_first none =
      ap (option_map (step_of_arc g))
      (find_none (wide g shares (exact_in g shares) is (exact_solution g shares is)) (outside_arcs_of g)
      (λ k d low. let l = each_leaves g k d low in ap not (step_fits (step_at g shares (exact_in g shares) _) (none _ l.0 l.2))))

  pub some_first : (n : ℕ) (p : ℕ × ℕ) → n < length (outside_arcs_of g) → p ≡ get_or (outside_arcs_of g) n p
      → ((k : ℕ) (d : ℕ × ℕ) → k < n → FitsStep (step_at g shares (exact_in g shares) (get_or (outside_arcs_of g) k d).1))
      → (FitsStep (step_at g shares (exact_in g shares) p.1) → ⊥) → first_wide g shares ≡ Some (step_of_arc g p)
  unfolding first_wide
  some_first n p low at before here =
      ap (option_map (step_of_arc g))
      (find_first (wide g shares (exact_in g shares) is (exact_solution g shares is)) (outside_arcs_of g) n p low at
      (λ k d less. ap not (step_fits (step_at g shares (exact_in g shares) (get_or (outside_arcs_of g) k d).1) (before k d less)))
      (by (fits_step (step_at g shares (exact_in g shares) p.1)) refl))
    where
      by : (b : Bool) → fits_step (step_at g shares (exact_in g shares) p.1) ≡ b → not b ≡ true
      by true fit = absurd (here (fits_from (step_at g shares (exact_in g shares) p.1) fit))
      by false fit = refl

-- a step that does not fit is the first one
pub first_found : (g : GraphValue) (shares : List ℕ) (is : IsGraph g) (n i : ℕ) → n < length (outside_numbers g) → get_or (outside_numbers g) n i ≡ i → (selves : List ℕ) (times : List Fraction)
    → selves ≡ list_of (component_count g) (self_in g shares) → IsSoFar g shares n times
    → (FitsStep (step_in g selves times i) → ⊥) → first_wide g shares ≡ Some (record { head = head_of g (source_of g i); arc = i })
first_found g shares is n i below here selves times are so_far wide =
    let there = numbered g is n i below here in
    let x = exact_in g shares in
    let exact = exact_solution g shares is in
    some_first g shares is n (source_of g i, i) there.0 there.1 (so_far.fits x exact) (λ fit. wide (subst FitsStep (sym (same_numbers g is n i below here shares selves times are so_far x exact)) fit))
