-- The lines of arcs, component by component.
use Rattle.std.proofs.Common.{◌≡◌, ◌≢◌, ◌<◌, ◌≤◌, ℕ, zero, suc, ◌+◌, ◌-◌, Bool, true, cond, List, [], ◌∷◌, ◌++◌, length, map, take, drop, get_or, refl, ap, ◌∙◌, subst, arith, length-append}
use Rattle.std.specs.Prelude.{◌==◌, filter}
use Rattle.std.specs.List.{All, flat_map, range_with_len}
use Rattle.std.proofs.lemmas.Bool.{and_parts, eqb-true}
use Rattle.std.proofs.lemmas.List.{get_or_append_left, get_or-append_right, map-append}
use Rattle.std.proofs.lemmas.List.Elements.{All-append, All-filter}
use Rattle.call_cycles.specs.Heads.{pair_if}
use Rattle.call_cycles.specs.Sums.{numbers_below}
use Rattle.call_cycles.specs.Graph.{GraphValue, arc_count, component_count, source_of, is_outside, leaves}
use Rattle.call_cycles.proofs.RowLemmas.{numbers_low}
use Rattle.propagate.specs.Arcs.{outside_arcs_from, outside_arcs_of}
use Rattle.exact_flow.specs.Times.{outside_numbers}

-- pairs that are there have the numbers that pass
numbers_of_pairs : (passes : ℕ → Bool) (c : ℕ) (xs : List ℕ) → map (λ (p : ℕ × ℕ). p.1) (flat_map (λ i. pair_if (passes i) (c, i)) xs) ≡ filter passes xs
numbers_of_pairs passes c [] = refl
numbers_of_pairs passes c (x ∷ xs) = by (numbers_of_pairs passes c xs) (passes x)
  where
    by : map (λ (p : ℕ × ℕ). p.1) (flat_map (λ i. pair_if (passes i) (c, i)) xs) ≡ filter passes xs
        → (b : Bool) → map (λ (p : ℕ × ℕ). p.1) (pair_if b (c, x) ++ flat_map (λ i. pair_if (passes i) (c, i)) xs) ≡ cond b (x ∷ filter passes xs) (filter passes xs)
    by rest b = grind arith

all_pass : (passes : ℕ → Bool) (xs : List ℕ) → All (λ i. passes i ≡ true) (filter passes xs)
all_pass passes [] = λ k d low. absurd (omega arith)
all_pass passes (x ∷ xs) = by (all_pass passes xs) (passes x) refl
  where
    by : All (λ i. passes i ≡ true) (filter passes xs) → (b : Bool) → passes x ≡ b → All (λ i. passes i ≡ true) (cond b (x ∷ filter passes xs) (filter passes xs))
    by rest b here = grind arith

take_front : {X : Type 0} (xs ys : List X) → take (length xs) (xs ++ ys) ≡ xs
take_front [] ys = refl
take_front {X} (x ∷ xs) ys = ap (λ (zs : List X). x ∷ zs) (take_front xs ys)

drop_front : {X : Type 0} (xs ys : List X) → drop (length xs) (xs ++ ys) ≡ ys
drop_front [] ys = refl
drop_front (x ∷ xs) ys = drop_front xs ys

module _ (g : GraphValue) where
  -- the numbers of the outside arcs that leave component c
  abbrev pub leaving_of : ℕ → List ℕ
  leaving_of c = filter (leaves g c) (numbers_below (arc_count g))

  pub arcs_low : (c : ℕ) → All (λ i. i < arc_count g) (leaving_of c)
  arcs_low c = All-filter (leaves g c) (λ i. i < arc_count g) (numbers_below (arc_count g)) (numbers_low (arc_count g))

  those_leave : (c : ℕ) → All (λ i. source_of g i ≡ c) (leaving_of c)
  those_leave c k d low = leave (get_or (leaving_of c) k d) (all_pass (leaves g c) (numbers_below (arc_count g)) k d low)
    where
      leave : (i : ℕ) → leaves g c i ≡ true → source_of g i ≡ c
      leave i passes = eqb-true (source_of g i) c (and_parts (is_outside g i) (source_of g i == c) passes).1

  -- the arcs of component c stand in front of those of later ones
  later_apart : (c a k : ℕ) → c < a → All (λ i. source_of g i ≢ c) (flat_map leaving_of (range_with_len a k))
  later_apart c a zero less = λ k d low. absurd (omega arith)
  later_apart c a (suc k) less =
      All-append (λ i. source_of g i ≢ c) (leaving_of a) (flat_map leaving_of (range_with_len (a + 1) k))
      (λ j d low same. let own = those_leave a j d low in omega arith)
      (later_apart c (a + 1) k (omega arith))

  pub all_low : (a k : ℕ) → All (λ i. i < arc_count g) (flat_map leaving_of (range_with_len a k))
  all_low a zero = λ k d low. absurd (omega arith)
  all_low a (suc k) = All-append (λ i. i < arc_count g) (leaving_of a) (flat_map leaving_of (range_with_len (a + 1) k)) (arcs_low a) (all_low (a + 1) k)

  -- a count of those that leave c counts them all
  counted : (c n : ℕ) (front back : List ℕ) → All (λ i. source_of g i ≡ c) front → All (λ i. source_of g i ≢ c) back → n ≤ length (front ++ back)
      → ((k d : ℕ) → k < n → source_of g (get_or (front ++ back) k d) ≡ c) → ((d : ℕ) → n < length (front ++ back) → source_of g (get_or (front ++ back) n d) ≢ c) → n ≡ length front
  counted c n front back own other within those next = grind (arith, length-append, get_or_append_left, get_or-append_right)

  -- the arcs from component c on
  abbrev pub arcs_from_on : ℕ → List ℕ
  arcs_from_on c = flat_map leaving_of (range_with_len c (component_count g - c))

  numbers_of_all : (cs : List ℕ) → map (λ (p : ℕ × ℕ). p.1) (flat_map (outside_arcs_from g) cs) ≡ flat_map leaving_of cs
  numbers_of_all [] = refl
  numbers_of_all (c ∷ cs) =
      map-append (λ (p : ℕ × ℕ). p.1) (outside_arcs_from g c) (flat_map (outside_arcs_from g) cs)
      ∙ (λ j. numbers_of_pairs (leaves g c) c (numbers_below (arc_count g)) j ++ numbers_of_all cs j)

  pub all_arcs : outside_numbers g ≡ arcs_from_on 0
  unfolding outside_arcs_of
  all_arcs = grind (arith, numbers_of_all)

  module _ (c n : ℕ) (rest : List ℕ) (low : c < component_count g) (is : rest ≡ arcs_from_on c) (within : n ≤ length rest)
      (those : (k d : ℕ) → k < n → source_of g (get_or rest k d) ≡ c) (next : (d : ℕ) → n < length rest → source_of g (get_or rest n d) ≢ c) where
    split : rest ≡ leaving_of c ++ arcs_from_on (c + 1)
    split = is ∙ by (component_count g - c) (component_count g - (c + 1)) (omega arith)
      where
        by : (k j : ℕ) → k ≡ suc j → flat_map leaving_of (range_with_len c k) ≡ leaving_of c ++ flat_map leaving_of (range_with_len (c + 1) j)
        by k j same = ap (λ (i : ℕ). flat_map leaving_of (range_with_len c i)) same

    count : n ≡ length (leaving_of c)
    count =
        counted c n (leaving_of c) (arcs_from_on (c + 1)) (those_leave c) (later_apart c (c + 1) (component_count g - (c + 1)) (omega arith))
        (subst (λ (xs : List ℕ). n ≤ length xs) split within)
        (subst (λ (xs : List ℕ). (k d : ℕ) → k < n → source_of g (get_or xs k d) ≡ c) split those)
        (subst (λ (xs : List ℕ). (d : ℕ) → n < length xs → source_of g (get_or xs n d) ≢ c) split next)

    pub taken : take n rest ≡ leaving_of c
    taken = ap (take n) split ∙ ap (λ (k : ℕ). take k (leaving_of c ++ arcs_from_on (c + 1))) count ∙ take_front (leaving_of c) (arcs_from_on (c + 1))

    pub left : drop n rest ≡ arcs_from_on (c + 1)
    left = ap (drop n) split ∙ ap (λ (k : ℕ). drop k (leaving_of c ++ arcs_from_on (c + 1))) count ∙ drop_front (leaving_of c) (arcs_from_on (c + 1))
