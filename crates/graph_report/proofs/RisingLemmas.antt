-- Lists of arcs rise by their callers, and by their callees.
use Rattle.std.proofs.Common.{◌≡◌, ◌<◌, ℕ, zero, suc, Bool, true, cond, List, [], ◌∷◌, ◌++◌, map, append-nil, length-append, refl, sym, subst, arith}
use Rattle.std.specs.Prelude.{◌==◌, filter}
use Rattle.std.specs.List.{All, flat_map}
use Rattle.std.specs.List.Sorted.{IsStrictlyIncreasing}
use Rattle.std.proofs.lemmas.Bool.{eqb-true}
use Rattle.std.proofs.lemmas.List.{get_or_append_left, get_or-append_right}
use Rattle.call_cycles.specs.Sums.{numbers_below}
use Rattle.call_cycles.specs.Graph.{GraphValue, IsGraph, IsArcBefore, arc_at, arc_count}
use Rattle.call_cycles.proofs.SumLemmas.{all_flat, flat_more}
use Rattle.graph_report.specs.GraphText.{arcs_from, arcs_to}

picked_are : (h : ℕ → ℕ) (p : ℕ → Bool) (xs : List ℕ) → map h (filter p xs) ≡ flat_map (λ i. cond (p i) (h i ∷ []) []) xs
picked_are h p [] = refl
picked_are h p (x ∷ xs) = by (picked_are h p xs) (p x)
  where
    by : map h (filter p xs) ≡ flat_map (λ i. cond (p i) (h i ∷ []) []) xs
        → (b : Bool) → map h (cond b (x ∷ filter p xs) (filter p xs)) ≡ cond b (h x ∷ []) [] ++ flat_map (λ i. cond (p i) (h i ∷ []) []) xs
    by rest b = grind arith

push_rises : (xs : List ℕ) (y : ℕ) → IsStrictlyIncreasing xs → All (λ x. x < y) xs → IsStrictlyIncreasing (xs ++ y ∷ [])
push_rises xs y rising below k inside = grind (arith, length-append, get_or_append_left, get_or-append_right)

module _ (h : ℕ → ℕ) (p : ℕ → Bool) where
  abbrev picked : ℕ → List ℕ
  picked n = flat_map (λ i. cond (p i) (h i ∷ []) []) (numbers_below n)

  all_below : (n y : ℕ) → ((i : ℕ) → i < n → p i ≡ true → h i < y) → All (λ x. x < y) (picked n)
  all_below n y each = all_flat (λ x. x < y) (λ i. cond (p i) (h i ∷ []) []) n (λ i low. one i low (p i) refl)
    where
      one : (i : ℕ) → i < n → (b : Bool) → p i ≡ b → All (λ x. x < y) (cond b (h i ∷ []) [])
      one i low b at = grind arith

  picked_rises : (n : ℕ) → ((i j : ℕ) → i < j → j < n → p i ≡ true → p j ≡ true → h i < h j) → IsStrictlyIncreasing (picked n)
  picked_rises zero each = λ k inside. absurd (omega arith)
  picked_rises (suc n) each =
      subst IsStrictlyIncreasing (sym (flat_more (λ i. cond (p i) (h i ∷ []) []) n))
      (by (picked_rises n (λ i j less low. each i j less (omega arith))) (p n) refl)
    where
      by : IsStrictlyIncreasing (picked n) → (b : Bool) → p n ≡ b → IsStrictlyIncreasing (picked n ++ cond b (h n ∷ []) [])
      by rest b at = grind (arith, push_rises, all_below, append-nil)

  pub rises : (n : ℕ) → ((i j : ℕ) → i < j → j < n → p i ≡ true → p j ≡ true → h i < h j) → IsStrictlyIncreasing (map h (filter p (numbers_below n)))
  rises n each = subst IsStrictlyIncreasing (sym (picked_are h p (numbers_below n))) (picked_rises n each)

module _ (g : GraphValue) (is : IsGraph g) (f : ℕ) where
  pub callers_rise : IsStrictlyIncreasing (map (λ i. (arc_at g i).caller) (arcs_to g f))
  callers_rise = rises (λ i. (arc_at g i).caller) (λ i. (arc_at g i).callee == f) (arc_count g) (λ i j less low one two. by i j (eqb-true _ _ one) (eqb-true _ _ two) (is.arcs.rising i j less low))
    where
      by : (i j : ℕ) → (arc_at g i).callee ≡ f → (arc_at g j).callee ≡ f → IsArcBefore (arc_at g i) (arc_at g j) → (arc_at g i).caller < (arc_at g j).caller
      by i j one two before = grind arith

  pub callees_rise : IsStrictlyIncreasing (map (λ i. (arc_at g i).callee) (arcs_from g f))
  callees_rise = rises (λ i. (arc_at g i).callee) (λ i. (arc_at g i).caller == f) (arc_count g) (λ i j less low one two. by i j (eqb-true _ _ one) (eqb-true _ _ two) (is.arcs.rising i j less low))
    where
      by : (i j : ℕ) → (arc_at g i).caller ≡ f → (arc_at g j).caller ≡ f → IsArcBefore (arc_at g i) (arc_at g j) → (arc_at g i).callee < (arc_at g j).callee
      by i j one two before = grind arith
