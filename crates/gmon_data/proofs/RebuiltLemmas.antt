-- The entries of a map, inserted one by one into another one.
use Rattle.std.proofs.Common.{◌≡◌, ℕ, zero, suc, ◌+◌, Bool, false, List, [], ◌∷◌, Some, take, slice_get, sym, ap, ◌∙◌, subst, arith}
use Rattle.std.specs.List.{AllByRecursion, IsDistinct}
use Rattle.std.specs.Map.{keys_of}
use Rattle.indexmap.specs.IndexMap.{insert_entry}

module _ {K : Type 0} (same : K → K → Bool) (turned : (x y : K) → same x y ≡ same y x) where
  all_at : (P : K → Type 0) (es : List (K × ℕ)) (i : ℕ) (e : K × ℕ) → AllByRecursion P (keys_of es) → slice_get es i ≡ Some e → P e.0
  all_at P [] i e all at = absurd cc
  all_at P (x ∷ es) zero e all at = let is : x ≡ e = cc in subst P (λ j. (is j).0) all.0
  all_at P (x ∷ es) (suc i) e all at = all_at P es i e all.1 at

  insert_next : (es : List (K × ℕ)) (i : ℕ) (e : K × ℕ) → IsDistinct same (keys_of es) → slice_get es i ≡ Some e → insert_entry same (take i es) e.0 e.1 ≡ take (i + 1) es
  unfolding IsDistinct
  insert_next [] i e distinct at = absurd cc
  insert_next (x ∷ es) zero e distinct at = let is : x ≡ e = cc in ap (λ (y : K × ℕ). y ∷ []) (sym is)
  insert_next (x ∷ es) (suc i) e distinct at =
      let other : same e.0 x.0 ≡ false = turned e.0 x.0 ∙ all_at (λ y. same x.0 y ≡ false) es i e distinct.0 at in
      grind (arith, insert_next es i e distinct.1 at)

  -- a loop that has inserted the first i of them
  pub inserted_next : (es now new : List (K × ℕ)) (i : ℕ) (e : K × ℕ) → IsDistinct same (keys_of es) → Some e ≡ slice_get es i → now ≡ take i es → new ≡ insert_entry same now e.0 e.1 → new ≡ take (i + 1) es
  inserted_next es now new i e distinct at w more = more ∙ ap (λ (l : List (K × ℕ)). insert_entry same l e.0 e.1) w ∙ insert_next es i e distinct (sym at)
