-- Which functions reach which, decided over one function between after another.
use Rattle.std.proofs.Common.{◌≡◌, ◌≢◌, ◌<◌, ◌↔◌, ℕ, zero, suc, ◌&&◌, true, List, [], ◌∷◌, length, get_or, refl, ap, ◌∙◌, subst, ⊎_elim, arith}
use Rattle.std.specs.Prelude.{◌==◌}
use Rattle.std.proofs.lemmas.Bool.{cases_eq, eqb-true, eq-eqb, or_cases, or_left, or_right, and_parts, and_from}
use Rattle.std.proofs.lemmas.List.{get_or_default}
use Rattle.std.proofs.lemmas.List.Folds.{Any-from_list_any, list_any_at}
use Rattle.call_cycles.specs.declared.graphs.FunArc.{FunArc}
use Rattle.call_cycles.specs.Graph.{no_arc}
use Rattle.call_cycles.specs.Walks.{IsWalk, Reaches}
use Rattle.call_cycles.specs.Arcs.{AreWithin}
use Rattle.call_cycles.specs.Leaders.{AreJoined}
use Rattle.call_cycles.specs.Values.{has_arc, reaches_over, are_joined}
use Rattle.call_cycles.proofs.WalkLemmas.{reaches_itself, reaches_on, reaches_by, one_is_at}

module _ (arcs : List FunArc) where
  arc_at : (f g i : ℕ) → i < length arcs → (get_or arcs i no_arc).caller ≡ f → (get_or arcs i no_arc).callee ≡ g → has_arc arcs f g ≡ true
  arc_at f g i below from to = list_any_at (λ (a : FunArc). a.caller == f && a.callee == g) arcs i no_arc below (and_from _ _ (eq-eqb _ f from) (eq-eqb _ g to))

  arc_reaches : (f g : ℕ) → has_arc arcs f g ≡ true → Reaches arcs f g
  arc_reaches f g on =
      let a = Any-from_list_any (λ (a : FunArc). a.caller == f && a.callee == g) arcs on in
      let is : get_or arcs a.0 no_arc ≡ a.1 = get_or_default arcs a.0 no_arc a.1 a.2 ∙ a.3 in
      let ends = and_parts _ _ a.4 in
      let from : (get_or arcs a.0 no_arc).caller ≡ f = ap (λ (b : FunArc). b.caller) is ∙ eqb-true _ f ends.0 in
      let to : (get_or arcs a.0 no_arc).callee ≡ g = ap (λ (b : FunArc). b.callee) is ∙ eqb-true _ g ends.1 in
      subst (λ (x : ℕ). Reaches arcs x g) from (subst (Reaches arcs (get_or arcs a.0 no_arc).caller) to (reaches_by arcs a.0 a.2))

  over_reaches : (k f g : ℕ) → reaches_over arcs k f g ≡ true → Reaches arcs f g
  over_reaches zero f g on = grind (arith, reaches_itself, arc_reaches)
  over_reaches (suc k) f g on =
      ⊎_elim
      (λ (before : reaches_over arcs k f g ≡ true). over_reaches k f g before)
      (λ (both : (reaches_over arcs k f k && reaches_over arcs k k g) ≡ true).
      let parts = and_parts _ _ both in
      reaches_on arcs f k g (over_reaches k f k parts.0) (over_reaches k k g parts.1))
      (or_cases (reaches_over arcs k f g) (reaches_over arcs k f k && reaches_over arcs k k g) on)

  -- more functions may stand between
  over_more : (k f g : ℕ) → reaches_over arcs zero f g ≡ true → reaches_over arcs k f g ≡ true
  over_more zero f g on = on
  over_more (suc k) f g on = or_left _ _ (over_more k f g on)

  over_itself : (k f : ℕ) → reaches_over arcs k f f ≡ true
  over_itself k f = over_more k f f (or_left _ _ (eq-eqb f f refl))

  -- what comes to k or goes from it needs no k between
  over_to : (k f : ℕ) → reaches_over arcs (suc k) f k ≡ true → reaches_over arcs k f k ≡ true
  over_to k f on = grind arith

  over_from : (k g : ℕ) → reaches_over arcs (suc k) k g ≡ true → reaches_over arcs k k g ≡ true
  over_from k g on = grind arith

  -- two walks joined at a function that may stand between
  over_through : (k x f g : ℕ) → x < k → reaches_over arcs k f x ≡ true → reaches_over arcs k x g ≡ true → reaches_over arcs k f g ≡ true
  over_through zero x f g low one two = absurd (omega arith)
  over_through (suc k) x f g low one two =
      ⊎_elim
      (λ (at : x ≡ k).
      or_right _ _ (and_from _ _
      (over_to k f (subst (λ (y : ℕ). reaches_over arcs (suc k) f y ≡ true) at one))
      (over_from k g (subst (λ (y : ℕ). reaches_over arcs (suc k) y g ≡ true) at two))))
      (λ (apart : x ≢ k).
      let less : x < k = omega arith in
      ⊎_elim
      (λ (one_below : reaches_over arcs k f x ≡ true).
      ⊎_elim
      (λ (two_below : reaches_over arcs k x g ≡ true). or_left _ _ (over_through k x f g less one_below two_below))
      (λ (two_over : (reaches_over arcs k x k && reaches_over arcs k k g) ≡ true).
      let parts = and_parts _ _ two_over in
      or_right _ _ (and_from _ _ (over_through k x f k less one_below parts.0) parts.1))
      (or_cases (reaches_over arcs k x g) (reaches_over arcs k x k && reaches_over arcs k k g) two))
      (λ (one_over : (reaches_over arcs k f k && reaches_over arcs k k x) ≡ true).
      let parts = and_parts _ _ one_over in
      ⊎_elim
      (λ (two_below : reaches_over arcs k x g ≡ true).
      or_right _ _ (and_from _ _ parts.0 (over_through k x k g less parts.1 two_below)))
      (λ (two_over : (reaches_over arcs k x k && reaches_over arcs k k g) ≡ true).
      or_right _ _ (and_from _ _ parts.0 (and_parts _ _ two_over).1))
      (or_cases (reaches_over arcs k x g) (reaches_over arcs k x k && reaches_over arcs k k g) two))
      (or_cases (reaches_over arcs k f x) (reaches_over arcs k f k && reaches_over arcs k k x) one))
      (cases_eq x k)

module _ (n : ℕ) (arcs : List FunArc) (within : AreWithin n arcs) where
  walk_over : (f g : ℕ) (w : List FunArc) → IsWalk arcs f w g → reaches_over arcs n f g ≡ true
  walk_over f g [] walk = subst (λ (x : ℕ). reaches_over arcs n f x ≡ true) walk (over_itself arcs n f)
  walk_over f g (a ∷ w) walk =
      let at = one_is_at arcs a walk.0 in
      let from : (get_or arcs at.0 no_arc).caller ≡ f = ap (λ (b : FunArc). b.caller) at.2 ∙ walk.1 in
      let to : (get_or arcs at.0 no_arc).callee ≡ a.callee = ap (λ (b : FunArc). b.callee) at.2 in
      let inside : a.callee < n = omega arith in
      let first = over_more arcs n f a.callee (or_right _ _ (arc_at arcs f a.callee at.0 at.1 from to)) in
      over_through arcs n a.callee f g inside first (walk_over a.callee g w walk.2)

  pub reaches_is : (f g : ℕ) → (reaches_over arcs n f g ≡ true) ↔ Reaches arcs f g
  unfolding Reaches
  reaches_is f g = (over_reaches arcs n f g, λ r. walk_over f g r.0 r.1)

  pub joined_is : (f g : ℕ) → (are_joined n arcs f g ≡ true) ↔ AreJoined arcs f g
  joined_is f g = grind (arith, reaches_is)
