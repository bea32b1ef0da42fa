-- Two numberings of the components of one graph are the same.
use Rattle.std.proofs.Common.{◌≡◌, ◌≢◌, ◌<◌, ◌≤◌, ℕ, zero, suc, Bool, true, false, List, length, inl, inr, refl, ap, sym, ◌∙◌, ⊎_elim, arith}
use Rattle.std.specs.Prelude.{◌==◌, slice_index}
use Rattle.std.proofs.lemmas.Bool.{cases_lt, cases_order, eqb-true, eqb-false, eq-eqb, not-true, and_parts, and_from}
use Rattle.std.proofs.lemmas.Grind.{same_number_lists}
use Rattle.call_cycles.specs.declared.graphs.FunArc.{FunArc}
use Rattle.call_cycles.specs.Sums.{when}
use Rattle.call_cycles.specs.Graph.{GraphValue, IsGraph, component_of, component_count, head_of, source_of, target_of, is_outside, leaves, arc_count, arc_at}
use Rattle.call_cycles.specs.Parts.{graph_of_parts}
use Rattle.call_cycles.proofs.SumLemmas.{max_ext, le_max_below}

-- the ends of arcs are components of the graph
pub source_within : (g : GraphValue) → IsGraph g → (i : ℕ) → i < arc_count g → source_of g i < component_count g
source_within g is i below = is.components.within (arc_at g i).caller (is.arcs.callers i below)

pub target_within : (g : GraphValue) → IsGraph g → (i : ℕ) → i < arc_count g → target_of g i < component_count g
target_within g is i below = is.components.within (arc_at g i).callee (is.arcs.callees i below)

-- an outside arc goes to a component of a lower level, which stands before
pub goes_down : (g : GraphValue) → IsGraph g → (i : ℕ) → i < arc_count g → is_outside g i ≡ true → target_of g i < source_of g i
goes_down g is i below out =
    let level = is.components.level in
    let s = source_of g i in
    let t = target_of g i in
    let apart : s ≢ t = eqb-false s t (not-true _ out) in
    let mine : leaves g s i ≡ true = and_from _ _ out (eq-eqb s s refl) in
    let some = le_max_below (arc_count g) (λ j. when (leaves g s j) (suc (level (target_of g j)))) i below in
    let this : when (leaves g s i) (suc (level t)) ≡ suc (level t) = ap (λ (b : Bool). when b (suc (level t))) mine in
    elim (cases_order t s) [
      | inl at ↦ absurd (apart (sym at))
      | inr other ↦ elim other [
        | inl less ↦ less
        | inr more ↦ elim (is.components.ordered s t more (target_within g is i below)) [
          | inl l ↦ absurd (omega arith)
          | inr both ↦ let l = both.0 in absurd (omega arith)
        ]
      ]
    ]

module _ (n : ℕ) (arcs : List FunArc) (s1 c1 h1 s2 c2 h2 : List ℕ) where
  abbrev g1 : GraphValue
  g1 = graph_of_parts n arcs s1 c1 h1

  abbrev g2 : GraphValue
  g2 = graph_of_parts n arcs s2 c2 h2

  module _ (is1 : IsGraph g1) (is2 : IsGraph g2) where
    -- the heads of a function's two components are its least companion
    same_head : (f : ℕ) → f < n → head_of g1 (component_of g1 f) ≡ head_of g2 (component_of g2 f)
    same_head f below =
        let a = is1.components in
        let b = is2.components in
        let x = head_of g1 (component_of g1 f) in
        let y = head_of g2 (component_of g2 f) in
        let xn : x < n = a.heads_below _ (a.within f below) in
        let yn : y < n = b.heads_below _ (b.within f below) in
        let jx = (a.joined f x below xn).0 (sym (a.heads_in _ (a.within f below))) in
        let jy = (b.joined f y below yn).0 (sym (b.heads_in _ (b.within f below))) in
        let e1 : component_of g2 f ≡ component_of g2 x = (b.joined f x below xn).1 jx in
        let e2 : component_of g1 f ≡ component_of g1 y = (a.joined f y below yn).1 jy in
        let r1 : y ≡ head_of g2 (component_of g2 x) = ap (head_of g2) e1 in
        let r2 : x ≡ head_of g1 (component_of g1 y) = ap (head_of g1) e2 in
        omega (arith, b.heads_least x xn, a.heads_least y yn)

    -- the number in the second graph of the component that has the number c in the first
    other : ℕ → ℕ
    other c = component_of g2 (head_of g1 c)

    other_within : (c : ℕ) → c < component_count g1 → other c < component_count g2
    unfolding other
    other_within c below = is2.components.within (head_of g1 c) (is1.components.heads_below c below)

    other_head : (c : ℕ) → c < component_count g1 → head_of g2 (other c) ≡ head_of g1 c
    unfolding other
    other_head c below = sym (same_head (head_of g1 c) (is1.components.heads_below c below)) ∙ ap (head_of g1) (is1.components.heads_in c below)

    other_of : (f : ℕ) → f < n → other (component_of g1 f) ≡ component_of g2 f
    unfolding other
    other_of f below =
        let x = head_of g1 (component_of g1 f) in
        let xn = is1.components.heads_below _ (is1.components.within f below) in
        (is2.components.joined x f xn below).1 ((is1.components.joined x f xn below).0 (is1.components.heads_in _ (is1.components.within f below)))

    same_leaves : (c i : ℕ) → c < component_count g1 → i < length arcs → leaves g1 c i ≡ leaves g2 (other c) i
    same_leaves c i below inside = grind (arith, other_of, same_head, other_head)

    same_level : (k c : ℕ) → c < k → c < component_count g1 → is1.components.level c ≡ is2.components.level (other c)
    same_level zero c low below = absurd (omega arith)
    same_level (suc k) c low below =
        is1.components.levels.highest c below
        ∙ max_ext (length arcs) _ _ (one (same_level k))
        ∙ sym (is2.components.levels.highest (other c) (other_within c below))
      where
        term : ((d : ℕ) → d < k → d < component_count g1 → is1.components.level d ≡ is2.components.level (other d)) → (i : ℕ) → i < length arcs → (b : Bool) → leaves g1 c i ≡ b → when b (suc (is1.components.level (target_of g1 i))) ≡ when b (suc (is2.components.level (target_of g2 i)))
        term before i inside true leaving =
            let both = and_parts (is_outside g1 i) (source_of g1 i == c) leaving in
            let down = goes_down g1 is1 i inside both.0 in
            let at : source_of g1 i ≡ c = eqb-true _ _ both.1 in
            let hb = is1.arcs.callees i inside in
            let ih = before (target_of g1 i) (omega arith) (is1.components.within _ hb) in
            ap suc (ih ∙ ap is2.components.level (other_of _ hb))
        term before i inside false leaving = refl

        one : ((d : ℕ) → d < k → d < component_count g1 → is1.components.level d ≡ is2.components.level (other d)) → (i : ℕ) → i < length arcs → when (leaves g1 c i) (suc (is1.components.level (target_of g1 i))) ≡ when (leaves g2 (other c) i) (suc (is2.components.level (target_of g2 i)))
        one before i inside = term before i inside (leaves g1 c i) refl ∙ ap (λ (b : Bool). when b (suc (is2.components.level (target_of g2 i)))) (same_leaves c i below inside)

    -- the order is kept
    rises : (c d : ℕ) → c < d → d < component_count g1 → other c < other d
    rises c d less below =
        let lc = same_level (suc c) c (omega arith) (omega arith) in
        let ld = same_level (suc d) d (omega arith) below in
        let hc = other_head c (omega arith) in
        let hd = other_head d below in
        let first = is1.components.ordered c d less below in
        elim (cases_order (other c) (other d)) [
          | inl same ↦
              let e : head_of g1 c ≡ head_of g1 d = sym hc ∙ ap (head_of g2) same ∙ hd in
              let q : c ≡ d = sym (is1.components.heads_in c (omega arith)) ∙ ap (component_of g1) e ∙ is1.components.heads_in d below in
              absurd (omega arith)
          | inr rest ↦ elim rest [
            | inl up ↦ up
            | inr down ↦ elim first [
              | inl low ↦ elim (is2.components.ordered (other d) (other c) down (other_within c (omega arith))) [
                | inl l ↦ absurd (omega arith)
                | inr b ↦ let b0 = b.0 in absurd (omega arith)
              ]
              | inr a ↦ elim (is2.components.ordered (other d) (other c) down (other_within c (omega arith))) [
                | inl l ↦ let a0 = a.0 in absurd (omega arith)
                | inr b ↦ let b1 = b.1 in let a1 = a.1 in absurd (omega arith)
              ]
            ]
          ]
        ]

    at_least : (c : ℕ) → c < component_count g1 → c ≤ other c
    at_least zero below = omega arith
    at_least (suc c) below = grind (arith, rises, at_least c (omega arith))

module _ (n : ℕ) (arcs : List FunArc) (s1 c1 h1 s2 c2 h2 : List ℕ) (is1 : IsGraph (graph_of_parts n arcs s1 c1 h1)) (is2 : IsGraph (graph_of_parts n arcs s2 c2 h2)) where
  not_above : (f : ℕ) → f < n → component_of (graph_of_parts n arcs s1 c1 h1) f ≤ component_of (graph_of_parts n arcs s2 c2 h2) f
  not_above f below =
      let up = at_least n arcs s1 c1 h1 s2 c2 h2 is1 is2 (component_of (graph_of_parts n arcs s1 c1 h1) f) (is1.components.within f below) in
      let at = other_of n arcs s1 c1 h1 s2 c2 h2 is1 is2 f below in
      omega arith

  module _ (same : c1 ≡ c2) where
    same_number : (c : ℕ) → c < length h1 → other n arcs s1 c1 h1 s2 c2 h2 is1 is2 c ≡ c
    unfolding other
    same_number c below = ap (λ (xs : List ℕ). slice_index xs (slice_index h1 c)) (sym same) ∙ is1.components.heads_in c below

    number_within : (c : ℕ) → c < length h1 → c < length h2
    number_within c below =
        let in_other = other_within n arcs s1 c1 h1 s2 c2 h2 is1 is2 c below in
        omega (arith, same_number c below)

    no_more : length h1 ≤ length h2
    no_more =
        ⊎_elim
        (λ (more : length h2 < length h1). let in_both = number_within (length h2) more in absurd (omega arith))
        (λ (le : length h1 ≤ length h2). le)
        (cases_lt (length h2) (length h1))

    same_head_at : (c : ℕ) → c < length h1 → slice_index h1 c ≡ slice_index h2 c
    same_head_at c below = sym (other_head n arcs s1 c1 h1 s2 c2 h2 is1 is2 c below) ∙ ap (slice_index h2) (same_number c below)

one_component_of : (n : ℕ) (arcs : List FunArc) (s1 c1 h1 s2 c2 h2 : List ℕ) → IsGraph (graph_of_parts n arcs s1 c1 h1) → IsGraph (graph_of_parts n arcs s2 c2 h2) → c1 ≡ c2
one_component_of n arcs s1 c1 h1 s2 c2 h2 is1 is2 =
    same_number_lists c1 c2 (is1.components.each ∙ sym is2.components.each) (λ f h.
    let len = is1.components.each in
    let a = not_above n arcs s1 c1 h1 s2 c2 h2 is1 is2 f (omega arith) in
    let b = not_above n arcs s2 c2 h2 s1 c1 h1 is2 is1 f (omega arith) in
    omega arith)

pub one_numbering_of : (n : ℕ) (arcs : List FunArc) (s1 c1 h1 s2 c2 h2 : List ℕ) → IsGraph (graph_of_parts n arcs s1 c1 h1) → IsGraph (graph_of_parts n arcs s2 c2 h2) → (c1 ≡ c2) × (h1 ≡ h2)
one_numbering_of n arcs s1 c1 h1 s2 c2 h2 is1 is2 =
    let same = one_component_of n arcs s1 c1 h1 s2 c2 h2 is1 is2 in
    let le = no_more n arcs s1 c1 h1 s2 c2 h2 is1 is2 same in
    let ge = no_more n arcs s2 c2 h2 s1 c1 h1 is2 is1 (sym same) in
    (same, same_number_lists h1 h2 (omega arith) (same_head_at n arcs s1 c1 h1 s2 c2 h2 is1 is2 same))
