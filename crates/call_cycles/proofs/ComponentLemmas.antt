-- The numbered components are those of the graph.
use Rattle.std.proofs.Common.{◌≡◌, ◌<◌, ◌↔◌, ℕ, zero, suc, ◌&&◌, Bool, not, List, [], ◌∷◌, length, map, get_or, inl, inr, refl, ap, sym, ◌∙◌, ⊎_elim, arith}
use Rattle.std.specs.Prelude.{◌==◌, slice_index, slice_index_or}
use Rattle.std.specs.List.{All}
use Rattle.call_cycles.specs.declared.graphs.FunArc.{FunArc}
use Rattle.call_cycles.specs.Sums.{max_below, when}
use Rattle.call_cycles.specs.Graph.{GraphValue, no_arc, IsLevel, AreComponents, component_of, target_of, leaves}
use Rattle.call_cycles.specs.Walks.{Reaches}
use Rattle.call_cycles.specs.Arcs.{AreWithin}
use Rattle.call_cycles.specs.Leaders.{AreLeaders, AreLevels, leaves_leader}
use Rattle.call_cycles.specs.Heads.{IsHead, IsBefore}
use Rattle.call_cycles.specs.Sums.{list_of}
use Rattle.call_cycles.proofs.SumLemmas.{max_ext}
use Rattle.call_cycles.proofs.WalkLemmas.{reaches_itself, reaches_on}
use Rattle.call_cycles.proofs.LevelLemmas.{joined_same}
use Rattle.call_cycles.proofs.ListLemmas.{list_long, list_at, same_test}

heads_at : (order : List (ℕ × ℕ)) (c : ℕ) → slice_index (map (λ (p : ℕ × ℕ). p.1) order) c ≡ (get_or order c (0, 0)).1
heads_at [] c = refl
heads_at (p ∷ order) zero = refl
heads_at (p ∷ order) (suc c) = heads_at order c

heads_long : (order : List (ℕ × ℕ)) → length (map (λ (p : ℕ × ℕ). p.1) order) ≡ length order
heads_long [] = refl
heads_long (p ∷ order) = ap suc (heads_long order)

module _ (n : ℕ) (arcs : List FunArc) (self_calls leaders levels places component heads : List ℕ) (order : List (ℕ × ℕ))
    (within : AreWithin n arcs) (led : AreLeaders n arcs leaders) (lev : AreLevels n arcs leaders levels)
    (those : All (IsHead n leaders levels) order) (each : (h : ℕ) → h < n → slice_index leaders h ≡ h → (c : ℕ) × (c < length order) × ((slice_index_or order c (0, 0)).1 ≡ h))
    (rising : (c d : ℕ) → c < d → d < length order → IsBefore (slice_index_or order c (0, 0)) (slice_index_or order d (0, 0)))
    (placed : (c : ℕ) → c < length order → slice_index places (slice_index_or order c (0, 0)).1 ≡ c)
    (is_component : component ≡ list_of n (λ f. slice_index places (slice_index leaders f))) (is_heads : heads ≡ map (λ (p : ℕ × ℕ). p.1) order) where
  abbrev g : GraphValue
  g = record { functions = n; arcs = arcs; self_calls = self_calls; component = component; heads = heads }

  abbrev H : ℕ → ℕ
  H c = slice_index heads c

  abbrev L : ℕ → ℕ
  L f = slice_index leaders f

  pub count : length heads ≡ length order
  count = ap length is_heads ∙ heads_long order

  head_at : (c : ℕ) → H c ≡ (get_or order c (0, 0)).1
  head_at c = ap (λ (xs : List ℕ). slice_index xs c) is_heads ∙ heads_at order c

  is_head : (c : ℕ) → c < length heads → (H c < n) × (L (H c) ≡ H c) × ((get_or order c (0, 0)).0 ≡ slice_index levels (H c))
  is_head c below = grind (arith, count, head_at)

  leader_leads : (f : ℕ) → f < n → L (L f) ≡ L f
  leader_leads f below = let l = led.each f below in sym (joined_same n arcs leaders within led f (L f) below l.within l.joined)

  place_of : (h : ℕ) → h < n → L h ≡ h → (slice_index places h < length heads) × (H (slice_index places h) ≡ h)
  place_of h below leads = grind (arith, count, head_at)

  component_at : (f : ℕ) → f < n → component_of g f ≡ slice_index places (L f)
  component_at f below = list_at n (λ k. slice_index places (L k)) component is_component f below

  pub component_within : (f : ℕ) → f < n → component_of g f < length heads
  component_within f below = grind (arith, place_of, leader_leads, component_at)

  -- the head of a function's component is its leader
  head_is : (f : ℕ) → f < n → H (component_of g f) ≡ L f
  head_is f below = grind (arith, component_at, place_of, leader_leads)

  same_leader : (f h : ℕ) → f < n → h < n → component_of g f ≡ component_of g h → L f ≡ L h
  same_leader f h fb hb same = sym (head_is f fb) ∙ ap H same ∙ head_is h hb

  same_component : (f h : ℕ) → f < n → h < n → L f ≡ L h → component_of g f ≡ component_of g h
  same_component f h fb hb same = component_at f fb ∙ ap (slice_index places) same ∙ sym (component_at h hb)

  head_component : (c : ℕ) → c < length heads → component_of g (H c) ≡ c
  head_component c below = grind (arith, count, component_at, head_at)

  pub are_joined : (f h : ℕ) → f < n → h < n → (component_of g f ≡ component_of g h) ↔ (Reaches arcs f h × Reaches arcs h f)
  are_joined f h fb hb = grind (arith, same_leader, reaches_on, same_component)

  level : ℕ → ℕ
  level c = slice_index levels (H c)

  -- an arc leaves a component where it leaves what the head leads
  leaves_same : (c i : ℕ) → c < length heads → i < length arcs → leaves g c i ≡ leaves_leader arcs leaders (H c) i
  leaves_same c i below inside =
      let f : ℕ = (get_or arcs i no_arc).caller in
      let h : ℕ = (get_or arcs i no_arc).callee in
      let fb : f < n = (within i inside).0 in
      let hb : h < n = (within i inside).1 in
      let ends : (component_of g f == component_of g h) ≡ (L f == L h) = same_test (component_of g f) (component_of g h) (L f) (L h) (same_leader f h fb hb) (same_component f h fb hb) in
      let here : (component_of g f == c) ≡ (L f == H c) = same_test (component_of g f) c (L f) (H c)
      (λ at. sym (head_is f fb) ∙ ap H at)
      (λ at. sym (head_component (component_of g f) (component_within f fb)) ∙ ap (component_of g) (head_is f fb ∙ at) ∙ head_component c below) in
      ap (λ (b : Bool). not b && component_of g f == c) ends ∙ ap (λ (b : Bool). not (L f == L h) && b) here

  levels_are : IsLevel g level
  unfolding level
  levels_are = record { highest = high }
    where
      high : (c : ℕ) → c < length heads → slice_index levels (H c) ≡ max_below (length arcs) (λ i. when (leaves g c i) (suc (slice_index levels (H (target_of g i)))))
      high c below = grind (arith, is_head, max_ext, leaves_same, head_is)

  pub are_components : AreComponents g
  unfolding level
  are_components = record {
    each = list_long n _ component is_component;
    within = component_within;
    joined = are_joined;
    heads_below = λ c below. (is_head c below).0;
    heads_in = head_component;
    heads_least = λ f below.
        let at = head_is f below in
        let least = (led.each f below).least f below (reaches_itself arcs f, reaches_itself arcs f) in
        omega arith;
    level = level;
    levels = levels_are;
    ordered = λ c d less below.
        let long = count in
        let r = rising c d less (omega arith) in
        let hc = is_head c (omega arith) in
        let hd = is_head d below in
        let ac = head_at c in
        let ad = head_at d in
        let c2 = hc.2 in
        let d2 = hd.2 in
        ⊎_elim
        (λ (lower : (get_or order c (0, 0)).0 < (get_or order d (0, 0)).0). inl (omega arith))
        (λ (same : ((get_or order c (0, 0)).0 ≡ (get_or order d (0, 0)).0) × ((get_or order c (0, 0)).1 < (get_or order d (0, 0)).1)). let s0 = same.0 in let s1 = same.1 in inr (omega arith, omega arith))
        r;
  }
