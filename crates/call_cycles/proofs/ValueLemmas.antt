-- The graph by plain rules is a graph, and the only one of its functions and arcs.
use Rattle.std.proofs.Common.{◌≡◌, ◌≢◌, ◌<◌, ◌≤◌, ℕ, zero, suc, ◌&&◌, Bool, true, List, [], ◌∷◌, length, map, get_or, refl, ap, sym, ◌∙◌, subst, inl, inr, ◌⊎◌, ⊎_elim, arith, Result, IfOk}
use Rattle.std.specs.Prelude.{◌==◌, slice_index}
use Rattle.std.specs.List.{All, AllPairs, Contains, count_by, position_or_len}
use Rattle.std.proofs.lemmas.Bool.{true≢false, cases_lt, eqb-true, eq-eqb, and_parts, and_from}
use Rattle.std.proofs.lemmas.List.{length-map, get_or-map, get_or_default}
use Rattle.std.proofs.lemmas.List.Elements.{All-filter, All-map, filter_passes}
use Rattle.std.proofs.lemmas.List.FromFn.{length-range_with_len, get_or-range_with_len, length-map-range_with_len, get_or-map-range_with_len, fill_by_all}
use Rattle.std.proofs.lemmas.List.Kept.{AllPairs-filter}
use Rattle.std.proofs.lemmas.List.Sums.{count_by-le-length, fails_before_first, passes_at_first, position_or_len_is}
use Rattle.call_cycles.specs.declared.graphs.FunArc.{FunArc}
use Rattle.call_cycles.specs.Sums.{when, numbers_below, list_of}
use Rattle.call_cycles.specs.Graph.{GraphValue, IsGraph, AreComponents}
use Rattle.call_cycles.specs.Arcs.{AreInOrder, AreWithin}
use Rattle.call_cycles.specs.Leaders.{IsLeader, AreLeaders, AreLevels, callee_leader, leaves_leader}
use Rattle.call_cycles.specs.Heads.{IsHead, IsBefore}
use Rattle.call_cycles.specs.Parts.{AreCalled, graph_of_parts}
use Rattle.call_cycles.specs.Values.{reaches_over, are_joined, leader_of, leaders_of, level_after, heads_at, heads_in, components_in, graph_in, profile_graph}
use Rattle.call_cycles.specs.Calls.{function_arcs, own_calls}
use Rattle.elf32_syms.specs.declared.image.Symbol.{Symbol}
use Rattle.call_cycles.proofs.SumLemmas.{max_ext, max_least, all_flat}
use Rattle.call_cycles.proofs.ListLemmas.{list_long, list_at}
use Rattle.call_cycles.proofs.RowLemmas.{numbers_contain, numbers_low, numbers_rise, row_contains, rows_contain, rows_rise}
use Rattle.call_cycles.proofs.WalkLemmas.{reaches_itself}
use Rattle.call_cycles.proofs.ReachLemmas.{reaches_is, joined_is}
use Rattle.call_cycles.proofs.RankLemmas.{IsReached, IsCount, IsRank, are_ranks}
use Rattle.call_cycles.proofs.LevelLemmas.{rank_drops}
use Rattle.call_cycles.proofs.ComponentLemmas.{are_components}
use Rattle.call_cycles.proofs.NumberingLemmas.{one_numbering_of}
use Rattle.call_cycles.proofs.ArcLemmas.{are_within, are_called, are_in_order}

-- the least number below n that passes
first_number : (n : ℕ) (p : ℕ → Bool) (f : ℕ) → f < n → p f ≡ true
    → (position_or_len p (numbers_below n) < n) × (p (position_or_len p (numbers_below n)) ≡ true) × ((h : ℕ) → h < n → p h ≡ true → position_or_len p (numbers_below n) ≤ h)
first_number n p f below passes =
    let long = length-range_with_len 0 n in
    let up = least f below passes in
    let low : position_or_len p (numbers_below n) < n = omega arith in (
      low,
      (
          let first = passes_at_first p (numbers_below n) 0 (omega arith) in
          subst (λ (x : ℕ). p x ≡ true) (get_or-range_with_len 0 n (position_or_len p (numbers_below n)) 0 low ∙ omega arith) first),
      least,
    )
  where
    least : (h : ℕ) → h < n → p h ≡ true → position_or_len p (numbers_below n) ≤ h
    least h inside on =
        ⊎_elim
        (λ (before : h < position_or_len p (numbers_below n)).
        let at : get_or (numbers_below n) h 0 ≡ h = get_or-range_with_len 0 n h 0 inside ∙ omega arith in
        absurd (true≢false (sym on ∙ sym (ap p at) ∙ fails_before_first p (numbers_below n) h 0 before)))
        (λ (le : position_or_len p (numbers_below n) ≤ h). le)
        (cases_lt h (position_or_len p (numbers_below n)))

module _ (n : ℕ) (arcs : List FunArc) (within : AreWithin n arcs) where
  -- ---- leaders

  leader_is : (f : ℕ) → f < n → IsLeader n arcs f (leader_of n arcs f)
  leader_is f below =
      let first = first_number n (are_joined n arcs f) f below ((joined_is n arcs within f f).1 (reaches_itself arcs f, reaches_itself arcs f)) in
      record {
        within = first.0;
        joined = (joined_is n arcs within f (leader_of n arcs f)).0 first.1;
        least = λ h inside joined. first.2 h inside ((joined_is n arcs within f h).1 joined);
      }

  leader_at : (f : ℕ) → f < n → slice_index (leaders_of n arcs) f ≡ leader_of n arcs f
  unfolding leaders_of
  leader_at f below = list_at n (leader_of n arcs) (leaders_of n arcs) refl f below

  leaders_are : AreLeaders n arcs (leaders_of n arcs)
  unfolding leaders_of
  leaders_are = grind (arith, list_long, leader_at, leader_is)

  -- ---- ranks: how many functions each one reaches

  marks : ℕ → List Bool
  marks f = map (reaches_over arcs n f) (numbers_below n)

  marked : (f : ℕ) → IsReached n arcs f (marks f)
  unfolding marks
  marked f = grind (arith, length-map-range_with_len, get_or-map-range_with_len, reaches_is)

  count : ℕ → ℕ
  count f = count_by (λ (b : Bool). b) (marks f)

  ranks : List ℕ
  ranks = list_of n count

  rank_at : (f : ℕ) → f < n → slice_index ranks f ≡ count f
  unfolding ranks
  rank_at f below = list_at n count ranks refl f below

  ranks_are : IsRank n arcs ranks
  unfolding ranks count
  ranks_are = are_ranks n arcs ranks (list_long n count ranks refl) (λ f below. subst (IsCount n arcs f) (sym (rank_at f below)) (marks f, marked f, refl))

  rank_low : (f : ℕ) → f < n → slice_index ranks f ≤ n
  unfolding count
  rank_low f below = grind (arith, rank_at, marked, count_by-le-length)

  -- ---- levels

  -- the arc leaves what h leads: it goes to a lesser rank
  goes_down : (h i : ℕ) → i < length arcs → leaves_leader arcs (leaders_of n arcs) h i ≡ true → slice_index ranks (callee_leader arcs (leaders_of n arcs) i) < slice_index ranks h
  goes_down h i below leaving = grind (arith, rank_drops, leaders_are, ranks, ranks_are)

  -- as many steps as the rank are enough
  enough : (k h : ℕ) → slice_index ranks h ≤ k → level_after arcs (leaders_of n arcs) (suc k) h ≡ level_after arcs (leaders_of n arcs) k h
  enough zero h low =
      let none = max_least (length arcs) (λ i. when (leaves_leader arcs (leaders_of n arcs) h i) 1) 0 (λ i below. one i below (leaves_leader arcs (leaders_of n arcs) h i) refl) in
      omega arith
    where
      one : (i : ℕ) → i < length arcs → (b : Bool) → leaves_leader arcs (leaders_of n arcs) h i ≡ b → when b 1 ≤ 0
      one i below b leaving = grind (arith, goes_down)
  enough (suc k) h low = max_ext (length arcs) _ _ (λ i below. one (enough k) i below (leaves_leader arcs (leaders_of n arcs) h i) refl)
    where
      one : ((x : ℕ) → slice_index ranks x ≤ k → level_after arcs (leaders_of n arcs) (suc k) x ≡ level_after arcs (leaders_of n arcs) k x) → (i : ℕ) → i < length arcs → (b : Bool) → leaves_leader arcs (leaders_of n arcs) h i ≡ b
          → when b (suc (level_after arcs (leaders_of n arcs) (suc k) (callee_leader arcs (leaders_of n arcs) i))) ≡ when b (suc (level_after arcs (leaders_of n arcs) k (callee_leader arcs (leaders_of n arcs) i)))
      one before i below b leaving = grind (arith, goes_down)

  level : ℕ → ℕ
  level h = level_after arcs (leaders_of n arcs) n h

  levels : List ℕ
  levels = list_of n level

  level_at : (h : ℕ) → h < n → slice_index levels h ≡ level h
  unfolding levels
  level_at h below = list_at n level levels refl h below

  callee_led : (i : ℕ) → i < length arcs → callee_leader arcs (leaders_of n arcs) i < n
  callee_led i below = (leaders_are.each _ (within i below).1).within

  levels_are : AreLevels n arcs (leaders_of n arcs) levels
  unfolding level levels
  levels_are = record {
    len = list_long n level levels refl;
    highest = λ h below.
        level_at h below
        ∙ sym (enough n h (rank_low h below))
        ∙ max_ext (length arcs) _ _ (λ i inside. ap (λ (x : ℕ). when (leaves_leader arcs (leaders_of n arcs) h i) (suc x)) (sym (level_at (callee_leader arcs (leaders_of n arcs) i) (callee_led i inside))));
  }

  -- ---- heads

  abbrev leads : ℕ → Type 0
  leads h = (h < n) × (slice_index (leaders_of n arcs) h ≡ h)

  abbrev before : ℕ → ℕ → Type 0
  before h k = (level h < level k) ⊎ ((level h ≡ level k) × (h < k))

  row_heads : (l : ℕ) → All (λ h. leads h × (level h ≡ l)) (heads_at n arcs (leaders_of n arcs) l)
  unfolding level
  row_heads l i d below =
      let low = All-filter (λ h. slice_index (leaders_of n arcs) h == h && level_after arcs (leaders_of n arcs) n h == l) (λ h. h < n) (numbers_below n) (numbers_low n) i d below in
      let passes = filter_passes (λ h. slice_index (leaders_of n arcs) h == h && level_after arcs (leaders_of n arcs) n h == l) (numbers_below n) i d below in
      let parts = and_parts _ _ passes in
      ((low, eqb-true _ _ parts.0), eqb-true _ _ parts.1)

  row_rises : (l : ℕ) → AllPairs before (heads_at n arcs (leaders_of n arcs) l)
  row_rises l i j d less below =
      let up = AllPairs-filter (λ a b. a < b) (λ h. slice_index (leaders_of n arcs) h == h && level_after arcs (leaders_of n arcs) n h == l) (numbers_below n) (numbers_rise n) i j d less below in
      let one = row_heads l i d (omega arith) in
      let two = row_heads l j d below in
      inr (one.1 ∙ sym two.1, up)

  heads_lead : All leads (heads_in n arcs)
  unfolding heads_in
  heads_lead = all_flat leads (heads_at n arcs (leaders_of n arcs)) (suc n) (λ l below i d inside. (row_heads l i d inside).0)

  heads_rise : AllPairs before (heads_in n arcs)
  unfolding heads_in
  heads_rise =
      rows_rise before (heads_at n arcs (leaders_of n arcs)) (suc n) (λ l below. row_rises l)
      (λ j l less below x d inside y e there.
      let one = (row_heads j x d inside).1 in
      let two = (row_heads l y e there).1 in
      inl (omega arith))

  level_low : (k h : ℕ) → level_after arcs (leaders_of n arcs) k h ≤ k
  level_low zero h = omega arith
  level_low (suc k) h = max_least (length arcs) _ (suc k) (λ i below. one (level_low k (callee_leader arcs (leaders_of n arcs) i)) (leaves_leader arcs (leaders_of n arcs) h i))
    where
      one : {x : ℕ} → x ≤ k → (b : Bool) → when b (suc x) ≤ suc k
      one low b = grind arith

  each_head : (h : ℕ) → leads h → Contains (heads_in n arcs) h
  unfolding heads_in
  each_head h led =
      let low = level_low n h in
      rows_contain (heads_at n arcs (leaders_of n arcs)) (suc n) (level_after arcs (leaders_of n arcs) n h) h (omega arith)
      (row_contains (λ k. slice_index (leaders_of n arcs) k == k && level_after arcs (leaders_of n arcs) n k == level_after arcs (leaders_of n arcs) n h) (numbers_below n) h (numbers_contain n h led.0)
      (and_from _ _ (eq-eqb _ _ led.1) (eq-eqb _ _ refl)))

  -- ---- the order, with levels

  abbrev order : List (ℕ × ℕ)
  order = map (λ h. (level h, h)) (heads_in n arcs)

  order_long : length order ≡ length (heads_in n arcs)
  order_long = length-map (heads_in n arcs) (λ h. (level h, h))

  order_at : (c : ℕ) → c < length (heads_in n arcs) → get_or order c (0, 0) ≡ (level (slice_index (heads_in n arcs) c), slice_index (heads_in n arcs) c)
  order_at c below = get_or-map (λ h. (level h, h)) (heads_in n arcs) c 0 (0, 0) below

  in_order : All (IsHead n (leaders_of n arcs) levels) order
  in_order =
      All-map (IsHead n (leaders_of n arcs) levels) (λ h. (level h, h)) (heads_in n arcs)
      (λ i d below. let led = heads_lead i d below in (led.0, led.1, sym (level_at (get_or (heads_in n arcs) i d) led.0)))

  each_in_order : (h : ℕ) → h < n → slice_index (leaders_of n arcs) h ≡ h → (c : ℕ) × (c < length order) × ((get_or order c (0, 0)).1 ≡ h)
  each_in_order h below leads_it = grind (arith, each_head, order_long, get_or_default, order_at)

  order_rises : (c d : ℕ) → c < d → d < length order → IsBefore (get_or order c (0, 0)) (get_or order d (0, 0))
  order_rises c d less below =
      let long = order_long in
      let low : d < length (heads_in n arcs) = omega arith in
      let up = heads_rise c d 0 less low in
      subst (λ (p : ℕ × ℕ). IsBefore p (get_or order d (0, 0))) (sym (order_at c (omega arith)))
      (subst (IsBefore (level (slice_index (heads_in n arcs) c), slice_index (heads_in n arcs) c)) (sym (order_at d low)) up)

  -- ---- the place of each head

  place : ℕ → ℕ
  place h = position_or_len (λ x. x == h) (heads_in n arcs)

  places : List ℕ
  places = list_of n place

  place_at : (h : ℕ) → h < n → slice_index places h ≡ place h
  unfolding places
  place_at h below = list_at n place places refl h below

  apart : (k c : ℕ) → k < c → c < length (heads_in n arcs) → slice_index (heads_in n arcs) k ≢ slice_index (heads_in n arcs) c
  apart k c less below same =
      let e : level (slice_index (heads_in n arcs) k) ≡ level (slice_index (heads_in n arcs) c) = ap level same in
      ⊎_elim
      (λ (lower : level (slice_index (heads_in n arcs) k) < level (slice_index (heads_in n arcs) c)). absurd (omega arith))
      (λ (both : (level (slice_index (heads_in n arcs) k) ≡ level (slice_index (heads_in n arcs) c)) × (slice_index (heads_in n arcs) k < slice_index (heads_in n arcs) c)).
      let b1 = both.1 in
      absurd (omega arith))
      (heads_rise k c 0 less below)

  placed : (c : ℕ) → c < length order → slice_index places (get_or order c (0, 0)).1 ≡ c
  unfolding place
  placed c below = grind (arith, order_long, order_at, place_at, heads_lead, position_or_len_is, apart)

  components_are : components_in n arcs ≡ list_of n (λ f. slice_index places (slice_index (leaders_of n arcs) f))
  unfolding components_in place
  components_are =
      fill_by_all (λ f. slice_index places (slice_index (leaders_of n arcs) f)) (components_in n arcs) n 0
      (list_long n (λ f. place (leader_of n arcs f)) (components_in n arcs) refl)
      (λ f below.
      list_at n (λ k. place (leader_of n arcs k)) (components_in n arcs) refl f below
      ∙ sym (place_at (leader_of n arcs f) (leader_is f below).within)
      ∙ ap (slice_index places) (sym (leader_at f below)))

  value_components : (self_calls : List ℕ) → AreComponents (graph_in n arcs self_calls)
  value_components self_calls =
      are_components n arcs self_calls (leaders_of n arcs) levels places (components_in n arcs) (heads_in n arcs) order within leaders_are levels_are in_order each_in_order order_rises placed components_are
      (seconds (heads_in n arcs))
    where
      seconds : (hs : List ℕ) → hs ≡ map (λ (p : ℕ × ℕ). p.1) (map (λ h. (level h, h)) hs)
      seconds [] = refl
      seconds (h ∷ hs) = ap (λ (xs : List ℕ). h ∷ xs) (seconds hs)

pub value_is_graph : (n : ℕ) (arcs : List FunArc) (self_calls : List ℕ) → AreWithin n arcs → AreCalled arcs → AreInOrder arcs → IsGraph (graph_in n arcs self_calls)
value_is_graph n arcs self_calls within called rising = record {
  arcs = record { callers = λ i below. (within i below).0; callees = λ i below. (within i below).1; called = λ i below. (called i below).0; apart = λ i below. (called i below).1; rising = rising };
  components = value_components n arcs within self_calls;
}

pub only_value : (g : GraphValue) → IsGraph g → g ≡ graph_in g.functions g.arcs g.self_calls
only_value g is =
    let value = value_is_graph g.functions g.arcs g.self_calls (λ i below. (is.arcs.callers i below, is.arcs.callees i below)) (λ i below. (is.arcs.called i below, is.arcs.apart i below)) is.arcs.rising in
    let same = one_numbering_of g.functions g.arcs g.self_calls g.component g.heads g.self_calls (components_in g.functions g.arcs) (heads_in g.functions g.arcs) is value in
    λ i. graph_of_parts g.functions g.arcs g.self_calls (same.0 i) (same.1 i)

pub ok_value : {E : Type 0} (es : List ((ℕ × ℕ) × ℕ)) (symbols : List Symbol) (r : Result GraphValue E) → IfOk r IsGraph → IfOk r (λ g. g.functions ≡ length symbols) → IfOk r (λ g. g.arcs ≡ function_arcs es symbols) → IfOk r (λ g. g.self_calls ≡ own_calls es symbols)
    → IfOk r (λ g. g ≡ profile_graph es symbols)
ok_value es symbols r is functions arcs self_calls = grind (arith, only_value)

pub profile_is_graph : (es : List ((ℕ × ℕ) × ℕ)) (symbols : List Symbol) → IsGraph (profile_graph es symbols)
profile_is_graph es symbols =
    value_is_graph (length symbols) (function_arcs es symbols) (own_calls es symbols)
    (are_within es symbols (function_arcs es symbols) (length symbols) refl refl) (are_called es symbols (function_arcs es symbols) refl) (are_in_order es symbols (function_arcs es symbols) refl)
