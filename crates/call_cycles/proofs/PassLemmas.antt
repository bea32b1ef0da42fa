-- The steps of a pass keep what holds of it.
use Rattle.std.proofs.Common.{◌≡◌, ◌≢◌, ◌<◌, ◌≤◌, ℕ, zero, suc, ◌+◌, ◌-◌, Bool, true, false, List, [], ◌∷◌, ◌++◌, length, get_or, take, drop, Some, inl, inr, ◌⊎◌, refl, ap, sym, ◌∙◌, subst, ⊎_elim, arith, length-set, length-append, get_or-set_same, get_or-set_other}
use Rattle.std.specs.Prelude.{◌==◌, ◌&&◌, nat_lt, nat_le, if◌then◌else◌, filter, slice_get, slice_index, slice_set}
use Rattle.std.specs.List.{AllPairs, Contains, count_by, sum_by}
use Rattle.std.proofs.lemmas.Bool.{cases_eq, cases_lt, eq-eqb, ne_eqb, le-leb, leb-true}
use Rattle.std.proofs.lemmas.List.{get_or_default, get_or_push, get_or_append_left, length_push, length-take, get_or-take, length-drop, get_or-drop, take_at, take_all, take_more}
use Rattle.std.proofs.lemmas.Option.{slice_get_within, get_or_from_slice_get}
use Rattle.std.proofs.lemmas.List.Elements.{All-append, All-filter, All-contains, Contains-append_left, Contains-append_right, Contains-get_or, Contains-push, filter_passes}
use Rattle.std.proofs.lemmas.List.Kept.{AllPairs-filter}
use Rattle.std.proofs.lemmas.List.Quantifiers.{all_pairs_push}
use Rattle.std.proofs.lemmas.List.Sums.{sum_by-set}
use Rattle.call_cycles.specs.declared.graphs.FunArc.{FunArc}
use Rattle.call_cycles.specs.Walks.{Reaches}
use Rattle.call_cycles.specs.Arcs.{AreWithin, AreByCaller}
use Rattle.call_cycles.specs.Leaders.{AreRanks, IsRankOrder}
use Rattle.call_cycles.specs.Passes.{caller_at, callee_at, IsOpen, AllFollowed, IsSearch, PassValue, IsPass, IsNext, EndsIn, rank_in, place_in, unseen_count, work_left, with_seen, with_rank, with_component, left}
use Rattle.call_cycles.proofs.RankLemmas.{falls_along}
use Rattle.call_cycles.proofs.RowLemmas.{row_contains, pairs_join, pairs_taken}
use Rattle.call_cycles.proofs.SearchLemmas.{none_open, search_sees, search_passes, search_joins, search_returns, search_completes, part_le, reach_callee}

-- ---- one more place in a list

set_at : (xs : List ℕ) (f x w : ℕ) → f < length xs → w ≡ f → slice_index (slice_set xs f x) w ≡ x
set_at xs f x w below at = ap (slice_index (slice_set xs f x)) at ∙ get_or-set_same xs f x 0 below

set_apart : (xs : List ℕ) (f x w : ℕ) → w ≢ f → slice_index (slice_set xs f x) w ≡ slice_index xs w
set_apart xs f x w apart = get_or-set_other xs f w x 0 apart

-- ---- a function is seen

module _ (n : ℕ) (arcs : List FunArc) (p : PassValue) (is : IsPass n arcs p) where
  -- one more is seen
  one_fewer : (f : ℕ) → f < n → place_in p f ≡ 0 → (x : ℕ) → x ≢ 0 → count_by (λ k. k == 0) (slice_set p.places f x) + 1 ≡ unseen_count p
  one_fewer f below new x some = grind (arith, sum_by-set)

  late : (w : ℕ) → IsOpen (place_in p) (rank_in p) w → place_in p w < length p.path + 1
  late w open_w = let o = is.open_path w open_w in let o1 = o.1 in let o2 = o.2 in omega arith

  module _ (f : ℕ) (below : f < n) (new : place_in p f ≡ 0) (to_new : (w : ℕ) → IsOpen (place_in p) (rank_in p) w → Reaches arcs w f) where
    abbrev q : PassValue
    q = with_seen p f

    at_f : place_in q f ≡ length p.path + 1
    at_f = let len = is.places in set_at p.places f (length p.path + 1) f (omega arith) refl

    at_other : (w : ℕ) → w ≢ f → place_in q w ≡ place_in p w
    at_other w apart = set_apart p.places f (length p.path + 1) w apart

    seen_still : (w : ℕ) → place_in p w ≢ 0 → place_in q w ≢ 0
    seen_still w was none = was (sym (at_other w (λ same. was (ap (place_in p) same ∙ new))) ∙ none)

    seen_f : place_in q f ≢ 0
    seen_f none = let at = at_f in omega arith

    on_path : (k : ℕ) → k < length p.path + 1 → (slice_index q.path k < n) × IsOpen (place_in q) (rank_in q) (slice_index q.path k) × (place_in q (slice_index q.path k) ≡ suc k)
    on_path k inside = grind (arith, get_or_append_left, at_other, get_or_push, at_f)

    in_path : (w : ℕ) → IsOpen (place_in q) (rank_in q) w → (k : ℕ) × (k < length q.path) × (place_in q w ≡ suc k) × (slice_index q.path k ≡ w)
    in_path w open_w = grind (arith, length_push, at_f, get_or_push, at_other, get_or_append_left)

    parts_low : (k d : ℕ) → k < length p.parts → get_or p.parts k d < length p.path + 1
    parts_low k d inside =
        let b = is.search.begins (get_or p.parts k d) (Contains-get_or p.parts k d inside) in
        omega (arith, late b.0 (All-contains (IsOpen (place_in p) (rank_in p)) p.calls b.0 is.search.calls_open b.1), b.2)

    seen_pass : IsPass n arcs (with_seen p f)
    seen_pass = record {
      search = search_sees arcs (place_in p) (rank_in p) (slice_index p.next) p.parts p.calls (length p.order) is.search f new to_new
          (length p.path + 1) (λ e. omega arith) late (place_in q) at_f at_other
          (λ i inside mine. (
          let e : slice_index p.next (caller_at arcs i) ≡ slice_index p.next f = ap (slice_index p.next) mine in
          let l = is.fresh i inside (ap (place_in p) mine ∙ new) in
          omega arith));
      places = length-set p.places f (length p.path + 1) ∙ is.places;
      ranks = is.ranks;
      nexts = is.nexts;
      fresh = λ i inside none. is.fresh i inside (sym (at_other (caller_at arcs i) (λ same. seen_f (sym (ap (place_in q) same) ∙ none))) ∙ none);
      from = is.from;
      path_open = λ k inside. on_path k (let long = length_push p.path f in omega arith);
      open_path = in_path;
      parts_rise = all_pairs_push (λ a b. a < b) p.parts (length p.path + 1) is.parts_rise parts_low;
      order_within = is.order_within;
      order_ranked = is.order_ranked;
      order_rises = is.order_rises;
      ranked = is.ranked;
      all = (
          let one = one_fewer f below new (length p.path + 1) (λ e. omega arith) in
          let long = length_push p.path f in
          let a = is.all in
          omega arith);
    }

    seen_nearer : work_left arcs (with_seen p f) < work_left arcs p
    seen_nearer = grind (arith, one_fewer, length_push)

-- ---- an arc is followed, and the parts from its callee's on are one where it is open

module _ (n : ℕ) (arcs : List FunArc) (within : AreWithin n arcs) (p : PassValue) (is : IsPass n arcs p) (i : ℕ) (below : i < length arcs)
    (last : EndsIn p.calls (caller_at arcs i)) (here : slice_index p.next (caller_at arcs i) ≡ i) where
  v : ℕ
  v = caller_at arcs i

  v_low : v < n
  unfolding v
  v_low = (within i below).0

  -- the search with its last call apart
  at_last : IsSearch arcs (place_in p) (rank_in p) (slice_index p.next) p.parts (last.0 ++ caller_at arcs i ∷ []) (length p.order)
  at_last = subst (λ (xs : List ℕ). IsSearch arcs (place_in p) (rank_in p) (slice_index p.next) p.parts xs (length p.order)) last.1 is.search

  -- the caller reaches the callee, and all open functions reach the caller
  pub callee_reached : (w : ℕ) → IsOpen (place_in p) (rank_in p) w → Reaches arcs w (callee_at arcs i)
  callee_reached w open_w = reach_callee arcs (place_in p) (rank_in p) (slice_index p.next) p.parts last.0 (caller_at arcs i) (length p.order) at_last i below refl w open_w

  next' : List ℕ
  next' = slice_set p.next (caller_at arcs i) (i + 1)

  next_at : slice_index next' (caller_at arcs i) ≡ suc i
  unfolding next' v
  next_at = let len = is.nexts in let low = v_low in set_at p.next (caller_at arcs i) (i + 1) (caller_at arcs i) (omega arith) refl ∙ omega arith

  next_other : (w : ℕ) → w ≢ caller_at arcs i → slice_index next' w ≡ slice_index p.next w
  unfolding next'
  next_other w apart = set_apart p.next (caller_at arcs i) (i + 1) w apart

  v_seen : place_in p (caller_at arcs i) ≢ 0
  v_seen = (All-contains (IsOpen (place_in p) (rank_in p)) (last.0 ++ caller_at arcs i ∷ []) (caller_at arcs i) at_last.calls_open (Contains-push last.0 (caller_at arcs i))).0

  left_less : sum_by (λ k. length arcs - k) next' < sum_by (λ k. length arcs - k) p.next
  unfolding next' v
  left_less = grind (arith, sum_by-set)

  with_parts : List ℕ → PassValue
  with_parts parts = record p { next = slice_set p.next (caller_at arcs i) (i + 1); parts = parts }

  followed_pass : (parts : List ℕ) → IsSearch arcs (place_in p) (rank_in p) (slice_index next') parts (last.0 ++ caller_at arcs i ∷ []) (length p.order) → AllPairs (λ a b. a < b) parts → IsNext n arcs p (with_parts parts)
  unfolding next' with_parts
  followed_pass parts search rises = grind (arith, left_less, length-set, next_other, v_seen, next_at)

  -- to a function that is in a component
  pub passed_next : rank_in p (callee_at arcs i) ≢ 0 → IsNext n arcs p (record p { next = slice_set p.next (caller_at arcs i) (i + 1) })
  unfolding next' with_parts
  passed_next to = search (followed_pass, search_passes, at_last, next', next_at, next_other)

  -- to an open function
  pub joined_next : IsOpen (place_in p) (rank_in p) (callee_at arcs i)
      → IsNext n arcs p (record p { next = slice_set p.next (caller_at arcs i) (i + 1); parts = filter (λ b. nat_le b (place_in p (callee_at arcs i))) p.parts })
  unfolding next' with_parts
  joined_next to =
      followed_pass (filter (λ b. nat_le b (place_in p (callee_at arcs i))) p.parts)
      (search_joins arcs (place_in p) (rank_in p) (slice_index p.next) p.parts last.0 (caller_at arcs i) (length p.order) at_last i refl (slice_index next') next_at here next_other below to
      (filter (λ b. nat_le b (place_in p (callee_at arcs i))) p.parts)
      (λ b has. (
        All-contains (λ x. Contains p.parts x) (filter (λ x. nat_le x (place_in p (callee_at arcs i))) p.parts) b (All-filter (λ x. nat_le x (place_in p (callee_at arcs i))) (λ x. Contains p.parts x) p.parts (λ k d inside. Contains-get_or p.parts k d inside)) has,
        leb-true b (place_in p (callee_at arcs i)) (All-contains (λ x. nat_le x (place_in p (callee_at arcs i)) ≡ true) (filter (λ x. nat_le x (place_in p (callee_at arcs i))) p.parts) b (filter_passes (λ x. nat_le x (place_in p (callee_at arcs i))) p.parts) has),
      ))
      (λ b has le. row_contains (λ x. nat_le x (place_in p (callee_at arcs i))) p.parts b has (le-leb b (place_in p (callee_at arcs i)) le)))
      (AllPairs-filter (λ a b. a < b) (λ b. nat_le b (place_in p (callee_at arcs i))) p.parts is.parts_rise)

-- ---- one rank for some functions

with_rank_long : (ranks fs : List ℕ) (r : ℕ) → length (with_rank ranks fs r) ≡ length ranks
with_rank_long ranks [] r = refl
with_rank_long ranks (f ∷ fs) r = with_rank_long (slice_set ranks f r) fs r ∙ length-set ranks f r

with_rank_keeps : (ranks fs : List ℕ) (r w : ℕ) → w < length ranks → slice_index ranks w ≡ r → slice_index (with_rank ranks fs r) w ≡ r
with_rank_keeps ranks [] r w below is = is
with_rank_keeps ranks (f ∷ fs) r w below is =
    let long = length-set ranks f r in
    with_rank_keeps (slice_set ranks f r) fs r w (omega arith)
    (⊎_elim (λ (same : w ≡ f). set_at ranks f r w (omega arith) same) (λ (apart : w ≢ f). set_apart ranks f r w apart ∙ is) (cases_eq w f))

with_rank_in : (ranks fs : List ℕ) (r w k : ℕ) → w < length ranks → k < length fs → get_or fs k w ≡ w → slice_index (with_rank ranks fs r) w ≡ r
with_rank_in ranks [] r w k below inside at = absurd (omega arith)
with_rank_in ranks (f ∷ fs) r w zero below inside at = grind (arith, length-set, with_rank_keeps, set_at)
with_rank_in ranks (f ∷ fs) r w (suc k) below inside at =
    let long = length-set ranks f r in
    with_rank_in (slice_set ranks f r) fs r w k (omega arith) (omega arith) at

with_rank_out : (ranks fs : List ℕ) (r w : ℕ) → (Contains fs w → ⊥) → slice_index (with_rank ranks fs r) w ≡ slice_index ranks w
with_rank_out ranks [] r w out = refl
with_rank_out ranks (f ∷ fs) r w out =
    with_rank_out (slice_set ranks f r) fs r w (λ has. out (Contains-append_right (f ∷ []) fs w has))
    ∙ set_apart ranks f r w (λ same. out (zero, omega arith, sym same))

-- ---- all arcs of the last function of calls are followed

module _ (n : ℕ) (arcs : List FunArc) (p : PassValue) (is : IsPass n arcs p) (v : ℕ) (last : EndsIn p.calls v) (all : AllFollowed arcs (slice_index p.next) v) where
  at_end : IsSearch arcs (place_in p) (rank_in p) (slice_index p.next) p.parts (last.0 ++ v ∷ []) (length p.order)
  at_end = subst (λ (xs : List ℕ). IsSearch arcs (place_in p) (rank_in p) (slice_index p.next) p.parts xs (length p.order)) last.1 is.search

  v_on_path : IsOpen (place_in p) (rank_in p) v
  v_on_path = All-contains (IsOpen (place_in p) (rank_in p)) (last.0 ++ v ∷ []) v at_end.calls_open (Contains-push last.0 v)

  one_call_less : length last.0 < length p.calls
  one_call_less = let long = length_push last.0 v in let e : length p.calls ≡ length (last.0 ++ v ∷ []) = ap length last.1 in omega arith

  -- there is a part
  some_part : 0 < length p.parts
  some_part = let c = is.search.cover v v_on_path in let c1 = c.1.1 in omega arith

  last_part : ℕ
  last_part = slice_index p.parts (length p.parts - 1)

  last_part_le : last_part ≤ place_in p v
  unfolding last_part
  last_part_le =
      let some = some_part in
      part_le arcs (place_in p) (rank_in p) (slice_index p.next) p.parts last.0 v (length p.order) at_end last_part (Contains-get_or p.parts (length p.parts - 1) 0 (omega arith))

  -- a part is the last one, or it begins before that
  part_cases : (b : ℕ) → Contains p.parts b → (b ≡ last_part) ⊎ ((b < last_part) × Contains (take (length p.parts - 1) p.parts) b)
  unfolding last_part
  part_cases b has =
      ⊎_elim
      (λ (at : has.0 ≡ length p.parts - 1). inl (sym has.2 ∙ get_or_default p.parts has.0 b 0 has.1 ∙ ap (slice_index p.parts) at))
      (λ (apart : has.0 ≢ length p.parts - 1).
      let up = is.parts_rise has.0 (length p.parts - 1) 0 (omega arith) (omega arith) in
      let e = get_or_default p.parts has.0 b 0 has.1 in
      let long = length-take (length p.parts - 1) p.parts in
      inr (omega arith, (has.0, omega arith, get_or-take (length p.parts - 1) p.parts has.0 b (omega arith) ∙ has.2)))
      (cases_eq has.0 (length p.parts - 1))

  front_part : (b : ℕ) → Contains (take (length p.parts - 1) p.parts) b → Contains p.parts b × (b < last_part)
  unfolding last_part
  front_part b has =
      let long = length-take (length p.parts - 1) p.parts in
      let up = is.parts_rise has.0 (length p.parts - 1) 0 (omega arith) (omega arith) in
      let at : get_or p.parts has.0 b ≡ b = sym (get_or-take (length p.parts - 1) p.parts has.0 b (omega arith)) ∙ has.2 in
      let e = get_or_default p.parts has.0 b 0 (omega arith) in
      ((has.0, omega arith, at), omega arith)

  returned_next : slice_index p.parts (length p.parts - 1) ≢ place_in p v → IsNext n arcs p (record p { calls = last.0 })
  unfolding last_part
  returned_next inner = record {
    pass = record {
      search = search_returns arcs (place_in p) (rank_in p) (slice_index p.next) p.parts last.0 v (length p.order) at_end all
          (λ has. ⊎_elim
          (λ (at : place_in p v ≡ last_part). inner (sym at))
          (λ (before : (place_in p v < last_part) × Contains (take (length p.parts - 1) p.parts) (place_in p v)). let le = last_part_le in let b0 = before.0 in absurd (omega arith))
          (part_cases (place_in p v) has));
      places = is.places;
      ranks = is.ranks;
      nexts = is.nexts;
      fresh = is.fresh;
      from = is.from;
      path_open = is.path_open;
      open_path = is.open_path;
      parts_rise = is.parts_rise;
      order_within = is.order_within;
      order_ranked = is.order_ranked;
      order_rises = is.order_rises;
      ranked = is.ranked;
      all = is.all;
    };
    nearer = let less = one_call_less in omega arith;
    seen = λ w some. some;
  }

  -- v begins the last part
  module _ (own : slice_index p.parts (length p.parts - 1) ≡ place_in p v) where
    abbrev part : List ℕ
    part = drop (place_in p v - 1) p.path

    abbrev more : ℕ
    more = length p.order + (length p.path - (place_in p v - 1))

    abbrev rank' : ℕ → ℕ
    rank' w = slice_index (with_rank p.ranks part more) w

    from_low : place_in p v - 1 < length p.path
    from_low = let o = is.open_path v v_on_path in let o1 = o.1 in let o2 = o.2 in omega arith

    part_long : length part ≡ length p.path - (place_in p v - 1)
    part_long = length-drop (place_in p v - 1) p.path

    -- an open function from v on is in the part
    in_part : (w : ℕ) → IsOpen (place_in p) (rank_in p) w → place_in p v ≤ place_in p w → Contains part w
    in_part w open_w le =
        let o = is.open_path w open_w in
        let long = part_long in
        let k : ℕ = o.0 - (place_in p v - 1) in
        let at : (place_in p v - 1) + k ≡ o.0 = omega arith in
        (k, omega arith, get_or-drop (place_in p v - 1) p.path k w ∙ ap (λ (j : ℕ). get_or p.path j w) at ∙ get_or_default p.path o.0 w 0 o.1 ∙ o.3)

    part_open : (k d : ℕ) → k < length part → IsOpen (place_in p) (rank_in p) (get_or part k d) × (place_in p v ≤ place_in p (get_or part k d)) × (get_or part k d < n)
    part_open k d inside = grind (arith, part_long, get_or_default, get_or-drop)

    inside_part : (w : ℕ) → IsOpen (place_in p) (rank_in p) w → place_in p v ≤ place_in p w → rank' w ≡ more
    inside_part w open_w le = grind (arith, in_part, with_rank_in)

    outside_part : (w : ℕ) → (IsOpen (place_in p) (rank_in p) w → place_in p w < place_in p v) → rank' w ≡ rank_in p w
    outside_part w out = grind (arith, with_rank_out, part_open)

    ranked_still : (w : ℕ) → rank_in p w ≢ 0 → rank' w ≡ rank_in p w
    ranked_still w some = outside_part w (λ open_w. absurd (some open_w.1))

    path_still : (k : ℕ) → k < length (take (place_in p v - 1) p.path)
        → (slice_index (take (place_in p v - 1) p.path) k < n) × IsOpen (place_in p) rank' (slice_index (take (place_in p v - 1) p.path) k) × (place_in p (slice_index (take (place_in p v - 1) p.path) k) ≡ suc k)
    path_still k inside = grind (arith, length-take, outside_part, get_or-take)

    still_in_path : (w : ℕ) → IsOpen (place_in p) rank' w → (k : ℕ) × (k < length (take (place_in p v - 1) p.path)) × (place_in p w ≡ suc k) × (slice_index (take (place_in p v - 1) p.path) k ≡ w)
    still_in_path w open_w = grind (arith, length-take, get_or-take, inside_part, ranked_still)

    order_still : (f : ℕ) → rank_in p f ≢ 0 → (rank' f < more) × (rank' f ≡ rank_in p f)
    order_still f some = let e = ranked_still f some in let l = is.search.low f in let low = from_low in (omega arith, e)

    rises_on : AllPairs (λ f g. rank' f ≤ rank' g) (p.order ++ part)
    rises_on =
        pairs_join (λ f g. rank' f ≤ rank' g) p.order part
        (λ i j d less below. (
        let a = order_still (get_or p.order i d) (is.order_ranked i d (omega arith)) in
        let b = order_still (get_or p.order j d) (is.order_ranked j d below) in
        let up = is.order_rises i j d less below in
        let a1 = a.1 in
        let b1 = b.1 in
        omega arith))
        (λ i j d less below. (
        let a = part_open i d (omega arith) in
        let b = part_open j d below in
        let ra = inside_part (get_or part i d) a.0 a.1 in
        let rb = inside_part (get_or part j d) b.0 b.1 in
        omega arith))
        (λ i d inside j e within. (
        let a = (order_still (get_or p.order i d) (is.order_ranked i d inside)).0 in
        let b = part_open j e within in
        let rb = inside_part (get_or part j e) b.0 b.1 in
        omega arith))

    ranked_in_order : (w : ℕ) → rank' w ≢ 0 → Contains (p.order ++ part) w
    ranked_in_order w some =
        ⊎_elim
        (λ (ranked : rank_in p w ≢ 0). Contains-append_left p.order part w (is.ranked w ranked))
        (λ (off : rank_in p w ≡ 0).
        ⊎_elim
        (λ (unseen : place_in p w ≡ 0). absurd (some (outside_part w (λ open_w. absurd (open_w.0 unseen)) ∙ off)))
        (λ (was_seen : place_in p w ≢ 0).
        ⊎_elim
        (λ (less : place_in p w < place_in p v). absurd (some (outside_part w (λ open_w. less) ∙ off)))
        (λ (le : place_in p v ≤ place_in p w). Contains-append_right p.order part w (in_part w (was_seen, off) le))
        (cases_lt (place_in p w) (place_in p v)))
        (cases_eq (place_in p w) 0))
        (swapped (cases_eq (rank_in p w) 0))
      where
        swapped : {A B : Type 0} → A ⊎ B → B ⊎ A
        swapped is = grind arith

    completed_next : IsNext n arcs p (with_component (record p { calls = last.0 }) (place_in p v - 1))
    unfolding last_part
    completed_next = record {
      pass = record {
        search = subst (IsSearch arcs (place_in p) rank' (slice_index p.next) (take (length p.parts - 1) p.parts) last.0) (let long = length-append p.order part in let l = part_long in let e : more ≡ length (p.order ++ part) = omega arith in e)
            (search_completes arcs (place_in p) (rank_in p) (slice_index p.next) p.parts last.0 v (length p.order) at_end all
            (subst (Contains p.parts) own (Contains-get_or p.parts (length p.parts - 1) 0 (let some = some_part in omega arith)))
            more (let low = from_low in omega arith) rank' inside_part outside_part (take (length p.parts - 1) p.parts)
            (λ b has. (let f = front_part b has in let f1 = f.1 in (f.0, omega arith)))
            (λ b has less. ⊎_elim
            (λ (at : b ≡ last_part). absurd (omega arith))
            (λ (before : (b < last_part) × Contains (take (length p.parts - 1) p.parts) b). before.1)
            (part_cases b has)));
        places = is.places;
        ranks = with_rank_long p.ranks part more ∙ is.ranks;
        nexts = is.nexts;
        fresh = is.fresh;
        from = is.from;
        path_open = path_still;
        open_path = still_in_path;
        parts_rise = pairs_taken (length p.parts - 1) p.parts is.parts_rise;
        order_within = All-append (λ f. f < n) p.order part is.order_within (λ k d inside. (part_open k d inside).2);
        order_ranked = All-append (λ f. rank' f ≢ 0) p.order part
            (λ k d inside none. is.order_ranked k d inside (sym (order_still (get_or p.order k d) (is.order_ranked k d inside)).1 ∙ none))
            (λ k d inside none. (
            let a = part_open k d inside in
            let ra = inside_part (get_or part k d) a.0 a.1 in
            let low = from_low in
            omega arith));
        order_rises = rises_on;
        ranked = ranked_in_order;
        all = (
            let a = is.all in
            let low = from_low in
            let long = length-append p.order part in
            let l = part_long in
            let short = length-take (place_in p v - 1) p.path in
            omega arith);
      };
      nearer = let less = one_call_less in omega arith;
      seen = λ w some. some;
    }

-- ---- what a pass has before and after

pub seen_next : (n : ℕ) (arcs : List FunArc) (p : PassValue) → IsPass n arcs p → (f : ℕ) → f < n → place_in p f ≡ 0 → ((w : ℕ) → IsOpen (place_in p) (rank_in p) w → Reaches arcs w f) → IsNext n arcs p (with_seen p f)
seen_next n arcs p is f below new to_new = record {
  pass = seen_pass n arcs p is f below new to_new;
  nearer = seen_nearer n arcs p is f below new to_new;
  seen = seen_still n arcs p is f below new to_new;
}

popped : (xs : List ℕ) (x : ℕ) (last : EndsIn xs x) (long : ℕ) → long ≡ length xs → take (long - 1) xs ≡ last.0
popped xs x last long is = grind (arith, length_push, take_at)

pub last_of : (xs : List ℕ) (x : ℕ) → slice_get xs (length xs - 1) ≡ Some x → EndsIn xs x
last_of xs x is =
    let below = slice_get_within xs (length xs - 1) x is in
    let at = get_or_from_slice_get xs (length xs - 1) x x is in (
      take (length xs - 1) xs,
      sym (take_all (length xs - 1 + 1) xs (omega arith)) ∙ take_more xs (length xs - 1) x below ∙ ap (λ (y : ℕ). take (length xs - 1) xs ++ y ∷ []) at,
    )

pub last_call_within : (n : ℕ) (arcs : List FunArc) (p : PassValue) → IsPass n arcs p → (f : ℕ) → EndsIn p.calls f → f < n
last_call_within n arcs p is f last =
    let open_f = All-contains (IsOpen (place_in p) (rank_in p)) p.calls f is.search.calls_open (subst (λ (xs : List ℕ). Contains xs f) (sym last.1) (Contains-push last.0 f)) in
    let o = is.open_path f open_f in
    omega arith

pub left_next : (n : ℕ) (arcs : List FunArc) (p : PassValue) → IsPass n arcs p → (f : ℕ) → EndsIn p.calls f → AllFollowed arcs (slice_index p.next) f → IsNext n arcs p (left p f)
left_next n arcs p is f last all =
    subst (λ (xs : List ℕ). IsNext n arcs p (if slice_index p.parts (length p.parts - 1) == place_in p f then with_component (record p { calls = xs }) (place_in p f - 1) else record p { calls = xs })) (sym (popped p.calls f last (length p.calls) refl))
    (⊎_elim
    (λ (own : slice_index p.parts (length p.parts - 1) ≡ place_in p f).
    subst (λ (b : Bool). IsNext n arcs p (if b then with_component (record p { calls = last.0 }) (place_in p f - 1) else record p { calls = last.0 })) (sym (eq-eqb _ _ own)) (completed_next n arcs p is f last all own))
    (λ (other : slice_index p.parts (length p.parts - 1) ≢ place_in p f).
    subst (λ (b : Bool). IsNext n arcs p (if b then with_component (record p { calls = last.0 }) (place_in p f - 1) else record p { calls = last.0 })) (sym (ne_eqb _ _ other)) (returned_next n arcs p is f last all other))
    (cases_eq (slice_index p.parts (length p.parts - 1)) (place_in p f)))

-- the next arc is none of the function's own
pub all_followed : (n : ℕ) (arcs : List FunArc) (p : PassValue) → IsPass n arcs p → AreByCaller arcs → (f : ℕ) → f < n
    → (nat_lt (slice_index p.next f) (length arcs) && caller_at arcs (slice_index p.next f) == f) ≡ false → AllFollowed arcs (slice_index p.next) f
all_followed n arcs p is ordered f below none i inside mine = grind arith

-- ---- a function with which the search begins anew, and the end

module _ (n : ℕ) (arcs : List FunArc) (p : PassValue) (is : IsPass n arcs p) (ended : p.calls ≡ []) where
  none_left : (w : ℕ) → IsOpen (place_in p) (rank_in p) w → ⊥
  none_left = none_open arcs (place_in p) (rank_in p) (slice_index p.next) p.parts p.calls (length p.order) is.search ended

  pub started : (f : ℕ) → f < n → place_in p f ≡ 0 → IsPass n arcs (with_seen p f)
  started f below new = seen_pass n arcs p is f below new (λ w open_w. absurd (none_left w open_w))

  module _ (all_seen : (w : ℕ) → w < n → place_in p w ≢ 0) where
    all_ranked : (w : ℕ) → w < n → rank_in p w ≢ 0
    all_ranked w below off = none_left w (all_seen w below, off)

    pub ended_ranks : AreWithin n arcs → AreRanks n arcs p.ranks
    ended_ranks within = record {
      len = is.ranks;
      within = λ f below. (let l = is.search.low f in let a = is.all in omega arith);
      falls = falls;
      joined = λ f h fb hb. (
        λ same. (is.search.together f h (all_ranked f fb) same, is.search.together h f (all_ranked h hb) (sym same)),
        λ joined. (let a = falls_along arcs (rank_in p) falls f h joined.0 in let b = falls_along arcs (rank_in p) falls h f joined.1 in omega arith),
      );
    }
      where
        falls : (i : ℕ) → i < length arcs → rank_in p (callee_at arcs i) ≤ rank_in p (caller_at arcs i)
        falls i below = (is.search.closed i below (all_ranked (caller_at arcs i) (within i below).0)).1

    pub ended_order : IsRankOrder n p.ranks p.order
    ended_order = grind (arith, all_ranked)
