-- The steps of a depth-first search keep what it knows of reach, and in the end its ranks are those of components.
use Rattle.std.proofs.Common.{◌≡◌, ◌≢◌, ◌<◌, ◌≤◌, ℕ, suc, List, [], ◌∷◌, ◌++◌, length, get_or, inl, inr, ◌⊎◌, refl, ap, sym, ◌∙◌, subst, ⊎_elim, arith}
use Rattle.std.specs.List.{All, AllPairs, Contains}
use Rattle.std.proofs.lemmas.Bool.{cases_eq, cases_lt}
use Rattle.std.proofs.lemmas.List.{get_or_push, get_or_append_left, length_push}
use Rattle.std.proofs.lemmas.List.Elements.{All-contains, All-push, All-weaker, Contains-append_left, Contains-get_or, Contains-push, Contains-push_cases}
use Rattle.std.proofs.lemmas.List.Quantifiers.{all_pairs_push}
use Rattle.call_cycles.specs.declared.graphs.FunArc.{FunArc}
use Rattle.call_cycles.specs.Walks.{Reaches}
use Rattle.call_cycles.specs.Passes.{caller_at, callee_at, IsOpen, NoPart, IsFollowed, AllFollowed, IsSearch}
use Rattle.call_cycles.proofs.WalkLemmas.{reaches_itself, reaches_on, reaches_by}

-- ---- pairs of a list with a last element

pairs_front : {X : Type 0} (R : X → X → Type 0) (xs : List X) (y : X) → AllPairs R (xs ++ y ∷ []) → AllPairs R xs
pairs_front {X} R xs y all i j d less below = grind (arith, length_push, get_or_append_left)

pairs_last : {X : Type 0} (R : X → X → Type 0) (xs : List X) (y : X) → AllPairs R (xs ++ y ∷ []) → All (λ x. R x y) xs
pairs_last {X} R xs y all i d below = grind (arith, length_push, get_or_append_left, get_or_push)

contains_none : {X : Type 0} (x : X) → Contains [] x → ⊥
contains_none x has = let below = has.1 in absurd (omega arith)

-- ---- a function is seen, which all open ones reach

module _ (arcs : List FunArc) (place rank next : ℕ → ℕ) (parts calls : List ℕ) (done : ℕ) (is : IsSearch arcs place rank next parts calls done) where
  pub none_open : calls ≡ [] → (w : ℕ) → IsOpen place rank w → ⊥
  none_open none w open_w =
      let c = is.cover w open_w in
      let b = is.begins c.0 c.1 in
      contains_none b.0 (subst (λ (xs : List ℕ). Contains xs b.0) none b.1)

  module _ (g : ℕ) (new : place g ≡ 0) (to_new : (w : ℕ) → IsOpen place rank w → Reaches arcs w g)
      (fresh : ℕ) (some : fresh ≢ 0) (late : (w : ℕ) → IsOpen place rank w → place w < fresh)
      (place' : ℕ → ℕ) (at : place' g ≡ fresh) (others : (w : ℕ) → w ≢ g → place' w ≡ place w)
      (no_next : (i : ℕ) → i < length arcs → caller_at arcs i ≡ g → next g ≤ i) where
    old_apart : (w : ℕ) → IsOpen place rank w → w ≢ g
    old_apart w open_w same = open_w.0 (ap place same ∙ new)

    old_same : (w : ℕ) → IsOpen place rank w → place' w ≡ place w
    old_same w open_w = others w (old_apart w open_w)

    old_open : (w : ℕ) → IsOpen place rank w → IsOpen place' rank w
    old_open w open_w = ((λ q. open_w.0 (sym (old_same w open_w) ∙ q)), open_w.1)

    new_open : IsOpen place' rank g
    new_open = ((λ q. some (sym at ∙ q)), is.unseen g new)

    -- what is open now
    was_open : (w : ℕ) → IsOpen place' rank w → (w ≡ g) ⊎ IsOpen place rank w
    was_open w open_w = grind arith

    -- two that are open now: each is the new one or was open
    pairs : (P : ℕ → ℕ → Type 0) → P g g → ((w : ℕ) → IsOpen place rank w → P g w) → ((u : ℕ) → IsOpen place rank u → P u g)
        → ((u w : ℕ) → IsOpen place rank u → IsOpen place rank w → P u w) → (u w : ℕ) → IsOpen place' rank u → IsOpen place' rank w → P u w
    pairs P both first second neither u w open_u open_w = grind arith

    still_none : (p q : ℕ) → q < fresh → NoPart parts p q → NoPart (parts ++ fresh ∷ []) p q
    still_none p q early none b has above within =
        ⊎_elim
        (λ (old : Contains parts b). none b old above within)
        (λ (this : fresh ≡ b). absurd (omega arith))
        (Contains-push_cases parts fresh b has)

    still_followed : (i : ℕ) → IsOpen place rank (caller_at arcs i) → IsFollowed arcs place rank parts i → IsFollowed arcs place' rank (parts ++ fresh ∷ []) i
    still_followed i from (inl ranked) = inl ranked
    still_followed i from (inr r) =
        let to = r.0 in
        let same_from = old_same (caller_at arcs i) from in
        let same_to = old_same (callee_at arcs i) to in
        inr (
          old_open (callee_at arcs i) to,
          still_none (place' (caller_at arcs i)) (place' (callee_at arcs i)) (omega arith) (λ b has above within. r.1 b has (omega arith) (omega arith)),
          still_none (place' (callee_at arcs i)) (place' (caller_at arcs i)) (omega arith) (λ b has above within. r.2 b has (omega arith) (omega arith)),
        )

    pub search_sees : IsSearch arcs place' rank next (parts ++ fresh ∷ []) (calls ++ g ∷ []) done
    search_sees = record {
      unseen = λ w none. ⊎_elim
          (λ (same : w ≡ g). ap rank same ∙ is.unseen g new)
          (λ (other : w ≢ g). is.unseen w (sym (others w other) ∙ none))
          (cases_eq w g);
      low = is.low;
      later = λ u w open_u open_w. pairs (λ u w. place' u ≤ place' w → Reaches arcs u w)
          (λ le. reaches_itself arcs g)
          (λ w old le. absurd (let l = late w old in let e = old_same w old in omega arith))
          (λ u old le. to_new u old)
          (λ u w old_u old_w le. is.later u w old_u old_w (let e = old_same u old_u in let f = old_same w old_w in omega arith)) u w open_u open_w;
      back = λ u w open_u open_w. pairs (λ u w. place' u ≤ place' w → NoPart (parts ++ fresh ∷ []) (place' u) (place' w) → Reaches arcs w u)
          (λ le none. reaches_itself arcs g)
          (λ w old le none. absurd (let l = late w old in let e = old_same w old in omega arith))
          (λ u old le none. absurd (none fresh (Contains-push parts fresh) (let l = late u old in let e = old_same u old in omega arith) (omega arith)))
          (λ u w old_u old_w le none.
          let e = old_same u old_u in
          let f = old_same w old_w in
          is.back u w old_u old_w (omega arith) (λ b has above within. none b (Contains-append_left parts (fresh ∷ []) b has) (omega arith) (omega arith))) u w open_u open_w;
      closed = is.closed;
      together = is.together;
      followed = λ i below open_c early. ⊎_elim
          (λ (this : caller_at arcs i ≡ g). absurd (let l = no_next i below this in let e : next (caller_at arcs i) ≡ next g = ap next this in omega arith))
          (λ (old : IsOpen place rank (caller_at arcs i)). still_followed i old (is.followed i below old early))
          (was_open (caller_at arcs i) open_c);
      cover = λ w open_w. ⊎_elim
          (λ (this : w ≡ g). (fresh, Contains-push parts fresh, (let e : place' w ≡ place' g = ap place' this in omega arith)))
          (λ (old : IsOpen place rank w). (let c = is.cover w old in let c2 = c.2 in let e = old_same w old in (c.0, Contains-append_left parts (fresh ∷ []) c.0 c.1, omega arith)))
          (was_open w open_w);
      begins = λ b has. ⊎_elim
          (λ (old : Contains parts b). (let r = is.begins b old in (r.0, Contains-append_left calls (g ∷ []) r.0 r.1, old_same r.0 (All-contains (IsOpen place rank) calls r.0 is.calls_open r.1) ∙ r.2)))
          (λ (this : fresh ≡ b). (g, Contains-push calls g, at ∙ this))
          (Contains-push_cases parts fresh b has);
      calls_open = All-push (IsOpen place' rank) calls g (All-weaker (IsOpen place rank) (IsOpen place' rank) old_open calls is.calls_open) new_open;
      calls_rise = all_pairs_push (λ u w. place' u < place' w) calls g
          (λ i j d less below. (
          let up = is.calls_rise i j d less below in
          let e = old_same (get_or calls i d) (is.calls_open i d (omega arith)) in
          let f = old_same (get_or calls j d) (is.calls_open j d below) in
          omega arith))
          (λ k d below. (
          let l = late (get_or calls k d) (is.calls_open k d below) in
          let e = old_same (get_or calls k d) (is.calls_open k d below) in
          omega arith));
      finished = λ w open_w out. ⊎_elim
          (λ (this : w ≡ g). absurd (out (subst (Contains (calls ++ g ∷ [])) (sym this) (Contains-push calls g))))
          (λ (old : IsOpen place rank w). is.finished w old (λ has. out (Contains-append_left calls (g ∷ []) w has)))
          (was_open w open_w);
    }

-- ---- the last function of calls: one of its arcs is followed, or none is left

module _ (arcs : List FunArc) (place rank next : ℕ → ℕ) (parts rest : List ℕ) (v done : ℕ) (is : IsSearch arcs place rank next parts (rest ++ v ∷ []) done) where
  v_open : IsOpen place rank v
  v_open = All-contains (IsOpen place rank) (rest ++ v ∷ []) v is.calls_open (Contains-push rest v)

  rest_below : (u : ℕ) → Contains rest u → place u < place v
  rest_below u has = All-contains (λ x. place x < place v) rest u (pairs_last (λ x y. place x < place y) rest v is.calls_rise) has

  -- no part begins after v
  pub part_le : (b : ℕ) → Contains parts b → b ≤ place v
  part_le b has =
      let r = is.begins b has in
      ⊎_elim
      (λ (deep : Contains rest r.0). let less = rest_below r.0 deep in omega arith)
      (λ (same : v ≡ r.0). let e : place v ≡ place r.0 = ap place same in omega arith)
      (Contains-push_cases rest v r.0 r.1)

  -- all open functions reach it
  reach_top : (w : ℕ) → IsOpen place rank w → Reaches arcs w v
  reach_top w open_w =
      ⊎_elim
      (λ (less : place w < place v). is.later w v open_w v_open (omega arith))
      (λ (le : place v ≤ place w). is.back v w v_open open_w le (λ b has above within. (let l = part_le b has in omega arith)))
      (cases_lt (place w) (place v))

  pub reach_callee : (i : ℕ) → i < length arcs → caller_at arcs i ≡ v → (w : ℕ) → IsOpen place rank w → Reaches arcs w (callee_at arcs i)
  reach_callee i below from w open_w = reaches_on arcs w v (callee_at arcs i) (reach_top w open_w) (subst (λ (x : ℕ). Reaches arcs x (callee_at arcs i)) from (reaches_by arcs i below))

  module _ (i : ℕ) (from : caller_at arcs i ≡ v) (next' : ℕ → ℕ) (at : next' v ≡ suc i) (here : next v ≡ i) (others : (w : ℕ) → w ≢ v → next' w ≡ next w) where
    finished_on : (w : ℕ) → IsOpen place rank w → (Contains (rest ++ v ∷ []) w → ⊥) → AllFollowed arcs next' w
    finished_on w open_w out j below mine = grind arith

    -- an arc that was followed is the one that is followed now, or was followed before
    followed_on : (P : ℕ → Type 0) → P i → ((j : ℕ) → j < length arcs → IsOpen place rank (caller_at arcs j) → j < next (caller_at arcs j) → P j) → (j : ℕ) → j < length arcs → IsOpen place rank (caller_at arcs j) → j < next' (caller_at arcs j) → P j
    followed_on P now before j below open_c early = grind arith

    -- an arc to a function that has a component
    pub search_passes : rank (callee_at arcs i) ≢ 0 → IsSearch arcs place rank next' parts (rest ++ v ∷ []) done
    search_passes to = grind arith

    -- an arc to an open function: the parts from it on become one
    module _ (below : i < length arcs) (to : IsOpen place rank (callee_at arcs i)) (parts' : List ℕ)
        (kept : (b : ℕ) → Contains parts' b → Contains parts b × (b ≤ place (callee_at arcs i))) (keeps : (b : ℕ) → Contains parts b → b ≤ place (callee_at arcs i) → Contains parts' b) where
      fewer : (p q : ℕ) → NoPart parts p q → NoPart parts' p q
      fewer p q none b has above within = none b (kept b has).0 above within

      still_joined : (j : ℕ) → IsFollowed arcs place rank parts j → IsFollowed arcs place rank parts' j
      still_joined j (inl ranked) = inl ranked
      still_joined j (inr r) = inr (r.0, fewer _ _ r.1, fewer _ _ r.2)

      now_joined : IsFollowed arcs place rank parts' i
      now_joined = inr (
        to,
        λ b has above within. (let l = part_le b (kept b has).0 in let e : place (caller_at arcs i) ≡ place v = ap place from in omega arith),
        λ b has above within. (let l = (kept b has).1 in omega arith),
      )

      pub search_joins : IsSearch arcs place rank next' parts' (rest ++ v ∷ []) done
      search_joins = record {
        unseen = is.unseen;
        low = is.low;
        later = is.later;
        back = λ u w open_u open_w le none. ⊎_elim
            (λ (before : place w < place (callee_at arcs i)). is.back u w open_u open_w le (λ b has above within. none b (keeps b has (omega arith)) above within))
            (λ (after : place (callee_at arcs i) ≤ place w).
            reaches_on arcs w (callee_at arcs i) u (reach_callee i below from w open_w)
            (⊎_elim
            (λ (less : place u < place (callee_at arcs i)). is.back u (callee_at arcs i) open_u to (omega arith) (λ b has above within. none b (keeps b has within) above (omega arith)))
            (λ (more : place (callee_at arcs i) ≤ place u). is.later (callee_at arcs i) u to open_u more)
            (cases_lt (place u) (place (callee_at arcs i)))))
            (cases_lt (place w) (place (callee_at arcs i)));
        closed = is.closed;
        together = is.together;
        followed = followed_on (IsFollowed arcs place rank parts') now_joined (λ j inside open_c early. still_joined j (is.followed j inside open_c early));
        cover = λ w open_w.
            let r = is.cover w open_w in
            let c = is.cover (callee_at arcs i) to in
            let r2 = r.2 in
            let c2 = c.2 in
            ⊎_elim
            (λ (after : place (callee_at arcs i) < r.0). (c.0, keeps c.0 c.1 c.2, omega arith))
            (λ (before : r.0 ≤ place (callee_at arcs i)). (r.0, keeps r.0 r.1 before, r.2))
            (cases_lt (place (callee_at arcs i)) r.0);
        begins = λ b has. is.begins b (kept b has).0;
        calls_open = is.calls_open;
        calls_rise = is.calls_rise;
        finished = finished_on;
      }

  -- ---- all arcs of v are followed

  module _ (all : AllFollowed arcs next v) where
    followed_all : (w : ℕ) → IsOpen place rank w → (Contains rest w → ⊥) → AllFollowed arcs next w
    followed_all w open_w out =
        ⊎_elim
        (λ (this : w ≡ v). subst (AllFollowed arcs next) (sym this) all)
        (λ (other : w ≢ v). is.finished w open_w (λ has. ⊎_elim out (λ (same : v ≡ w). other (sym same)) (Contains-push_cases rest v w has)))
        (cases_eq w v)

    rest_open : All (IsOpen place rank) rest
    rest_open k d below = grind (arith, get_or_append_left, length_push)

    -- its part goes on further back
    pub search_returns : (Contains parts (place v) → ⊥) → IsSearch arcs place rank next parts rest done
    search_returns inner = record {
      unseen = is.unseen;
      low = is.low;
      later = is.later;
      back = is.back;
      closed = is.closed;
      together = is.together;
      followed = is.followed;
      cover = is.cover;
      begins = λ b has. (
          let r = is.begins b has in
          ⊎_elim
          (λ (deep : Contains rest r.0). (r.0, deep, r.2))
          (λ (same : v ≡ r.0). absurd (inner (subst (Contains parts) (sym r.2 ∙ sym (ap place same)) has)))
          (Contains-push_cases rest v r.0 r.1));
      calls_open = rest_open;
      calls_rise = pairs_front (λ u w. place u < place w) rest v is.calls_rise;
      finished = followed_all;
    }

    -- it begins the last part, which is a component
    module _ (own : Contains parts (place v)) (more : ℕ) (greater : done < more)
        (rank' : ℕ → ℕ) (inside : (w : ℕ) → IsOpen place rank w → place v ≤ place w → rank' w ≡ more)
        (outside : (w : ℕ) → (IsOpen place rank w → place w < place v) → rank' w ≡ rank w)
        (parts' : List ℕ) (kept : (b : ℕ) → Contains parts' b → Contains parts b × (b < place v)) (keeps : (b : ℕ) → Contains parts b → b < place v → Contains parts' b) where
      -- in the new component, or as before
      abbrev IsNew : ℕ → Type 0
      IsNew w = IsOpen place rank w × (place v ≤ place w) × (rank' w ≡ more)

      abbrev IsOld : ℕ → Type 0
      IsOld w = (IsOpen place rank w → place w < place v) × (rank' w ≡ rank w)

      sides : (w : ℕ) → IsNew w ⊎ IsOld w
      sides w =
          ⊎_elim
          (λ (none : place w ≡ 0). old (λ open_w. absurd (open_w.0 none)))
          (λ (some : place w ≢ 0).
          ⊎_elim
          (λ (off : rank w ≡ 0).
          ⊎_elim (λ (less : place w < place v). old (λ open_w. less)) (λ (le : place v ≤ place w). inl ((some, off), le, inside w (some, off) le)) (cases_lt (place w) (place v)))
          (λ (ranked : rank w ≢ 0). old (λ open_w. absurd (ranked open_w.1)))
          (cases_eq (rank w) 0))
          (cases_eq (place w) 0)
        where
          old : (IsOpen place rank w → place w < place v) → IsNew w ⊎ IsOld w
          old out = inr (out, outside w out)

      still_open : (w : ℕ) → IsOpen place rank' w → IsOpen place rank w × (place w < place v)
      still_open w open_w = grind arith

      -- what has a rank keeps it
      ranked_same : (w : ℕ) → rank w ≢ 0 → rank' w ≡ rank w
      ranked_same w ranked = outside w (λ open_w. absurd (ranked open_w.1))

      longer : (p q : ℕ) → q < place v → NoPart parts' p q → NoPart parts p q
      longer p q early none b has above within = none b (keeps b has (omega arith)) above within

      shorter : (p q : ℕ) → NoPart parts p q → NoPart parts' p q
      shorter p q none b has above within = none b (kept b has).0 above within

      closed_old : (j : ℕ) → j < length arcs → rank (caller_at arcs j) ≢ 0 → rank' (caller_at arcs j) ≡ rank (caller_at arcs j) → (rank' (callee_at arcs j) ≢ 0) × (rank' (callee_at arcs j) ≤ rank' (caller_at arcs j))
      closed_old j below ranked same = grind arith

      closed_new : (j : ℕ) → IsNew (caller_at arcs j) → IsFollowed arcs place rank parts j → (rank' (callee_at arcs j) ≢ 0) × (rank' (callee_at arcs j) ≤ rank' (caller_at arcs j))
      closed_new j new (inl ranked) = grind arith
      closed_new j new (inr r) =
          ⊎_elim
          (λ (also : IsNew (callee_at arcs j)). let o = also.2 in ((λ q. omega arith), omega arith))
          (λ (old : IsOld (callee_at arcs j)). absurd (r.2 (place v) own (old.0 r.0) new.1))
          (sides (callee_at arcs j))

      still_followed_on : (j : ℕ) → IsFollowed arcs place rank parts j → IsFollowed arcs place rank' parts' j
      still_followed_on j (inl ranked) = inl (λ q. ranked (sym (ranked_same (callee_at arcs j) ranked) ∙ q))
      still_followed_on j (inr r) =
          ⊎_elim
          (λ (new : IsNew (callee_at arcs j)). inl (λ q. (let m = new.2 in omega arith)))
          (λ (old : IsOld (callee_at arcs j)). inr ((r.0.0, old.1 ∙ r.0.1), shorter _ _ r.1, shorter _ _ r.2))
          (sides (callee_at arcs j))

      pub search_completes : IsSearch arcs place rank' next parts' rest more
      search_completes = record {
        unseen = λ w none. outside w (λ open_w. absurd (open_w.0 none)) ∙ is.unseen w none;
        low = λ w. ⊎_elim
            (λ (new : IsNew w). (let r = new.2 in omega arith))
            (λ (old : IsOld w). (let r = old.1 in let l = is.low w in omega arith))
            (sides w);
        later = λ u w open_u open_w le. is.later u w (still_open u open_u).0 (still_open w open_w).0 le;
        back = λ u w open_u open_w le none. is.back u w (still_open u open_u).0 (still_open w open_w).0 le (longer (place u) (place w) (still_open w open_w).1 none);
        closed = λ j below some. ⊎_elim
            (λ (new : IsNew (caller_at arcs j)).
            closed_new j new
            (is.followed j below new.0 (followed_all (caller_at arcs j) new.0 (λ deep. (let l = rest_below (caller_at arcs j) deep in let n = new.1 in omega arith)) j below refl)))
            (λ (old : IsOld (caller_at arcs j)). closed_old j below (λ q. some (old.1 ∙ q)) old.1)
            (sides (caller_at arcs j));
        together = λ u w some same. ⊎_elim
            (λ (new_u : IsNew u).
            ⊎_elim
            (λ (new_w : IsNew w). reaches_on arcs u v w (reach_top u new_u.0) (is.later v w v_open new_w.0 new_w.1))
            (λ (old_w : IsOld w). let a = new_u.2 in let b = old_w.1 in let l = is.low w in absurd (omega arith))
            (sides w))
            (λ (old_u : IsOld u).
            ⊎_elim
            (λ (new_w : IsNew w). let a = new_w.2 in let b = old_u.1 in let l = is.low u in absurd (omega arith))
            (λ (old_w : IsOld w). is.together u w (λ q. some (old_u.1 ∙ q)) (sym old_u.1 ∙ same ∙ old_w.1))
            (sides w))
            (sides u);
        followed = λ j below open_c early. still_followed_on j (is.followed j below (still_open (caller_at arcs j) open_c).0 early);
        cover = λ w open_w. (
            let o = still_open w open_w in
            let r = is.cover w o.0 in
            let r2 = r.2 in
            let o1 = o.1 in
            (r.0, keeps r.0 r.1 (omega arith), r.2));
        begins = λ b has. (
            let k = kept b has in
            let r = is.begins b k.0 in
            let k1 = k.1 in
            let r2 = r.2 in
            ⊎_elim
            (λ (deep : Contains rest r.0). (r.0, deep, r.2))
            (λ (same : v ≡ r.0). let e : place v ≡ place r.0 = ap place same in absurd (omega arith))
            (Contains-push_cases rest v r.0 r.1));
        calls_open = λ k d below. (
            let was = rest_open k d below in
            let low = rest_below (get_or rest k d) (Contains-get_or rest k d below) in
            (was.0, outside (get_or rest k d) (λ open_w. low) ∙ was.1));
        calls_rise = pairs_front (λ u w. place u < place w) rest v is.calls_rise;
        finished = λ w open_w out. followed_all w (still_open w open_w).0 out;
      }
