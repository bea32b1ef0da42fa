-- Levels, known from those of lesser ranks.
use Rattle.std.proofs.Common.{◌≡◌, ◌≢◌, ◌<◌, ◌≤◌, ℕ, zero, suc, max, ◌+◌, ◌&&◌, ◌||◌, Bool, true, false, not, List, length, take, replicate, refl, ap, sym, ◌∙◌, ⊎_elim, arith}
use Rattle.std.specs.Prelude.{◌==◌, slice_index}
use Rattle.std.specs.List.{list_any}
use Rattle.std.proofs.lemmas.Bool.{cases_eq, eqb-true, eq-eqb, ne_eqb, or_right}
use Rattle.std.proofs.lemmas.List.{get_or_default, get_or-take, length-take, length-replicate, take_all}
use Rattle.std.proofs.lemmas.List.Folds.{Any-from_list_any, list_any_at, list_any_more}
use Rattle.call_cycles.specs.declared.graphs.FunArc.{FunArc}
use Rattle.call_cycles.specs.Sums.{max_below, when}
use Rattle.call_cycles.specs.Arcs.{AreWithin}
use Rattle.call_cycles.specs.Leaders.{AreJoined, AreRanks, IsRankOrder, AreLeaders, AreLevels, caller_leader, callee_leader, leaves_leader, leaves_by, level_over}
use Rattle.call_cycles.specs.Passes.{caller_at}
use Rattle.call_cycles.proofs.SumLemmas.{max_ext, max_least}
use Rattle.call_cycles.proofs.ListLemmas.{same_test}
use Rattle.call_cycles.proofs.WalkLemmas.{reaches_by, reaches_on}
use Rattle.call_cycles.proofs.RankLemmas.{IsRank, rank_of_ranks}

module _ (n : ℕ) (arcs : List FunArc) (leaders : List ℕ) (within : AreWithin n arcs) (led : AreLeaders n arcs leaders) where
  pub joined_same : (f h : ℕ) → f < n → h < n → AreJoined arcs f h → slice_index leaders f ≡ slice_index leaders h
  joined_same f h fb hb joined = grind (arith, reaches_on)

  -- the rank falls from component to component
  pub rank_drops : (ranks : List ℕ) → IsRank n arcs ranks → (i : ℕ) → i < length arcs → caller_leader arcs leaders i ≢ callee_leader arcs leaders i
      → slice_index ranks (callee_leader arcs leaders i) < slice_index ranks (caller_leader arcs leaders i)
  rank_drops ranks ranked i below apart = grind (arith, reaches_by, reaches_on)

-- ---- greatest values

max_none : (n : ℕ) (f : ℕ → ℕ) → ((i : ℕ) → i < n → f i ≡ 0) → max_below n f ≡ 0
max_none zero f none = refl
max_none (suc n) f none = grind (arith, max_none n f)

max_stop : (k m : ℕ) (f : ℕ → ℕ) → k ≤ m → ((i : ℕ) → k ≤ i → i < m → f i ≡ 0) → max_below m f ≡ max_below k f
max_stop k zero f le none = let e : k ≡ 0 = omega arith in rw e refl
max_stop k (suc m) f le none =
    ⊎_elim
    (λ (at : k ≡ suc m). rw at refl)
    (λ (apart : k ≢ suc m).
    let ih = max_stop k m f (omega arith) (λ i from below. none i from (omega arith)) in
    let last = none m (omega arith) (omega arith) in
    omega arith)
    (cases_eq k (suc m))

max_both : (n : ℕ) (f g : ℕ → ℕ) → max (max_below n f) (max_below n g) ≡ max_below n (λ i. max (f i) (g i))
max_both zero f g = refl
max_both (suc n) f g = let ih = max_both n f g in omega arith

-- ---- the arcs of one function

module _ (arcs : List FunArc) (leaders : List ℕ) (f : ℕ) (old : List ℕ) where
  over_other : (i : ℕ) → caller_at arcs i ≢ f → level_over arcs leaders f old i ≡ 0
  over_other i apart = rw (ne_eqb (caller_at arcs i) f apart) refl

  pub none_before : (k : ℕ) → ((i : ℕ) → i < k → caller_at arcs i ≢ f) → max_below k (level_over arcs leaders f old) ≡ 0
  none_before k other = max_none k (level_over arcs leaders f old) (λ i below. over_other i (other i below))

  pub none_after : (k : ℕ) → k ≤ length arcs → ((i : ℕ) → k ≤ i → i < length arcs → caller_at arcs i ≢ f) → max_below (length arcs) (level_over arcs leaders f old) ≡ max_below k (level_over arcs leaders f old)
  none_after k le other = max_stop k (length arcs) (level_over arcs leaders f old) le (λ i from below. over_other i (other i from below))

-- ---- the functions in the order of their ranks, one after another

-- the arc's caller is one of these functions
abbrev pub is_by : List FunArc → List ℕ → ℕ → Bool
is_by arcs functions i = list_any (λ x. x == caller_at arcs i) functions

-- levels as far as the arcs of the first k functions tell
pub record AreLevelsOf (n : ℕ) (arcs : List FunArc) (leaders order : List ℕ) (k : ℕ) (levels : List ℕ) : Type 0 where
  pub len : length levels ≡ n
  pub low : (h : ℕ) → slice_index levels h ≤ k
  pub highest : (h : ℕ) → h < n → slice_index levels h ≡ max_below (length arcs) (λ i. when (leaves_leader arcs leaders h i && is_by arcs (take k order) i) (suc (slice_index levels (callee_leader arcs leaders i))))

pub no_levels : (n : ℕ) (arcs : List FunArc) (leaders order : List ℕ) → AreLevelsOf n arcs leaders order 0 (replicate n 0)
no_levels n arcs leaders order = record {
  len = length-replicate n 0;
  low = λ h. (let e = zeros n h in omega arith);
  highest = λ h below. zeros n h ∙ sym (max_none (length arcs) _ (λ i inside. none (leaves_leader arcs leaders h i) (suc (slice_index (replicate n 0) (callee_leader arcs leaders i)))));
}
  where
    zeros : (m h : ℕ) → slice_index (replicate m 0) h ≡ 0
    zeros zero h = refl
    zeros (suc m) zero = refl
    zeros (suc m) (suc h) = zeros m h

    none : (b : Bool) (x : ℕ) → when (b && false) x ≡ 0
    none b x = grind arith

module _ (n : ℕ) (arcs : List FunArc) (leaders ranks order : List ℕ) (within : AreWithin n arcs) (led : AreLeaders n arcs leaders) (are : AreRanks n arcs ranks) (ordered : IsRankOrder n ranks order) where
  rank_leads : (f : ℕ) → f < n → slice_index ranks (slice_index leaders f) ≡ slice_index ranks f
  rank_leads f below = let l = led.each f below in (are.joined (slice_index leaders f) f l.within below).1 (l.joined.1, l.joined.0)

  -- an arc that leaves the component of one of these functions goes to a lesser rank than theirs
  not_back : (k : ℕ) → k < length order → (i : ℕ) → i < length arcs → caller_leader arcs leaders i ≢ callee_leader arcs leaders i
      → is_by arcs (take (k + 1) order) i ≡ true → callee_leader arcs leaders i ≢ slice_index leaders (slice_index order k)
  not_back k inside i below apart by same =
      let f = slice_index order k in
      let low : f < n = ordered.within k 0 inside in
      let a = Any-from_list_any (λ x. x == caller_at arcs i) (take (k + 1) order) by in
      let long = length-take (k + 1) order in
      let at : slice_index order a.0 ≡ caller_at arcs i = get_or_default order a.0 0 a.1 (omega arith) ∙ sym (get_or-take (k + 1) order a.0 a.1 (omega arith)) ∙ a.3 ∙ eqb-true _ _ a.4 in
      let up : slice_index ranks (slice_index order a.0) ≤ slice_index ranks f = ⊎_elim (λ (here : a.0 ≡ k). let e : slice_index ranks (slice_index order a.0) ≡ slice_index ranks f = ap (λ (j : ℕ). slice_index ranks (slice_index order j)) here in omega arith) (λ (before : a.0 ≢ k). ordered.rises a.0 k 0 (omega arith) inside) (cases_eq a.0 k) in
      let e : slice_index ranks (slice_index order a.0) ≡ slice_index ranks (caller_at arcs i) = ap (slice_index ranks) at in
      let drop = rank_drops n arcs leaders within led ranks (rank_of_ranks n arcs ranks are) i below apart in
      let from = rank_leads (caller_at arcs i) (within i below).0 in
      let back : slice_index ranks (callee_leader arcs leaders i) ≡ slice_index ranks (slice_index leaders f) = ap (slice_index ranks) same in
      let home = rank_leads f low in
      omega arith

  module _ (k : ℕ) (inside : k < length order) (old : List ℕ) (before : AreLevelsOf n arcs leaders order k old) (new : List ℕ) (long : length new ≡ n)
      (raised : slice_index new (slice_index leaders (slice_index order k)) ≡ max (slice_index old (slice_index leaders (slice_index order k))) (max_below (length arcs) (level_over arcs leaders (slice_index order k) old)))
      (others : (h : ℕ) → h ≢ slice_index leaders (slice_index order k) → slice_index new h ≡ slice_index old h) where
    f : ℕ
    f = slice_index order k

    -- what an arc tells, before and now
    abbrev told : ℕ → ℕ → ℕ
    told h i = when (leaves_leader arcs leaders h i && is_by arcs (take k order) i) (suc (slice_index old (callee_leader arcs leaders i)))

    abbrev tells : ℕ → ℕ → ℕ
    tells h i = when (leaves_leader arcs leaders h i && is_by arcs (take (k + 1) order) i) (suc (slice_index new (callee_leader arcs leaders i)))

    by_more : (i : ℕ) → is_by arcs (take (k + 1) order) i ≡ (is_by arcs (take k order) i || f == caller_at arcs i)
    unfolding f
    by_more i = list_any_more (λ x. x == caller_at arcs i) order k 0 inside

    -- the callee's level is as before
    same_callee : (h i : ℕ) → i < length arcs → (b : Bool) → (leaves_leader arcs leaders h i && is_by arcs (take (k + 1) order) i) ≡ b
        → when b (suc (slice_index new (callee_leader arcs leaders i))) ≡ when b (suc (slice_index old (callee_leader arcs leaders i)))
    same_callee h i below b on = grind (arith, not_back)

    -- an arc of another function tells what it told
    told_other : (h i : ℕ) → i < length arcs → caller_at arcs i ≢ f → told h i ≡ tells h i
    unfolding f
    told_other h i below apart =
        let same : is_by arcs (take (k + 1) order) i ≡ is_by arcs (take k order) i = by_more i ∙ ap (λ (b : Bool). is_by arcs (take k order) i || b) (ne_eqb f (caller_at arcs i) (λ q. apart (sym q))) ∙ or_none (is_by arcs (take k order) i) in
        ap (λ (b : Bool). when (leaves_leader arcs leaders h i && b) (suc (slice_index old (callee_leader arcs leaders i)))) (sym same)
        ∙ sym (same_callee h i below (leaves_leader arcs leaders h i && is_by arcs (take (k + 1) order) i) refl)
      where
        or_none : (b : Bool) → (b || false) ≡ b
        or_none b = grind arith

    -- at another leader
    at_other : (h : ℕ) → h < n → h ≢ slice_index leaders f → slice_index new h ≡ max_below (length arcs) (tells h)
    unfolding f
    at_other h below apart =
        others h apart
        ∙ before.highest h below
        ∙ max_ext (length arcs) (told h) (tells h) (λ i inner. ⊎_elim
        (λ (mine : caller_at arcs i ≡ f). none_leaves i (ap (slice_index leaders) mine))
        (λ (other : caller_at arcs i ≢ f). told_other h i inner other)
        (cases_eq (caller_at arcs i) f))
      where
        off : (a b : Bool) (x : ℕ) → when ((a && false) && b) x ≡ 0
        off a b x = grind arith

        none_leaves : (i : ℕ) → caller_leader arcs leaders i ≡ slice_index leaders (slice_index order k) → told h i ≡ tells h i
        none_leaves i led_by = grind arith

    -- at f's own
    at_own : slice_index new (slice_index leaders f) ≡ max_below (length arcs) (tells (slice_index leaders f))
    unfolding f
    at_own =
        let low : f < n = ordered.within k 0 inside in
        raised
        ∙ ap (λ (x : ℕ). max x (max_below (length arcs) (level_over arcs leaders f old))) (before.highest (slice_index leaders f) (led.each f low).within)
        ∙ max_both (length arcs) (told (slice_index leaders f)) (level_over arcs leaders f old)
        ∙ max_ext (length arcs) (λ i. max (told (slice_index leaders f) i) (level_over arcs leaders f old i)) (tells (slice_index leaders f)) (λ i inner. ⊎_elim
        (λ (mine : caller_at arcs i ≡ f). own_arc i inner mine)
        (λ (other : caller_at arcs i ≢ f).
        let none = over_other arcs leaders f old i other in
        let same = told_other (slice_index leaders f) i inner other in
        omega arith)
        (cases_eq (caller_at arcs i) f))
      where
        joined : (leaving outer done : Bool) (x : ℕ) → outer ≡ leaving → max (when (leaving && done) x) (when outer x) ≡ when (leaving && true) x
        joined leaving outer done x same = grind arith

        own_arc : (i : ℕ) → i < length arcs → caller_at arcs i ≡ slice_index order k
            → max (told (slice_index leaders (slice_index order k)) i) (level_over arcs leaders (slice_index order k) old i) ≡ tells (slice_index leaders (slice_index order k)) i
        own_arc i inner mine =
            let f' : ℕ = slice_index order k in
            let c : ℕ = slice_index leaders f' in
            let d : ℕ = callee_leader arcs leaders i in
            let from : caller_leader arcs leaders i ≡ c = ap (slice_index leaders) mine in
            let leaving : leaves_leader arcs leaders c i ≡ not (c == d) = ap (λ (x : ℕ). not (x == d) && x == c) from ∙ ap (λ (b : Bool). not (c == d) && b) (eq-eqb c c refl) ∙ and_all (not (c == d)) in
            let outer : leaves_by arcs leaders f' i ≡ not (d == c) = ap (λ (b : Bool). b && not (d == c)) (eq-eqb (caller_at arcs i) f' mine) in
            let turned : (d == c) ≡ (c == d) = same_test d c c d (λ q. sym q) (λ q. sym q) in
            let done : is_by arcs (take (k + 1) order) i ≡ true = by_more i ∙ or_right (is_by arcs (take k order) i) (f' == caller_at arcs i) (eq-eqb f' (caller_at arcs i) (sym mine)) in
            joined (leaves_leader arcs leaders c i) (leaves_by arcs leaders f' i) (is_by arcs (take k order) i) (suc (slice_index old d)) (outer ∙ ap not turned ∙ sym leaving)
            ∙ ap (λ (b : Bool). when (leaves_leader arcs leaders c i && b) (suc (slice_index old d))) (sym done)
            ∙ sym (same_callee c i inner (leaves_leader arcs leaders c i && is_by arcs (take (k + 1) order) i) refl)
          where
            and_all : (b : Bool) → (b && true) ≡ b
            and_all b = grind arith

    pub levels_more : AreLevelsOf n arcs leaders order (k + 1) new
    unfolding f
    levels_more = grind (arith, max_least, at_own, at_other)

  pub all_levels : (levels : List ℕ) (k : ℕ) → length order ≤ k → AreLevelsOf n arcs leaders order k levels → AreLevels n arcs leaders levels
  all_levels levels k end is = record {
    len = is.len;
    highest = λ h below.
        is.highest h below
        ∙ max_ext (length arcs) _ _ (λ i inside. (
        let has = ordered.each (caller_at arcs i) (within i inside).0 in
        let done : is_by arcs (take k order) i ≡ true =
        ap (λ (xs : List ℕ). is_by arcs xs i) (take_all k order end)
        ∙ list_any_at (λ x. x == caller_at arcs i) order has.0 (caller_at arcs i) has.1 (eq-eqb _ _ has.2) in
        ap (λ (b : Bool). when (leaves_leader arcs leaders h i && b) (suc (slice_index levels (callee_leader arcs leaders i)))) done
        ∙ ap (λ (b : Bool). when b (suc (slice_index levels (callee_leader arcs leaders i)))) (and_all (leaves_leader arcs leaders h i))));
  }
    where
      and_all : (b : Bool) → (b && true) ≡ b
      and_all b = grind arith
