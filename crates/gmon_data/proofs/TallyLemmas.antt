-- Numbers by key: adding one is adding it to the sum of its key.
use Rattle.std.proofs.Common.{◌≡◌, ℕ, ◌+◌, ◌<◌, ◌≤◌, Bool, true, false, ◌||◌, cond, List, [], ◌∷◌, ◌++◌, map, fold, Option, Some, None, unwrap_or, append_assoc, refl, sym, ap, ◌∙◌, if◌then◌else◌, zero, suc, slice_get, drop, take, length, get_or, add-one, arith}
use Rattle.std.specs.List.{list_any, AllByRecursion, IsDistinct}
use Rattle.std.specs.Map.{lookup}
use Rattle.std.proofs.lemmas.List.{append-nil, map-append, take-append-drop, take_more, length-map, get_or-map}
use Rattle.std.proofs.Math.Seq.{drop-cons}
use Rattle.std.proofs.lemmas.List.Sums.{fold-append, sum_by-append, sum_by-cons}
use Rattle.std.proofs.lemmas.List.Folds.{list_any-append}
use Rattle.indexmap.specs.IndexMap.{insert_entry}
use Rattle.gmon_data.specs.Tally.{tally_total, tally, tally_all, distinct_keys, sum_at, sums_by_key, IsTalliedPartly}

abbrev one_entry : {K : Type 0} → K → ℕ → List (K × ℕ)
one_entry k n = (k, n) ∷ []

pub insert-tally : {K : Type 0} (same : K → K → Bool) (k : K) (n sum : ℕ) (es : List (K × ℕ)) → sum ≡ unwrap_or (lookup (same k) es) 0 + n → insert_entry same es k sum ≡ tally same k n es
insert-tally {K} same k n sum [] is = grind arith
insert-tally same k n sum (e ∷ es) is = grind (arith, insert-tally same k n sum es)

-- the sum of all numbers rises by what is added
sum_step : {K : Type 0} (n : ℕ) (e : K × ℕ) (es added : List (K × ℕ)) (here : Bool) → tally_total added ≡ tally_total es + n
    → tally_total (cond here ((e.0, e.1 + n) ∷ es) (e ∷ added)) ≡ tally_total (e ∷ es) + n
sum_step {K} n e es added true h = search (arith, sum_by-cons)
sum_step {K} n e es added false h = search (arith, sum_by-cons)

pub sum-tally : {K : Type 0} (same : K → K → Bool) (k : K) (n : ℕ) (es : List (K × ℕ)) → tally_total (tally same k n es) ≡ tally_total es + n
sum-tally same k n [] = refl
sum-tally same k n (e ∷ es) = sum_step n e es (tally same k n es) (same k e.0) (sum-tally same k n es)

-- each number is within the sum of all
pub lookup-within : {K : Type 0} (test : K → Bool) (es : List (K × ℕ)) → unwrap_or (lookup test es) 0 ≤ tally_total es
lookup-within test [] = omega arith
lookup-within {K} test (e ∷ es) = by (test e.0) (sum_by-cons (λ (x : K × ℕ). x.1) e es) (lookup-within test es)
  where
    by : (b : Bool) → tally_total (e ∷ es) ≡ e.1 + tally_total es → unwrap_or (lookup test es) 0 ≤ tally_total es → unwrap_or (cond b (Some e.1) (lookup test es)) 0 ≤ tally_total (e ∷ es)
    by b cons rest = grind arith

-- the numbers from one place on
pub total-drop : {K : Type 0} (es : List (K × ℕ)) (i : ℕ) (e : K × ℕ) → slice_get es i ≡ Some e → tally_total (drop i es) ≡ e.1 + tally_total (drop (i + 1) es)
total-drop [] i e at = absurd cc
total-drop {K} (x ∷ xs) zero e at =
    let same : x.1 ≡ e.1 = ap (λ (o : Option (K × ℕ)). MatchNumber o) at in
    let f = λ (x : K × ℕ). x.1 in
    let g : tally_total (x ∷ xs) ≡ e.1 + tally_total xs = omega (arith, same, sum_by-cons f x xs) in g
  where
    MatchNumber : Option (K × ℕ) → ℕ
    MatchNumber (Some x) = x.1
    MatchNumber None = 0
total-drop (x ∷ xs) (suc i) e at = search (add-one, total-drop xs i e at)

abbrev pub one : {K : Type 0} → K → ℕ → K × ℕ
one k n = (k, n)

or_false : (b : Bool) → (b || false) ≡ b
or_false b = grind arith

module _ {K : Type 0} (same : K → K → Bool) (self : (k : K) → same k k ≡ true) (equal : (x y : K) → same x y ≡ true → x ≡ y) where
  -- the test has no direction
  pub turned : (x y : K) → same x y ≡ same y x
  turned x y = by (same x y) (same y x) refl refl
    where
      by : (a b : Bool) → same x y ≡ a → same y x ≡ b → a ≡ b
      by a b p q = grind arith

  pub distinct_keys-more : (ks : List K) (k : K) → distinct_keys same (ks ++ k ∷ []) ≡ (if list_any (same k) (distinct_keys same ks) then distinct_keys same ks else distinct_keys same ks ++ k ∷ [])
  distinct_keys-more ks k = fold-append (λ done k. if list_any (same k) done then done else done ++ k ∷ []) [] ks (k ∷ [])

  pub sum_at-more : (q k : K) (n : ℕ) (es : List (K × ℕ)) → sum_at same q (es ++ (k, n) ∷ []) ≡ sum_at same q es + (if same q k then n else 0)
  sum_at-more q k n es = grind (arith, sum_by-append)

  -- a key was seen exactly where it is among them
  any_seen : (k x : K) (done : List K) (b : Bool) → list_any (same x) done ≡ b → list_any (same k) (if b then done else done ++ x ∷ []) ≡ (list_any (same k) done || same k x)
  any_seen k x done true e = by (same k x) refl
    where
      by : (b : Bool) → same k x ≡ b → list_any (same k) done ≡ (list_any (same k) done || b)
      by b p = grind arith
  any_seen k x done false e = list_any-append (same k) done (x ∷ []) ∙ ap (λ b. list_any (same k) done || b) (or_false (same k x))

  any_fold : (k : K) (ks done : List K) → list_any (same k) (fold (λ done k. if list_any (same k) done then done else done ++ k ∷ []) done ks) ≡ (list_any (same k) done || list_any (same k) ks)
  any_fold k [] done = sym (or_false (list_any (same k) done))
  any_fold k (x ∷ ks) done = grind (arith, any_seen, any_fold k ks)

  sum_at-none : (k : K) (es : List (K × ℕ)) → list_any (same k) (map (λ e. e.0) es) ≡ false → sum_at same k es ≡ 0
  sum_at-none k [] h = refl
  sum_at-none k (e ∷ es) h = by (same k e.0) refl (sum_at-none k es)
    where
      by : (b : Bool) → same k e.0 ≡ b → (list_any (same k) (map (λ e. e.0) es) ≡ false → sum_at same k es ≡ 0) → sum_at same k (e ∷ es) ≡ 0
      by b p others = grind arith

  -- seen keys are different
  distinct-one_more : (k : K) (ds : List K) → IsDistinct same ds → list_any (same k) ds ≡ false → IsDistinct same (ds ++ k ∷ [])
  unfolding IsDistinct
  distinct-one_more k [] h none = (tt, tt)
  distinct-one_more k (d ∷ ds) h none = by (same k d) refl (distinct-one_more k ds h.1)
    where
      all_more : (xs : List K) → AllByRecursion (λ y. same d y ≡ false) xs → same d k ≡ false → AllByRecursion (λ y. same d y ≡ false) (xs ++ k ∷ [])
      all_more [] a e = (e, tt)
      all_more (x ∷ xs) a e = (a.0, all_more xs a.1 e)

      by : (b : Bool) → same k d ≡ b → (list_any (same k) ds ≡ false → IsDistinct same (ds ++ k ∷ [])) → IsDistinct same ((d ∷ ds) ++ k ∷ [])
      by b p others = grind (arith, all_more)

  distinct_fold : (ks done : List K) → IsDistinct same done → IsDistinct same (fold (λ done k. if list_any (same k) done then done else done ++ k ∷ []) done ks)
  distinct_fold [] done h = h
  distinct_fold (x ∷ ks) done h = distinct_fold ks (if list_any (same x) done then done else done ++ x ∷ []) (by (list_any (same x) done) refl)
    where
      by : (b : Bool) → list_any (same x) done ≡ b → IsDistinct same (if b then done else done ++ x ∷ [])
      by b p = grind (arith, distinct-one_more)

  pub distinct_keys-distinct : (ks : List K) → IsDistinct same (distinct_keys same ks)
  unfolding IsDistinct
  distinct_keys-distinct ks = distinct_fold ks [] tt

  -- adding a number to a list of different keys
  module _ (k : K) (n : ℕ) (g g' : K → ℕ) (more : (q : K) → g' q ≡ g q + (if same q k then n else 0)) where
    unmoved : (d : K) (ds : List K) → k ≡ d → AllByRecursion (λ y. same d y ≡ false) ds → map (λ q. one q (g q)) ds ≡ map (λ q. one q (g' q)) ds
    unmoved d [] e h = refl
    unmoved d (q ∷ ds) e h = grind (arith, unmoved d ds e h.1)

    pub tally-map : (ds : List K) → IsDistinct same ds → tally same k n (map (λ q. one q (g q)) ds) ≡ map (λ q. one q (g' q)) ds ++ (if list_any (same k) ds then [] else one k n ∷ [])
    unfolding IsDistinct
    tally-map [] h = refl
    tally-map (d ∷ ds) h = by (same k d) refl (tally-map ds h.1)
      where
        by : (b : Bool) → same k d ≡ b → tally same k n (map (λ q. one q (g q)) ds) ≡ map (λ q. one q (g' q)) ds ++ (if list_any (same k) ds then [] else one k n ∷ []) → tally same k n (map (λ q. one q (g q)) (d ∷ ds)) ≡ map (λ q. one q (g' q)) (d ∷ ds) ++ (if list_any (same k) (d ∷ ds) then [] else one k n ∷ [])
        by b p others = grind (arith, unmoved, append-nil)

  -- one number more, in the order in which the keys came first
  pub sums_by_key-more : (k : K) (n : ℕ) (es : List (K × ℕ)) → sums_by_key same (es ++ one k n ∷ []) ≡ tally same k n (sums_by_key same es)
  sums_by_key-more k n es =
      let all = es ++ one k n ∷ [] in
      let keys = map (λ e. e.0) es in
      let ds = distinct_keys same keys in
      let g = λ (q : K). sum_at same q es in
      let g' = λ (q : K). sum_at same q all in
      let seen = map-append (λ (e : K × ℕ). e.0) es (one k n ∷ []) in
      let step = tally-map k n g g' (λ q. sum_at-more q k n es) ds (distinct_keys-distinct keys) in
      ap (λ ks. map (λ q. one q (g' q)) (distinct_keys same ks)) seen
      ∙ ap (map (λ q. one q (g' q))) (distinct_keys-more keys k)
      ∙ by (list_any (same k) ds) refl
      ∙ sym step
    where
      by : (b : Bool) → list_any (same k) (distinct_keys same (map (λ e. e.0) es)) ≡ b
          → map (λ q. one q (sum_at same q (es ++ one k n ∷ []))) (if list_any (same k) (distinct_keys same (map (λ e. e.0) es)) then distinct_keys same (map (λ e. e.0) es) else distinct_keys same (map (λ e. e.0) es) ++ k ∷ [])
          ≡ map (λ q. one q (sum_at same q (es ++ one k n ∷ []))) (distinct_keys same (map (λ e. e.0) es)) ++ (if list_any (same k) (distinct_keys same (map (λ e. e.0) es)) then [] else one k n ∷ [])
      by b p = grind (arith, append-nil, sum_at-none, any_fold, sum_at-more, map-append)

  -- adding the numbers one by one
  fold_on : (done es : List (K × ℕ)) → fold (λ l e. tally same e.0 e.1 l) (sums_by_key same done) es ≡ sums_by_key same (done ++ es)
  fold_on done [] = ap (sums_by_key same) (sym (append-nil done))
  fold_on done (e ∷ es) = grind (arith, sums_by_key-more, append_assoc, fold_on (done ++ e ∷ []) es)

  pub sums_by_key-fold : (es : List (K × ℕ)) → sums_by_key same es ≡ fold (λ l e. tally same e.0 e.1 l) [] es
  sums_by_key-fold es = sym (fold_on [] es)

-- what holds of the keys holds of them with one more
all_tally : {K : Type 0} (P : K → Type 0) (same : K → K → Bool) (k : K) (n : ℕ) (es : List (K × ℕ)) → P k → AllByRecursion (λ e. P e.0) es → AllByRecursion (λ e. P e.0) (tally same k n es)
all_tally P same k n [] mine all = (mine, tt)
all_tally {K} P same k n (e ∷ es) mine all = by (same k e.0) (all_tally P same k n es mine all.1)
  where
    by : (b : Bool) → AllByRecursion (λ x. P x.0) (tally same k n es) → AllByRecursion (λ x. P x.0) (if b then (e.0, e.1 + n) ∷ es else e ∷ tally same k n es)
    by b others = grind arith

-- ---- numbers added one after the other

module _ {K : Type 0} (same : K → K → Bool) where
  -- the sum of all numbers rises by all that is added
  pub total-all : (added es : List (K × ℕ)) → tally_total (tally_all same added es) ≡ tally_total es + tally_total added
  total-all [] es = omega arith
  total-all (x ∷ added) es = omega (arith, total-all added (tally same x.0 x.1 es), sum-tally same x.0 x.1 es, sum_by-cons (λ (e : K × ℕ). e.1) x added)

  -- a loop over what has entries, which has added the first i of these
  module _ {X : Type 0} (entry : X → K × ℕ) (xs : List X) (old now : List (K × ℕ)) (i : ℕ) (w : now ≡ tally_all same (take i (map entry xs)) old) where
    abbrev added : List (K × ℕ)
    added = map entry xs

    module _ (x : X) (e : K × ℕ) (inside : i < length xs) (at : x ≡ get_or xs i x) (is : e ≡ entry x) where
      within : i < length added
      within = rw length-map inside

      there : e ≡ get_or added i e
      there = is ∙ ap entry at ∙ sym (get_or-map entry xs i x e inside)

      cut : added ≡ take i added ++ e ∷ drop (i + 1) added
      cut = grind (arith, take-append-drop, drop-cons, within, there)

      pub next_fits : tally_total now + e.1 ≤ tally_total old + tally_total added
      next_fits =
          let value = λ (a : K × ℕ). a.1 in
          let whole : tally_total added ≡ tally_total (take i added) + tally_total (e ∷ drop (i + 1) added) = ap tally_total cut ∙ sum_by-append value (take i added) (e ∷ drop (i + 1) added) in
          omega (arith, whole, ap tally_total w, total-all (take i added) old, sum_by-cons value e (drop (i + 1) added))

      pub next_tallied : (new : List (K × ℕ)) → new ≡ tally same e.0 e.1 now → new ≡ tally_all same (take (i + 1) added) old
      next_tallied new more =
          more ∙ ap (tally same e.0 e.1) w ∙ sym (fold-append (λ l a. tally same a.0 a.1 l) old (take i added) (e ∷ []))
          ∙ ap (λ (es : List (K × ℕ)). tally_all same es old) (ap (λ (a : K × ℕ). take i added ++ a ∷ []) there ∙ sym (take_more added i e within))

      pub tallied_partly : (new : List (K × ℕ)) → new ≡ now → IsTalliedPartly same added old new
      tallied_partly new unchanged = record { done = take i added; next = e; rest = drop (i + 1) added; split = cut; tallied = unchanged ∙ w }

  -- what held of the keys before holds after one more
  pub next_fit : (P : K → Type 0) (before now new : List (K × ℕ)) (k : K) (n : ℕ) → now ≡ before → new ≡ tally same k n now → P k → AllByRecursion (λ e. P e.0) before → AllByRecursion (λ e. P e.0) new
  next_fit P before now new k n is more mine all = grind (arith, all_tally)
