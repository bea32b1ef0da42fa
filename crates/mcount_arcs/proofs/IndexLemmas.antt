-- The indices of pairs: one to each pair that was called, and what one call more does to them.
use Rattle.std.proofs.Common.{◌≡◌, ℕ, zero, suc, ◌<◌, ◌≤◌, true, false, List, [], ◌∷◌, ◌++◌, length, Some, inl, inr, refl, sym, ap, ◌∙◌, arith, ◌+◌, subst, get_or, length-append, ◌⊎◌}
use Rattle.std.proofs.lemmas.Option.{none-some, same_Some, slice_get_past, slice_get-get_or}
use Rattle.std.specs.List.{slice_get}
use Rattle.std.proofs.lemmas.Bool.{cases_Bool, cases_lt}
use Rattle.mcount_arcs.specs.Lists.{distinct}
use Rattle.mcount_arcs.specs.Log.{Pair, same_pair, distinct_count}
use Rattle.mcount_arcs.specs.Arcs.{chain_in}
use Rattle.mcount_arcs.specs.Image.{index_in, index_at}
use Rattle.mcount_arcs.proofs.DistinctLemmas.{has, once-distinct, has-distinct, distinct-push, has_at, position_at, position_absent}
use Rattle.mcount_arcs.proofs.ChainLemmas.{pair, pair-same, pushed, in_chain}

pub slice_get-append : {X : Type 0} (xs ys : List X) (i : ℕ) (x : X) → slice_get xs i ≡ Some x → slice_get (xs ++ ys) i ≡ Some x
slice_get-append [] ys i x at = absurd (none-some x at)
slice_get-append (y ∷ xs) ys zero x at = at
slice_get-append (y ∷ xs) ys (suc i) x at = slice_get-append xs ys i x at

slice_get-push : {X : Type 0} (xs : List X) (x : X) → slice_get (xs ++ x ∷ []) (length xs) ≡ Some x
slice_get-push [] x = refl
slice_get-push (y ∷ xs) x = slice_get-push xs x

-- the index of the pair that is the i-th to come first
pub index-at : (ps : List Pair) (i : ℕ) (p : Pair) → slice_get (distinct same_pair ps) i ≡ Some p → index_in ps p ≡ suc i
index-at ps i p at = grind (arith, position_at, pair-same, once-distinct)

pub index-absent : (ps : List Pair) (p : Pair) → has same_pair p ps ≡ false → index_in ps p ≡ 0
index-absent ps p absent = grind (arith, position_absent, has-distinct)

-- each pair that was called has an index, and it stands there among the different ones
pub place_of : (ps : List Pair) (p : Pair) → has same_pair p ps ≡ true → (i : ℕ) × (slice_get (distinct same_pair ps) i ≡ Some p)
place_of ps p there = has_at same_pair pair-same (distinct same_pair ps) p (has-distinct same_pair pair-same p ps ∙ there)

pub distinct-old : (ps : List Pair) (s t : ℕ) → has same_pair (pair s t) ps ≡ true → distinct same_pair (pushed ps s t) ≡ distinct same_pair ps
distinct-old ps s t there = grind (arith, distinct-push)

pub distinct-new : (ps : List Pair) (s t : ℕ) → has same_pair (pair s t) ps ≡ false → distinct same_pair (pushed ps s t) ≡ distinct same_pair ps ++ pair s t ∷ []
distinct-new ps s t absent = grind (arith, distinct-push)

-- an index stays
pub index-old : (ps : List Pair) (s t : ℕ) (q : Pair) → has same_pair q ps ≡ true → index_in (pushed ps s t) q ≡ index_in ps q
index-old ps s t q there =
    let found = place_of ps q there in
    let P : List Pair → Type 0 = λ ds. slice_get ds found.0 ≡ Some q in
    let also : slice_get (distinct same_pair (pushed ps s t)) found.0 ≡ Some q = elim (cases_Bool (has same_pair (pair s t) ps)) [
      | inl old ↦ subst P (sym (distinct-old ps s t old)) found.1
      | inr new ↦ subst P (sym (distinct-new ps s t new)) (slice_get-append (distinct same_pair ps) (pair s t ∷ []) found.0 q found.1)
    ] in
    index-at (pushed ps s t) found.0 q also ∙ sym (index-at ps found.0 q found.1)

-- a new pair has the next index
pub index-new : (ps : List Pair) (s t : ℕ) → has same_pair (pair s t) ps ≡ false → index_in (pushed ps s t) (pair s t) ≡ suc (distinct_count ps)
index-new ps s t absent = search (pair, index-at, pushed, distinct-new, slice_get-push)

pub index_at-chain : (ps : List Pair) (s t slot i : ℕ) → index_at (pushed ps s t) slot (slice_get (chain_in ps slot) i) ≡ index_at ps slot (slice_get (chain_in ps slot) i)
index_at-chain ps s t slot i = grind (arith, in_chain, index-old)

pub has_index : (pairs : List Pair) (p : Pair) → 0 < index_in pairs p → has same_pair p pairs ≡ true
has_index pairs p some = grind (arith, index-absent)

pub has_no_index : (pairs : List Pair) (p : Pair) → index_in pairs p ≡ 0 → has same_pair p pairs ≡ false
has_no_index pairs p none = grind (arith, place_of, index-at)

pub same_index : (pairs : List Pair) (p q : Pair) → 0 < index_in pairs p → index_in pairs p ≡ index_in pairs q → p ≡ q
same_index pairs p q some same =
    let ds = distinct same_pair pairs in
    let at_p = place_of pairs p (has_index pairs p some) in
    let at_q = place_of pairs q (has_index pairs q (omega arith)) in
    grind (arith, index-at, same_Some)

pub count-new : (ps : List Pair) (s t : ℕ) → has same_pair (pair s t) ps ≡ false → distinct_count (pushed ps s t) ≡ suc (distinct_count ps)
count-new ps s t absent = ap length (distinct-new ps s t absent) ∙ omega (arith, length-append (distinct same_pair ps) (pair s t ∷ []))

pub count-old : (ps : List Pair) (s t : ℕ) → has same_pair (pair s t) ps ≡ true → distinct_count (pushed ps s t) ≡ distinct_count ps
count-old ps s t there = ap length (distinct-old ps s t there)

-- what stands at a place of a chain, if anything does
pub at_place : (ps : List Pair) (slot i : ℕ) → ((length (chain_in ps slot) ≤ i) × (index_at ps slot (slice_get (chain_in ps slot) i) ≡ 0)) ⊎ ((x : ℕ) × (slice_get (chain_in ps slot) i ≡ Some x) × (index_at ps slot (slice_get (chain_in ps slot) i) ≡ index_in ps (pair slot x)) × (0 < index_in ps (pair slot x)))
at_place ps slot i =
    let c = chain_in ps slot in
    elim (cases_lt i (length c)) [
      | inl lt ↦
          let x = get_or c i 0 in
          let at = slice_get-get_or c i 0 lt in
          let place = place_of ps (pair slot x) (in_chain ps slot i x at) in
          inr (x, at, ap (index_at ps slot) at, omega (arith, index-at ps place.0 (pair slot x) place.1))
      | inr past ↦ inl (past, ap (index_at ps slot) (slice_get_past c i past))
    ]

pub index_at_small : (ps : List Pair) (s i : ℕ) → index_at ps s (slice_get (chain_in ps s) i) ≤ distinct_count ps
index_at_small ps s i = grind arith

-- where the arcs ran out, every place is taken
pub distinct_count-push : (ps : List Pair) (p : Pair) → distinct_count (ps ++ p ∷ []) ≤ distinct_count ps + 1
distinct_count-push ps p = elim (cases_Bool (has same_pair p ps)) [
  | inl there ↦ omega (arith, ap length (distinct-old ps p.slot p.to there))
  | inr absent ↦ omega (arith, ap length (distinct-new ps p.slot p.to absent), length-append (distinct same_pair ps) (p ∷ []))
]
