-- How long chains are: no longer than there are pairs, each of them and all together.
use Rattle.std.proofs.Common.{◌≡◌, ℕ, zero, suc, ◌<◌, ◌≤◌, true, false, eqb, List, [], ◌∷◌, ◌++◌, length, inl, inr, refl, sym, ap, ◌∙◌, arith, ◌+◌, reverse, subst, length-append}
use Rattle.std.proofs.lemmas.Bool.{cases_Bool, false≢true, or_cases, eqb-true, ne_eqb, cases_eq}
use Rattle.std.proofs.lemmas.Grind.{reverse_onto}
use Rattle.mcount_arcs.specs.Log.{Pair, same_pair, distinct_count}
use Rattle.mcount_arcs.specs.Arcs.{chain_in, arcs_in, slot_arcs}
use Rattle.std.proofs.lemmas.List.{length-map, reverse-reverse}
use Rattle.std.specs.List.{flat_map, range_with_len, sum_by}
use Rattle.mcount_arcs.specs.declared.sizes.Sizes.{Sizes}
use Rattle.std.proofs.lemmas.List.Sums.{sum_by-cons}
use Rattle.mcount_arcs.proofs.DistinctLemmas.{has, without}
use Rattle.mcount_arcs.proofs.ChainLemmas.{pair, pushed, has-chain, chain-own, chain-other}
use Rattle.mcount_arcs.proofs.IndexLemmas.{count-new, count-old}

from_reverse : {X : Type 0} (P : List X → Type 0) → P [] → ((xs : List X) (x : X) → P xs → P (xs ++ x ∷ [])) → (ys : List X) → P (reverse ys)
from_reverse P none more [] = none
from_reverse P none more (y ∷ ys) = subst P (sym (reverse_onto ys y [])) (more (reverse ys) y (from_reverse P none more ys))

by_pushes : {X : Type 0} (P : List X → Type 0) → P [] → ((xs : List X) (x : X) → P xs → P (xs ++ x ∷ [])) → (xs : List X) → P xs
by_pushes {X} P none more xs =
    let reversed : (ys : List X) → P (reverse ys) = from_reverse P none more in
    subst P (reverse-reverse xs) (reversed (reverse xs))

length-without : (t : ℕ) (xs : List ℕ) → length (without eqb t xs) ≤ length xs
length-without t [] = omega arith
length-without t (y ∷ ys) = grind (arith, length-without t ys)

length-without_one : (t : ℕ) (xs : List ℕ) → has eqb t xs ≡ true → length (without eqb t xs) < length xs
length-without_one t [] there = absurd (false≢true there)
length-without_one t (y ∷ ys) there = elim (cases_Bool (eqb t y)) [
  | inl e ↦ simp e (omega (arith, length-without t ys))
  | inr e ↦ elim (or_cases (eqb t y) (has eqb t ys) there) [
    | inl also ↦ absurd (false≢true (sym e ∙ also))
    | inr rest ↦ simp e (omega (arith, length-without_one t ys rest))
  ]
]

count-grows : (ps : List Pair) (s t : ℕ) → distinct_count ps ≤ distinct_count (pushed ps s t)
count-grows ps s t = grind (arith, count-old, count-new)

chain_short_push : (slot : ℕ) (ps : List Pair) (p : Pair) → length (chain_in ps slot) ≤ distinct_count ps → length (chain_in (ps ++ p ∷ []) slot) ≤ distinct_count (ps ++ p ∷ [])
chain_short_push slot ps p short = elim (cases_Bool (eqb p.slot slot)) [
  | inl e ↦
      let same = eqb-true p.slot slot e in
      let own : length (chain_in (ps ++ p ∷ []) slot) ≡ suc (length (without eqb p.to (chain_in ps slot))) =
      ap (λ (n : ℕ). length (chain_in (ps ++ p ∷ []) n)) (sym same) ∙ ap length (chain-own ps p.slot p.to) ∙ ap (λ (n : ℕ). suc (length (without eqb p.to (chain_in ps n)))) same in
      let where_it_is : has eqb p.to (chain_in ps slot) ≡ has same_pair p ps = has-chain ps slot p.to ∙ ap (λ (n : ℕ). has same_pair (pair n p.to) ps) (sym same) in
      elim (cases_Bool (has same_pair p ps)) [
        | inl there ↦ omega (arith, own, count-old ps p.slot p.to there, length-without_one p.to (chain_in ps slot) (where_it_is ∙ there))
        | inr absent ↦ omega (arith, own, count-new ps p.slot p.to absent, length-without p.to (chain_in ps slot))
      ]
  | inr e ↦ omega (arith, ap length (chain-other ps p.slot p.to slot e), count-grows ps p.slot p.to)
]

pub chain_short : (ps : List Pair) (slot : ℕ) → length (chain_in ps slot) ≤ distinct_count ps
chain_short ps slot = by_pushes (λ qs. length (chain_in qs slot) ≤ distinct_count qs) (omega arith) (chain_short_push slot) ps

chain_more : (ps : List Pair) (p : Pair) (slot : ℕ) → (eqb p.slot slot ≡ false → length (chain_in (ps ++ p ∷ []) slot) ≡ length (chain_in ps slot))
chain_more ps p slot other = ap length (chain-other ps p.slot p.to slot other)

chain_old : (ps : List Pair) (p : Pair) → has same_pair p ps ≡ true → length (chain_in (ps ++ p ∷ []) p.slot) ≤ length (chain_in ps p.slot)
chain_old ps p there = grind (arith, chain-own, length-without_one, has-chain)

chain_new : (ps : List Pair) (p : Pair) → length (chain_in (ps ++ p ∷ []) p.slot) ≤ length (chain_in ps p.slot) + 1
chain_new ps p = omega (arith, ap length (chain-own ps p.slot p.to), length-without p.to (chain_in ps p.slot))

sum_le : (f g : ℕ → ℕ) (a n : ℕ) → ((k : ℕ) → a ≤ k → f k ≤ g k) → sum_by f (range_with_len a n) ≤ sum_by g (range_with_len a n)
sum_le f g a zero le = omega arith
sum_le f g a (suc n) le = grind (arith, sum_by-cons, sum_le f g (a + 1) n)

sum_one : (f g : ℕ → ℕ) (s a n : ℕ) → ((k : ℕ) → (s ≡ k → ⊥) → f k ≤ g k) → f s ≤ g s + 1 → sum_by f (range_with_len a n) ≤ sum_by g (range_with_len a n) + 1
sum_one f g s a zero le one = omega arith
sum_one f g s a (suc n) le one = grind (arith, sum_by-cons, sum_le, sum_one f g s (a + 1) n le one)

all_chains : ℕ → List Pair → ℕ
all_chains slots ps = sum_by (λ k. length (chain_in ps k)) (range_with_len 0 slots)

all_chains-push : (slots : ℕ) (ps : List Pair) (p : Pair) → all_chains slots ps ≤ distinct_count ps → all_chains slots (ps ++ p ∷ []) ≤ distinct_count (ps ++ p ∷ [])
unfolding all_chains
all_chains-push slots ps p short =
    let f = λ (k : ℕ). length (chain_in (ps ++ p ∷ []) k) in
    let g = λ (k : ℕ). length (chain_in ps k) in
    let others : (k : ℕ) → (p.slot ≡ k → ⊥) → f k ≤ g k = λ k ne. omega (arith, chain_more ps p k (ne_eqb p.slot k ne)) in
    elim (cases_Bool (has same_pair p ps)) [
      | inl there ↦
          let le : (k : ℕ) → 0 ≤ k → f k ≤ g k = λ k _. elim (cases_eq p.slot k) [
            | inl e ↦ let P : ℕ → Type 0 = λ n. f n ≤ g n in subst P e (chain_old ps p there)
            | inr ne ↦ others k ne
          ] in
          omega (arith, sum_le f g 0 slots le, count-old ps p.slot p.to there)
      | inr absent ↦ omega (arith, sum_one f g p.slot 0 slots others (chain_new ps p), count-new ps p.slot p.to absent)
    ]

no_chains : (a slots : ℕ) → sum_by (λ k. length (chain_in [] k)) (range_with_len a slots) ≤ 0
no_chains a zero = omega arith
no_chains a (suc n) = omega (arith, sum_by-cons (λ k. length (chain_in [] k)) a (range_with_len (a + 1) n), no_chains (a + 1) n)

chains_few : (slots : ℕ) (ps : List Pair) → all_chains slots ps ≤ distinct_count ps
unfolding all_chains
chains_few slots ps = by_pushes (λ qs. all_chains slots qs ≤ distinct_count qs) (no_chains 0 slots) (all_chains-push slots) ps

length_arcs : (z : Sizes) (ps : List Pair) (a n : ℕ) → length (flat_map (slot_arcs z ps) (range_with_len a n)) ≡ sum_by (λ k. length (chain_in ps k)) (range_with_len a n)
length_arcs z ps a zero = refl
length_arcs z ps a (suc n) = search (sum_by-cons, length-append, length-map, length_arcs z ps (a + 1) n)

pub arcs_few : (z : Sizes) (ps : List Pair) → length (arcs_in z ps) ≤ distinct_count ps
unfolding all_chains
arcs_few z ps = omega (arith, length_arcs z ps 0 z.slots, chains_few z.slots ps)
