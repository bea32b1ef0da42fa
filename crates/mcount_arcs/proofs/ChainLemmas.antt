-- What one call more does to the chain of a slot.
use Rattle.std.proofs.Common.{◌≡◌, ℕ, suc, ◌<◌, ◌≤◌, Bool, true, false, ◌||◌, cond, eqb, List, [], ◌∷◌, ◌++◌, Some, inl, inr, refl, sym, ap, ◌∙◌, reverse}
use Rattle.std.proofs.lemmas.List.{append-nil, map-append, reverse-append}
use Rattle.std.proofs.lemmas.List.Elements.{filter-append}
use Rattle.std.specs.List.{slice_get}
use Rattle.std.proofs.lemmas.Bool.{cases_Bool, and_parts, eq-eqb, eqb-true, and_from, ne_eqb}
use Rattle.mcount_arcs.specs.Lists.{distinct}
use Rattle.std.proofs.lemmas.Grind.{reverse_onto}
use Rattle.mcount_arcs.specs.Log.{Pair, same_pair}
use Rattle.mcount_arcs.specs.Arcs.{callees_at, chain_in}
use Rattle.mcount_arcs.proofs.DistinctLemmas.{IsSame, eqb-same, has, once, without, no_sym, without-absent, once-distinct, has-distinct, has-append, at_has, has_at, one_place, without_before, without_behind}

abbrev pub pair : ℕ → ℕ → Pair
pair slot to = record { slot = slot; to = to }

pair_from : (p q : Pair) → p.slot ≡ q.slot → p.to ≡ q.to → p ≡ q
pair_from p q a b = ap (λ (s : ℕ). pair s p.to) a ∙ ap (pair q.slot) b

pub pair-same : IsSame same_pair
pair-same = record {
  equal = λ p q e. let parts = and_parts (eqb p.slot q.slot) (eqb p.to q.to) e in pair_from p q (eqb-true p.slot q.slot parts.0) (eqb-true p.to q.to parts.1);
  self = λ p. and_from (eqb p.slot p.slot) (eqb p.to p.to) (eq-eqb p.slot p.slot refl) (eq-eqb p.to p.to refl);
}

abbrev pub pushed : List Pair → ℕ → ℕ → List Pair
pushed ps slot to = ps ++ pair slot to ∷ []

callees-push : (ps : List Pair) (s t slot : ℕ) → callees_at slot (pushed ps s t) ≡ callees_at slot ps ++ cond (eqb s slot) (t ∷ []) []
callees-push ps s t slot = elim (cases_Bool (eqb s slot)) [
  | inl e ↦ simp (filter-append, map-append, e)
  | inr e ↦ simp (filter-append, map-append, e)
]

-- the callee that was called latest stands first, and the others keep their order
pub chain-push : (ps : List Pair) (s t slot : ℕ) → chain_in (pushed ps s t) slot ≡ cond (eqb s slot) (t ∷ without eqb t (chain_in ps slot)) (chain_in ps slot)
chain-push ps s t slot =
    let chain : List ℕ → List ℕ = λ cs. distinct eqb (reverse cs) in
    elim (cases_Bool (eqb s slot)) [
      | inl e ↦ ap chain (callees-push ps s t slot) ∙ simp (e, reverse-append)
      | inr e ↦ ap chain (callees-push ps s t slot) ∙ simp (e, append-nil)
    ]

pub chain-once : (ps : List Pair) (slot : ℕ) → once eqb (chain_in ps slot) ≡ true
chain-once ps slot = once-distinct eqb (reverse (callees_at slot ps))

or_back : (a b : Bool) → (a || (b || false)) ≡ (b || a)
or_back true true = refl
or_back true false = refl
or_back false true = refl
or_back false false = refl

has-reverse : {X : Type 0} (same : X → X → Bool) (x : X) (xs : List X) → has same x (reverse xs) ≡ has same x xs
has-reverse same x [] = refl
has-reverse same x (y ∷ ys) =
    ap (has same x) (reverse_onto ys y []) ∙ has-append same x (reverse ys) (y ∷ []) ∙ ap (λ (b : Bool). b || (same x y || false)) (has-reverse same x ys) ∙ or_back (has same x ys) (same x y)

has-callees : (ps : List Pair) (slot to : ℕ) → has eqb to (callees_at slot ps) ≡ has same_pair (pair slot to) ps
has-callees [] slot to = refl
has-callees (p ∷ ps) slot to = elim (cases_Bool (eqb slot p.slot)) [
  | inl e ↦
      let back : eqb p.slot slot ≡ true = eq-eqb p.slot slot (sym (eqb-true slot p.slot e)) in
      simp (e, back) (ap (λ (b : Bool). eqb to p.to || b) (has-callees ps slot to))
  | inr e ↦ simp (e, no_sym eqb eqb-same slot p.slot e) (has-callees ps slot to)
]

-- a callee stands in its slot's chain where the pair was called
pub has-chain : (ps : List Pair) (slot to : ℕ) → has eqb to (chain_in ps slot) ≡ has same_pair (pair slot to) ps
has-chain ps slot to = search (has-distinct, eqb, eqb-same, reverse, has-reverse, has-callees)

pub in_chain : (ps : List Pair) (slot i x : ℕ) → slice_get (chain_in ps slot) i ≡ Some x → has same_pair (pair slot x) ps ≡ true
in_chain ps slot i x at = sym (has-chain ps slot x) ∙ at_has eqb eqb-same (chain_in ps slot) i x at

-- where a pair of a slot stands in its chain
pub chain_place : (ps : List Pair) (slot to : ℕ) → has same_pair (pair slot to) ps ≡ true → (i : ℕ) × (slice_get (chain_in ps slot) i ≡ Some to)
chain_place ps slot to there = has_at eqb eqb-same (chain_in ps slot) to (has-chain ps slot to ∙ there)

pub chain-own : (ps : List Pair) (s t : ℕ) → chain_in (pushed ps s t) s ≡ t ∷ without eqb t (chain_in ps s)
chain-own ps s t = search (chain-push, without, eqb, eq-eqb)

pub chain-other : (ps : List Pair) (s t slot : ℕ) → eqb s slot ≡ false → chain_in (pushed ps s t) slot ≡ chain_in ps slot
chain-other ps s t slot other =
    chain-push ps s t slot ∙ ap (λ (b : Bool). cond b (t ∷ without eqb t (chain_in ps slot)) (chain_in ps slot)) other

-- what stands behind the front of the call's own chain: by what stood there before
pub own-before : (ps : List Pair) (s t i k : ℕ) → slice_get (chain_in ps s) k ≡ Some t → i < k → slice_get (chain_in (pushed ps s t) s) (suc i) ≡ slice_get (chain_in ps s) i
own-before ps s t i k at lt = search (chain-own, without_before, eqb, eqb-same, chain-once)

pub own-behind : (ps : List Pair) (s t i k : ℕ) → slice_get (chain_in ps s) k ≡ Some t → k ≤ i → slice_get (chain_in (pushed ps s t) s) (suc i) ≡ slice_get (chain_in ps s) (suc i)
own-behind ps s t i k at le = search (chain-own, without_behind, eqb, eqb-same, chain-once)

pub own-new : (ps : List Pair) (s t i : ℕ) → has eqb t (chain_in ps s) ≡ false → slice_get (chain_in (pushed ps s t) s) (suc i) ≡ slice_get (chain_in ps s) i
own-new ps s t i absent = search (chain-own, without-absent, eqb)

pub own-front : (ps : List Pair) (s t : ℕ) → slice_get (chain_in (pushed ps s t) s) 0 ≡ Some t
own-front ps s t = ap (λ (c : List ℕ). slice_get c 0) (chain-own ps s t)

-- the callee at another place of the chain is another one
pub other_place : (ps : List Pair) (s t x i k : ℕ) → slice_get (chain_in ps s) k ≡ Some t → slice_get (chain_in ps s) i ≡ Some x → (i ≡ k → ⊥) → eqb x t ≡ false
other_place ps s t x i k at also apart =
    ne_eqb x t (λ e. apart (one_place eqb eqb-same (chain_in ps s) i k t (chain-once ps s) (also ∙ ap (λ (z : ℕ). Some z) e) at))
