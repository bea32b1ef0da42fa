-- What one call more does to the entries of pairs, and to the fronts of slots.
use Rattle.std.proofs.Common.{◌≡◌, ℕ, zero, suc, ◌<◌, ◌≤◌, Bool, true, false, not, cond, eqb, List, [], ◌∷◌, ◌++◌, length, Some, inl, inr, refl, sym, ap, ◌∙◌, arith, ◌+◌, subst}
use Rattle.std.proofs.lemmas.Option.{same_Some}
use Rattle.std.specs.List.{filter, slice_get, count_by}
use Rattle.std.proofs.lemmas.Bool.{cases_Bool, false≢true, false_from_ne_true, and_parts, or_parts, not-true, eq-eqb, eqb-true, cases_lt, and_left, and_right, ne_eqb}
use Rattle.std.proofs.lemmas.List.Sums.{sum_by_push, length-filter, count_by-le-length}
use Rattle.gmon_block.specs.declared.entry.Tos.{Tos}
use Rattle.mcount_arcs.specs.Log.{Pair, same_pair}
use Rattle.mcount_arcs.specs.Arcs.{chain_in}
use Rattle.mcount_arcs.specs.Image.{index_in, index_at, first_of, next_after, entry_in, front_in}
use Rattle.mcount_arcs.proofs.DistinctLemmas.{eqb-same, has, once, without, no_sym, at_has}
use Rattle.mcount_arcs.proofs.ChainLemmas.{pair, pair-same, pushed, chain-push, chain-once, has-chain, chain_place, chain-own, chain-other, own-before, own-behind, own-new, own-front, other_place}
use Rattle.mcount_arcs.proofs.IndexLemmas.{index_at-chain, has_index, has_no_index}

pub first_at_zero : (xs : List ℕ) → first_of xs ≡ slice_get xs 0
first_at_zero xs = grind arith

next_at : (xs : List ℕ) (i x : ℕ) → once eqb xs ≡ true → slice_get xs i ≡ Some x → next_after x xs ≡ slice_get xs (suc i)
next_at [] i x o at = refl
next_at (y ∷ ys) zero x o at = search (eqb, eq-eqb, same_Some, first_at_zero)
next_at (y ∷ ys) (suc i) x o at =
    let parts = and_parts (not (has eqb y ys)) (once eqb ys) o in
    grind (arith, not-true, has, eqb, false_from_ne_true, false≢true, eqb-true, at_has, eqb-same, next_at ys i x parts.1 at)

abbrev pub count_of : List Pair → ℕ → ℕ → ℕ
count_of ps slot to = count_by (same_pair (pair slot to)) ps

-- the entry of the i-th of a chain
pub entry-at : (ps : List Pair) (slot i to : ℕ) → slice_get (chain_in ps slot) i ≡ Some to
    → entry_in ps (pair slot to) ≡ record { selfpc = to; count = count_of ps slot to; link = index_at ps slot (slice_get (chain_in ps slot) (suc i)) }
entry-at ps slot i to at = grind (arith, next_at, chain-once)

abbrev pub tos : (selfpc count : ℕ) → ℕ → Tos
tos selfpc count link = record { selfpc = selfpc; count = count; link = link }

-- how often a pair was called, with one call more
pub count-push : (ps : List Pair) (s t slot to : ℕ) → count_of (pushed ps s t) slot to ≡ count_of ps slot to + cond (same_pair (pair slot to) (pair s t)) 1 0
count-push ps s t slot to = sum_by_push (λ p. cond (same_pair (pair slot to) p) 1 0) ps (pair s t)

-- entries of other slots stay
pub entry-other_slot : (ps : List Pair) (s t slot to : ℕ) → eqb s slot ≡ false → has same_pair (pair slot to) ps ≡ true → entry_in (pushed ps s t) (pair slot to) ≡ entry_in ps (pair slot to)
entry-other_slot ps s t slot to other there =
    let place = chain_place ps slot to there in
    let chain : chain_in (pushed ps s t) slot ≡ chain_in ps slot = chain-push ps s t slot ∙ ap (λ (b : Bool). cond b (t ∷ without eqb t (chain_in ps slot)) (chain_in ps slot)) other in
    let P : List ℕ → Type 0 = λ c. slice_get c place.0 ≡ Some to in
    let differ : same_pair (pair slot to) (pair s t) ≡ false = and_left (eqb slot s) (eqb to t) (no_sym eqb eqb-same s slot other) in
    let count : count_of (pushed ps s t) slot to ≡ count_of ps slot to = count-push ps s t slot to ∙ ap (λ (b : Bool). count_of ps slot to + cond b 1 0) differ ∙ omega arith in
    let link : index_at (pushed ps s t) slot (slice_get (chain_in (pushed ps s t) slot) (suc place.0)) ≡ index_at ps slot (slice_get (chain_in ps slot) (suc place.0)) =
    ap (λ (c : List ℕ). index_at (pushed ps s t) slot (slice_get c (suc place.0))) chain ∙ index_at-chain ps s t slot (suc place.0) in
    entry-at (pushed ps s t) slot place.0 to (subst P (sym chain) place.1)
    ∙ ap (λ (n : ℕ). tos to n (index_at (pushed ps s t) slot (slice_get (chain_in (pushed ps s t) slot) (suc place.0)))) count
    ∙ ap (tos to (count_of ps slot to)) link
    ∙ sym (entry-at ps slot place.0 to place.1)

-- an entry, by where its callee stands in the chain
pub entry-is : (ps : List Pair) (slot i to n l : ℕ) → slice_get (chain_in ps slot) i ≡ Some to → count_of ps slot to ≡ n → index_at ps slot (slice_get (chain_in ps slot) (suc i)) ≡ l → entry_in ps (pair slot to) ≡ tos to n l
entry-is ps slot i to n l at count link = grind (arith, entry-at)

count-other : (ps : List Pair) (s t x : ℕ) → eqb x t ≡ false → count_of (pushed ps s t) s x ≡ count_of ps s x
count-other ps s t x differ =
    count-push ps s t s x ∙ ap (λ (b : Bool). count_of ps s x + cond b 1 0) (and_right (eqb s s) (eqb x t) differ) ∙ omega arith

count-self : (ps : List Pair) (s t : ℕ) → count_of (pushed ps s t) s t ≡ count_of ps s t + 1
count-self ps s t = search (count-push, pair, pair-same.self)

-- an entry of the chain stays, if its callee is neither the one called nor the one before it
pub entry-unmoved : (ps : List Pair) (s t k i x : ℕ) → slice_get (chain_in ps s) k ≡ Some t → slice_get (chain_in ps s) i ≡ Some x → (i ≡ k → ⊥) → (suc i ≡ k → ⊥) → entry_in (pushed ps s t) (pair s x) ≡ entry_in ps (pair s x)
entry-unmoved ps s t k i x at also apart before =
    let old : entry_in ps (pair s x) ≡ tos x (count_of ps s x) (index_at ps s (slice_get (chain_in ps s) (suc i))) = entry-at ps s i x also in
    let count = count-other ps s t x (other_place ps s t x i k at also apart) in
    let index = index_at-chain ps s t s (suc i) in
    let link = index_at (pushed ps s t) s in
    elim (cases_lt i k) [
      | inl lt ↦ entry-is (pushed ps s t) s (suc i) x (count_of ps s x) (index_at ps s (slice_get (chain_in ps s) (suc i))) (own-before ps s t i k at lt ∙ also) count (ap link (own-before ps s t (suc i) k at (omega arith)) ∙ index) ∙ sym old
      | inr ge ↦ elim i as (λ (n : ℕ). k < n → slice_get (chain_in ps s) n ≡ Some x → entry_in (pushed ps s t) (pair s x) ≡ tos x (count_of ps s x) (index_at ps s (slice_get (chain_in ps s) (suc n)))) [
        | zero ↦ λ l a. absurd (omega arith)
        | suc j ↦ λ l a. entry-is (pushed ps s t) s (suc j) x (count_of ps s x) (index_at ps s (slice_get (chain_in ps s) (suc (suc j)))) (own-behind ps s t j k at (omega arith) ∙ a) count (ap link (own-behind ps s t (suc j) k at (omega arith)) ∙ index_at-chain ps s t s (suc (suc j)))
      ] (omega arith) also ∙ sym old
    ]

-- the entry before it is linked past it
pub entry-before : (ps : List Pair) (s t i x : ℕ) → slice_get (chain_in ps s) (suc i) ≡ Some t → slice_get (chain_in ps s) i ≡ Some x → entry_in (pushed ps s t) (pair s x) ≡ record (entry_in ps (pair s x)) { link = (entry_in ps (pair s t)).link }
entry-before ps s t i x at also =
    let self = entry-at ps s (suc i) t at in
    let count = count-other ps s t x (other_place ps s t x i (suc i) at also (λ e. omega arith)) in
    entry-is (pushed ps s t) s (suc i) x (count_of ps s x) (entry_in ps (pair s t)).link (own-before ps s t i (suc i) at (omega arith) ∙ also) count
    (ap (index_at (pushed ps s t) s) (own-behind ps s t (suc i) (suc i) at (omega arith)) ∙ index_at-chain ps s t s (suc (suc i)) ∙ ap (λ (e : Tos). e.link) (sym self))

-- its own entry counts it, and is linked to the front that was
pub entry-found : (ps : List Pair) (s t k : ℕ) → slice_get (chain_in ps s) (suc k) ≡ Some t → entry_in (pushed ps s t) (pair s t) ≡ tos t (count_of ps s t + 1) (front_in ps s)
entry-found ps s t k at =
    entry-is (pushed ps s t) s 0 t (count_of ps s t + 1) (front_in ps s) (own-front ps s t) (count-self ps s t)
    (ap (index_at (pushed ps s t) s) (own-before ps s t 0 (suc k) at (omega arith)) ∙ index_at-chain ps s t s 0 ∙ ap (index_at ps s) (sym (first_at_zero (chain_in ps s))))

-- or, where it stands at the front, counts it alone
pub entry-front : (ps : List Pair) (s t : ℕ) → slice_get (chain_in ps s) 0 ≡ Some t → entry_in (pushed ps s t) (pair s t) ≡ record (entry_in ps (pair s t)) { count = count_of ps s t + 1 }
entry-front ps s t at =
    entry-is (pushed ps s t) s 0 t (count_of ps s t + 1) (entry_in ps (pair s t)).link (own-front ps s t) (count-self ps s t)
    (ap (index_at (pushed ps s t) s) (own-behind ps s t 0 0 at (omega arith)) ∙ index_at-chain ps s t s 1 ∙ ap (λ (e : Tos). e.link) (sym (entry-at ps s 0 t at)))

filter-none : (p : Pair) (ps : List Pair) → has same_pair p ps ≡ false → filter (same_pair p) ps ≡ []
filter-none p [] absent = refl
filter-none p (q ∷ ps) absent =
    let parts = or_parts (same_pair p q) (has same_pair p ps) absent in simp (parts.0) (filter-none p ps parts.1)

count-none : (ps : List Pair) (p : Pair) → has same_pair p ps ≡ false → count_by (same_pair p) ps ≡ 0
count-none ps p absent = sym (length-filter (same_pair p) ps) ∙ ap length (filter-none p ps absent)

pub entry-new : (ps : List Pair) (s t : ℕ) → has same_pair (pair s t) ps ≡ false → entry_in (pushed ps s t) (pair s t) ≡ tos t 1 (front_in ps s)
entry-new ps s t absent =
    entry-is (pushed ps s t) s 0 t 1 (front_in ps s) (own-front ps s t) (count-self ps s t ∙ ap (λ (n : ℕ). n + 1) (count-none ps (pair s t) absent))
    (ap (index_at (pushed ps s t) s) (own-new ps s t 0 (has-chain ps s t ∙ absent)) ∙ index_at-chain ps s t s 0 ∙ ap (index_at ps s) (sym (first_at_zero (chain_in ps s))))

pub entry-old : (ps : List Pair) (s t i x : ℕ) → has same_pair (pair s t) ps ≡ false → slice_get (chain_in ps s) i ≡ Some x → entry_in (pushed ps s t) (pair s x) ≡ entry_in ps (pair s x)
entry-old ps s t i x absent also =
    let absent_there = has-chain ps s t ∙ absent in
    let differ : eqb x t ≡ false = ne_eqb x t (λ e. false≢true (sym absent_there ∙ ap (λ (z : ℕ). has eqb z (chain_in ps s)) (sym e) ∙ at_has eqb eqb-same (chain_in ps s) i x also)) in
    entry-is (pushed ps s t) s (suc i) x (count_of ps s x) (index_at ps s (slice_get (chain_in ps s) (suc i))) (own-new ps s t i absent_there ∙ also) (count-other ps s t x differ)
    (ap (index_at (pushed ps s t) s) (own-new ps s t (suc i) absent_there) ∙ index_at-chain ps s t s (suc i))
    ∙ sym (entry-at ps s i x also)

pub front-own : (ps : List Pair) (s t : ℕ) → front_in (pushed ps s t) s ≡ index_in (pushed ps s t) (pair s t)
front-own ps s t = ap (λ (c : List ℕ). index_at (pushed ps s t) s (first_of c)) (chain-own ps s t)

pub front-other : (ps : List Pair) (s t slot : ℕ) → eqb s slot ≡ false → front_in (pushed ps s t) slot ≡ front_in ps slot
front-other ps s t slot other = search (pushed, chain-other, first_at_zero, index_at-chain)

pub by_slot : (P : Pair → Type 0) (s : ℕ) (q : Pair) → (eqb s q.slot ≡ false → P q) → ((x : ℕ) → q ≡ pair s x → P (pair s x)) → P q
by_slot P s q other own = elim (cases_Bool (eqb s q.slot)) [
  | inl e ↦
      let same : q ≡ pair s q.to = ap (λ (n : ℕ). pair n q.to) (sym (eqb-true s q.slot e)) in subst P (sym same) (own q.to same)
  | inr e ↦ other e
]

pub agree-new : (ps : List Pair) (s t : ℕ) → has same_pair (pair s t) ps ≡ false → (q : Pair) → has same_pair q ps ≡ true → entry_in ps q ≡ entry_in (pushed ps s t) q
agree-new ps s t absent q there = grind (arith, entry-other_slot, chain_place, entry-old)

-- of a call that is new no other entry changes
pub entries_stay_new : (pairs : List Pair) (p q : Pair) → index_in pairs p ≡ 0 → 0 < index_in pairs q → entry_in (pairs ++ p ∷ []) q ≡ entry_in pairs q
entries_stay_new pairs p q none some = grind (arith, agree-new, has_no_index, has_index)

-- and of one that isn't, none but its own and the one that is linked to it
pub entries_stay : (pairs : List Pair) (p q : Pair) → 0 < index_in pairs p → 0 < index_in pairs q → (q ≡ p → ⊥) → ((entry_in pairs q).link ≡ index_in pairs p → ⊥) → entry_in (pairs ++ p ∷ []) q ≡ entry_in pairs q
entries_stay pairs p q there some other unlinked =
    let found = chain_place pairs p.slot p.to (has_index pairs p there) in
    let c = chain_in pairs p.slot in
    by_slot (λ r. has same_pair r pairs ≡ true → (r ≡ p → ⊥) → ((entry_in pairs r).link ≡ index_in pairs p → ⊥) → entry_in (pairs ++ p ∷ []) r ≡ entry_in pairs r) p.slot q
    (λ far here ne nl. entry-other_slot pairs p.slot p.to q.slot q.to far here)
    (λ x same here ne nl.
    let place = chain_place pairs p.slot x here in
    entry-unmoved pairs p.slot p.to found.0 place.0 x found.1 place.1
    (λ e. let one : Some x ≡ Some p.to = sym place.1 ∙ ap (slice_get c) e ∙ found.1 in ne (ap (pair p.slot) (same_Some x p.to one)))
    (λ e. nl (ap (λ (t : Tos). t.link) (entry-at pairs p.slot place.0 x place.1) ∙ ap (λ (k : ℕ). index_at pairs p.slot (slice_get c k)) e ∙ ap (index_at pairs p.slot) found.1)))
    (has_index pairs q some) other unlinked

pub count_small : (ps : List Pair) (s t : ℕ) → count_of ps s t ≤ length ps
count_small ps s t = count_by-le-length (same_pair (pair s t)) ps
