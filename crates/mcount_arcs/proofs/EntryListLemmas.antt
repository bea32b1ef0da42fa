-- The lists of entries and of fronts: what is read in them, and the writes that make those of one call more.
use Rattle.std.proofs.Common.{◌≡◌, ℕ, zero, suc, ◌<◌, Bool, true, false, not, cond, eqb, List, [], ◌∷◌, ◌++◌, length, Some, inl, inr, refl, sym, ap, ◌∙◌, arith, ◌+◌, subst, ◌-◌, get_or, set, map, replicate, length-append, get_or-set_other, get_or-set_same, length-set}
use Rattle.std.proofs.lemmas.Option.{none-some, slice_get-map}
use Rattle.std.specs.List.{slice_get}
use Rattle.std.proofs.lemmas.Bool.{cases_Bool, false≢true, false_from_ne_true, and_parts, or_right, not-true, eqb-true, or_left, eqb-false}
use Rattle.mcount_arcs.specs.Lists.{distinct}
use Rattle.std.specs.Option.{option_map}
use Rattle.gmon_block.specs.declared.entry.Tos.{Tos}
use Rattle.mcount_arcs.specs.Log.{Pair, same_pair, distinct_count}
use Rattle.mcount_arcs.specs.Arcs.{chain_in}
use Rattle.mcount_arcs.specs.Image.{index_in, index_at, entry_in, front_in, first_entry, entries_in, fronts_in}
use Rattle.std.proofs.lemmas.List.{append_assoc, length-map, set_at, map_push, length-replicate}
use Rattle.std.proofs.lemmas.List.FromFn.{length-map-range_with_len, get_or-map-range_with_len, fill_by_all}
use Rattle.gmon_block.specs.Layout.{no_entry}
use Rattle.mcount_arcs.proofs.DistinctLemmas.{IsSame, has, once, once-distinct, has-distinct, at_has}
use Rattle.mcount_arcs.proofs.ChainLemmas.{pair, pair-same, pushed, chain_place}
use Rattle.mcount_arcs.proofs.IndexLemmas.{slice_get-append, index-at, place_of, distinct-old, distinct-new, index-old, count-new}
use Rattle.mcount_arcs.proofs.EntryLemmas.{first_at_zero, count_of, tos, entry-other_slot, entry-unmoved, entry-before, entry-found, entry-front, entry-new, front-own, front-other, by_slot, agree-new}

-- two functions that agree on what stands in a list
map_agree : {X Y : Type 0} (same : X → X → Bool) → IsSame same → (f g : X → Y) (ds : List X) → ((q : X) → has same q ds ≡ true → f q ≡ g q) → map f ds ≡ map g ds
map_agree same law f g [] agree = refl
map_agree {X} {Y} same law f g (d ∷ ds) agree = grind (arith, map_agree same law f g ds)

-- a write at the place of one item, where the two functions differ
set_one : {X Y : Type 0} (same : X → X → Bool) → IsSame same → (f g : X → Y) (ds : List X) (rest : List Y) (i : ℕ) (p : X) → once same ds ≡ true → slice_get ds i ≡ Some p
    → ((q : X) → has same q ds ≡ true → same p q ≡ false → f q ≡ g q) → set (map f ds ++ rest) i (g p) ≡ map g ds ++ rest
set_one same law f g [] rest i p o at agree = absurd (none-some p at)
set_one {X} {Y} same law f g (d ∷ ds) rest zero p o at agree = grind (arith, map_agree)
set_one {X} {Y} same law f g (d ∷ ds) rest (suc i) p o at agree =
    let parts = and_parts (not (has same d ds)) (once same ds) o in
    grind (arith, not-true, has, at_has, set, or_left, false_from_ne_true, false≢true, or_right, set_one same law f g ds rest i p parts.1 at)

-- the same in the entries, which have one in front
set_entry : (f g : Pair → Tos) (head : Tos) (ps : List Pair) (rest : List Tos) (p : Pair) → has same_pair p ps ≡ true
    → ((q : Pair) → has same_pair q ps ≡ true → same_pair p q ≡ false → f q ≡ g q)
    → set (head ∷ map f (distinct same_pair ps) ++ rest) (index_in ps p) (g p) ≡ head ∷ map g (distinct same_pair ps) ++ rest
set_entry f g head ps rest p there agree = grind (arith, place_of, index-at, set_one, once-distinct, has-distinct)

abbrev blank : ℕ → List Pair → List Tos
blank limit ps = replicate (limit - 1 - distinct_count ps) no_entry

-- another callee stands at another place
not_same : (ps : List Pair) (s t x k i : ℕ) → slice_get (chain_in ps s) k ≡ Some t → slice_get (chain_in ps s) i ≡ Some x → same_pair (pair s t) (pair s x) ≡ false → i ≡ k → ⊥
not_same ps s t x k i at also differ e = grind arith

same_entries : (limit : ℕ) (ps : List Pair) (s t : ℕ) → has same_pair (pair s t) ps ≡ true
    → entries_in limit (pushed ps s t) (pushed ps s t) ≡ first_entry ps ∷ map (entry_in (pushed ps s t)) (distinct same_pair ps) ++ blank limit ps
same_entries limit ps s t there = search (pushed, replicate, distinct-old)

-- at the front
pub entries-front : (limit : ℕ) (ps : List Pair) (s t : ℕ) → slice_get (chain_in ps s) 0 ≡ Some t → has same_pair (pair s t) ps ≡ true
    → set (entries_in limit ps ps) (index_in ps (pair s t)) (record (entry_in ps (pair s t)) { count = count_of ps s t + 1 }) ≡ entries_in limit (pushed ps s t) (pushed ps s t)
entries-front limit ps s t at there =
    let f = entry_in ps in
    let g = entry_in (pushed ps s t) in
    let agree : (q : Pair) → has same_pair q ps ≡ true → same_pair (pair s t) q ≡ false → f q ≡ g q = λ q there_q differ.
    by_slot (λ r. has same_pair r ps ≡ true → same_pair (pair s t) r ≡ false → f r ≡ g r) s q
    (λ other h d. sym (entry-other_slot ps s t q.slot q.to other h))
    (λ x same h d. let place = chain_place ps s x h in sym (entry-unmoved ps s t 0 place.0 x at place.1 (λ e. not_same ps s t x 0 place.0 at place.1 d e) (λ e. omega arith)))
    there_q differ in
    ap (set (entries_in limit ps ps) (index_in ps (pair s t))) (sym (entry-front ps s t at))
    ∙ set_entry f g (first_entry ps) ps (blank limit ps) (pair s t) there agree
    ∙ sym (same_entries limit ps s t there)

-- further back: the entry before it, and its own
pub entries-back : (limit : ℕ) (ps : List Pair) (s t i b : ℕ) → slice_get (chain_in ps s) (suc i) ≡ Some t → slice_get (chain_in ps s) i ≡ Some b → has same_pair (pair s t) ps ≡ true → has same_pair (pair s b) ps ≡ true
    → set (set (entries_in limit ps ps) (index_in ps (pair s b)) (record (entry_in ps (pair s b)) { link = (entry_in ps (pair s t)).link })) (index_in ps (pair s t)) (tos t (count_of ps s t + 1) (front_in ps s)) ≡ entries_in limit (pushed ps s t) (pushed ps s t)
entries-back limit ps s t i b at before there there_b =
    let f = entry_in ps in
    let g = entry_in (pushed ps s t) in
    let h : Pair → Tos = λ q. cond (same_pair (pair s b) q) (g q) (f q) in
    let first : (q : Pair) → has same_pair q ps ≡ true → same_pair (pair s b) q ≡ false → f q ≡ h q = λ q there_q differ. sym (ap (λ (c : Bool). cond c (g q) (f q)) differ) in
    let at_b : h (pair s b) ≡ record (entry_in ps (pair s b)) { link = (entry_in ps (pair s t)).link } =
    ap (λ (c : Bool). cond c (g (pair s b)) (f (pair s b))) (pair-same.self (pair s b)) ∙ entry-before ps s t i b at before in
    let rest : (q : Pair) → has same_pair q ps ≡ true → same_pair (pair s t) q ≡ false → same_pair (pair s b) q ≡ false → f q ≡ g q = λ q there_q differ apart.
    by_slot (λ r. has same_pair r ps ≡ true → same_pair (pair s t) r ≡ false → same_pair (pair s b) r ≡ false → f r ≡ g r) s q
    (λ other k d e. sym (entry-other_slot ps s t q.slot q.to other k))
    (λ x same k d e. let place = chain_place ps s x k in sym (entry-unmoved ps s t (suc i) place.0 x at place.1 (λ y. not_same ps s t x (suc i) place.0 at place.1 d y) (λ y. not_same ps s b x i place.0 before place.1 e (omega arith))))
    there_q differ apart in
    let second : (q : Pair) → has same_pair q ps ≡ true → same_pair (pair s t) q ≡ false → h q ≡ g q = λ q there_q differ.
    elim (cases_Bool (same_pair (pair s b) q)) [
      | inl e ↦ ap (λ (c : Bool). cond c (g q) (f q)) e
      | inr e ↦ ap (λ (c : Bool). cond c (g q) (f q)) e ∙ rest q there_q differ e
    ] in
    let ds = distinct same_pair ps in
    ap (λ (e : Tos). set (set (entries_in limit ps ps) (index_in ps (pair s b)) e) (index_in ps (pair s t)) (tos t (count_of ps s t + 1) (front_in ps s))) (sym at_b)
    ∙ ap (λ (es : List Tos). set es (index_in ps (pair s t)) (tos t (count_of ps s t + 1) (front_in ps s))) (set_entry f h (first_entry ps) ps (blank limit ps) (pair s b) there_b first)
    ∙ ap (set (first_entry ps ∷ map h ds ++ blank limit ps) (index_in ps (pair s t))) (sym (entry-found ps s t i at))
    ∙ set_entry h g (first_entry ps) ps (blank limit ps) (pair s t) there second
    ∙ sym (same_entries limit ps s t there)

pub fronts-front : (slots : ℕ) (ps : List Pair) (s t : ℕ) → slice_get (chain_in ps s) 0 ≡ Some t → has same_pair (pair s t) ps ≡ true → fronts_in slots ps ≡ fronts_in slots (pushed ps s t)
fronts-front slots ps s t at there =
    fill_by_all (front_in (pushed ps s t)) (fronts_in slots ps) slots 0 (length-map-range_with_len (front_in ps) 0 slots) (λ k lt.
    get_or-map-range_with_len (front_in ps) 0 slots k k 0 lt (omega arith)
    ∙ elim (cases_Bool (eqb s k)) [
      | inl e ↦
          let same : front_in ps s ≡ front_in (pushed ps s t) s = ap (index_at ps s) (first_at_zero (chain_in ps s) ∙ at) ∙ sym (index-old ps s t (pair s t) there) ∙ sym (front-own ps s t) in
          let P : ℕ → Type 0 = λ n. front_in ps n ≡ front_in (pushed ps s t) n in
          subst P (eqb-true s k e) same
      | inr e ↦ sym (front-other ps s t k e)
    ])

-- the table is full: only the number of different pairs changes
pub entries-over : (limit : ℕ) (ps : List Pair) (s t : ℕ) → has same_pair (pair s t) ps ≡ false
    → set (entries_in limit ps ps) 0 (record { selfpc = 0; count = 0; link = suc (distinct_count ps) }) ≡ entries_in limit (pushed ps s t) ps
entries-over limit ps s t absent = search count-new

-- the next entry is its own
pub entries-new : (limit : ℕ) (ps : List Pair) (s t : ℕ) → has same_pair (pair s t) ps ≡ false → suc (distinct_count ps) < limit
    → set (set (entries_in limit ps ps) 0 (record { selfpc = 0; count = 0; link = suc (distinct_count ps) })) (suc (distinct_count ps)) (tos t 1 (front_in ps s)) ≡ entries_in limit (pushed ps s t) (pushed ps s t)
entries-new limit ps s t absent room =
    let ds = distinct same_pair ps in
    let n = distinct_count ps in
    let f = entry_in ps in
    let g = entry_in (pushed ps s t) in
    let e = tos t 1 (front_in ps s) in
    let m : ℕ = limit - 1 - suc n in
    let more : limit - 1 - n ≡ suc m = omega arith in
    let head : Tos = record { selfpc = 0; count = 0; link = suc n } in
    let long : length (ds ++ pair s t ∷ []) ≡ suc n = omega (arith, length-append ds (pair s t ∷ [])) in
    ap (λ (k : ℕ). head ∷ set (map f ds ++ replicate k no_entry) n e) more
    ∙ ap (λ (es : List Tos). head ∷ es) (
    set_at (map f ds) no_entry (replicate m no_entry) e n (length-map ds f)
    ∙ ap (λ (es : List Tos). es ++ e ∷ replicate m no_entry) (map_agree same_pair pair-same f g ds (λ q there. agree-new ps s t absent q (sym (has-distinct same_pair pair-same q ps) ∙ there)))
    ∙ ap (λ (x : Tos). map g ds ++ x ∷ replicate m no_entry) (sym (entry-new ps s t absent))
    ∙ sym (append_assoc (map g ds) (g (pair s t) ∷ []) (replicate m no_entry))
    ∙ ap (λ (es : List Tos). es ++ replicate m no_entry) (sym (map_push g ds (pair s t))))
    ∙ sym (ap (λ (xs : List Pair). record { selfpc = 0; count = 0; link = length xs } ∷ map g xs ++ replicate (limit - 1 - length xs) no_entry) (distinct-new ps s t absent)
    ∙ ap (λ (k : ℕ). record { selfpc = 0; count = 0; link = k } ∷ map g (ds ++ pair s t ∷ []) ++ replicate (limit - 1 - k) no_entry) long)

-- the slot of the call has its entry at the front
pub fronts-own : (slots : ℕ) (ps : List Pair) (s t : ℕ) → s < slots → set (fronts_in slots ps) s (index_in (pushed ps s t) (pair s t)) ≡ fronts_in slots (pushed ps s t)
fronts-own slots ps s t within =
    let was = fronts_in slots ps in
    let long : length was ≡ slots = length-map-range_with_len (front_in ps) 0 slots in
    let own = index_in (pushed ps s t) (pair s t) in
    fill_by_all (front_in (pushed ps s t)) (set was s own) slots 0 (length-set was s own ∙ long) (λ k lt.
    elim (cases_Bool (eqb s k)) [
      | inl e ↦
          let same : get_or (set was s own) s 0 ≡ front_in (pushed ps s t) s = get_or-set_same was s own 0 (omega arith) ∙ sym (front-own ps s t) in
          let P : ℕ → Type 0 = λ n. get_or (set was s own) n 0 ≡ front_in (pushed ps s t) n in
          subst P (eqb-true s k e) same
      | inr e ↦
          get_or-set_other was s k own 0 (λ y. eqb-false s k e (sym y))
          ∙ get_or-map-range_with_len (front_in ps) 0 slots k k 0 lt (omega arith)
          ∙ sym (front-other ps s t k e)
    ])

pub read-entry : (limit : ℕ) (all ps : List Pair) (p : Pair) → has same_pair p ps ≡ true → slice_get (entries_in limit all ps) (index_in ps p) ≡ Some (entry_in ps p)
read-entry limit all ps p there =
    let place = place_of ps p there in
    let ds = distinct same_pair ps in
    ap (slice_get (entries_in limit all ps)) (index-at ps place.0 p place.1)
    ∙ slice_get-append (map (entry_in ps) ds) (blank limit ps) place.0 (entry_in ps p) (slice_get-map (entry_in ps) ds place.0 ∙ ap (option_map (entry_in ps)) place.1)

pub read-front : (slots : ℕ) (ps : List Pair) (s : ℕ) → s < slots → get_or (fronts_in slots ps) s 0 ≡ front_in ps s
read-front slots ps s lt = get_or-map-range_with_len (front_in ps) 0 slots s s 0 lt (omega arith)

pub length-entries_in : (limit : ℕ) (all ps : List Pair) → distinct_count ps < limit → length (entries_in limit all ps) ≡ limit
length-entries_in limit all ps places = grind (arith, length-append, length-map, length-replicate)

pub length-fronts : (slots : ℕ) (ps : List Pair) → length (fronts_in slots ps) ≡ slots
length-fronts slots ps = length-map-range_with_len (front_in ps) 0 slots
