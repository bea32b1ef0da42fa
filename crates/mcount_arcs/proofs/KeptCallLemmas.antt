-- The calls that are kept: the longest front that has places.
use Rattle.std.proofs.Common.{◌≡◌, ℕ, zero, suc, ◌<◌, ◌≤◌, Bool, true, List, [], ◌∷◌, ◌++◌, length, inl, inr, refl, sym, ap, ◌∙◌, arith, ◌+◌, subst, ◌-◌, get_or, leb, if◌then◌else◌, take, length-take}
use Rattle.std.proofs.lemmas.Bool.{cases_Bool, false≢true, cases_lt, cases_eq}
use Rattle.mcount_arcs.specs.Log.{Pair, distinct_count, LogEntry, entered_calls, kept_calls}
use Rattle.mcount_arcs.specs.declared.sizes.Sizes.{Sizes}
use Rattle.std.proofs.lemmas.List.{take_all, take_more}
use Rattle.mcount_arcs.specs.Lists.{longest_front_within}
use Rattle.mcount_arcs.proofs.IndexLemmas.{distinct_count-push}

is_front : {X : Type 0} (n : ℕ) (test : List X → Bool) (xs : List X) → n ≤ length xs → longest_front_within n test xs ≡ take (length (longest_front_within n test xs)) xs
is_front zero test xs within = refl
is_front {X} (suc n) test xs within = grind (arith, length-take, is_front n test xs (omega arith))

passes : {X : Type 0} (n : ℕ) (test : List X → Bool) (xs : List X) → test [] ≡ true → test (longest_front_within n test xs) ≡ true
passes zero test xs empty = empty
passes {X} (suc n) test xs empty = grind (arith, passes n test xs empty)

is_longest : {X : Type 0} (n : ℕ) (test : List X → Bool) (xs : List X) (k : ℕ) → k ≤ n → n ≤ length xs → test (take k xs) ≡ true → k ≤ length (longest_front_within n test xs)
is_longest zero test xs k le within ok = omega arith
is_longest {X} (suc n) test xs k le within ok =
    let front = take (suc n) xs in
    let P : List X → Type 0 = λ ys. k ≤ length ys in
    elim (cases_Bool (test front)) [
      | inl yes_it ↦ subst P (sym (ap (λ (b : Bool). if b then front else longest_front_within n test xs) yes_it)) (omega (arith, length-take (suc n) xs))
      | inr not_it ↦ subst P (sym (ap (λ (b : Bool). if b then front else longest_front_within n test xs) not_it)) (elim (cases_eq k (suc n)) [
        | inl e ↦ absurd (false≢true (sym not_it ∙ ap (λ (m : ℕ). test (take m xs)) (sym e) ∙ ok))
        | inr ne ↦ is_longest n test xs k (omega arith) (omega arith) ok
      ])
    ]

abbrev has_places : Sizes → List Pair → Bool
has_places z pairs = leb (distinct_count pairs) (z.tolimit - 1)

pub kept_calls-front : (z : Sizes) (log : List LogEntry) → kept_calls z log ≡ take (length (kept_calls z log)) (entered_calls z log)
unfolding kept_calls
kept_calls-front z log = is_front (length (entered_calls z log)) (has_places z) (entered_calls z log) (omega arith)

pub kept_calls-places : (z : Sizes) (log : List LogEntry) → distinct_count (kept_calls z log) ≤ z.tolimit - 1
unfolding kept_calls
kept_calls-places z log = grind (arith, passes)

pub kept_calls-longest : (z : Sizes) (log : List LogEntry) (n : ℕ) → n ≤ length (entered_calls z log) → distinct_count (take n (entered_calls z log)) ≤ z.tolimit - 1 → n ≤ length (kept_calls z log)
unfolding kept_calls
kept_calls-longest z log n within places = grind (arith, is_longest)

pub kept_calls-all : (z : Sizes) (log : List LogEntry) → distinct_count (entered_calls z log) < z.tolimit → kept_calls z log ≡ entered_calls z log
kept_calls-all z log places =
    let ps = entered_calls z log in
    let whole : take (length ps) ps ≡ ps = take_all (length ps) ps (omega arith) in
    grind (arith, kept_calls-longest, kept_calls-front, length-take)

pub kept_calls-full_places : (z : Sizes) (log : List LogEntry) → 0 < z.tolimit → z.tolimit ≤ distinct_count (entered_calls z log) → distinct_count (kept_calls z log) ≡ z.tolimit - 1
kept_calls-full_places z log some full =
    let e = entered_calls z log in
    let k = length (kept_calls z log) in
    let front = kept_calls-front z log in
    let places = kept_calls-places z log in
    let short : k < length e = elim (cases_lt k (length e)) [
      | inl lt ↦ lt
      | inr ge ↦
          let whole : kept_calls z log ≡ e = front ∙ take_all k e ge in
          absurd (omega (arith, ap distinct_count whole))
    ] in
    let none : Pair = record { slot = 0; to = 0 } in
    let next : take (k + 1) e ≡ kept_calls z log ++ get_or e k none ∷ [] = take_more e k none short ∙ ap (λ (ps : List Pair). ps ++ get_or e k none ∷ []) (sym front) in
    elim (cases_lt (distinct_count (kept_calls z log)) (z.tolimit - 1)) [
      | inl lt ↦
          let fits : distinct_count (take (k + 1) e) ≤ z.tolimit - 1 = omega (arith, ap distinct_count next, distinct_count-push (kept_calls z log) (get_or e k none)) in
          let long : k + 1 ≤ k = kept_calls-longest z log (k + 1) (omega arith) fits in
          absurd (omega arith)
      | inr ge ↦ omega arith
    ]
