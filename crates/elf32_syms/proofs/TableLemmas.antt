-- Loops over the entries of a table, by their numbers from 0 on.
use Rattle.std.proofs.Common.{◌≡◌, ℕ, zero, suc, ◌+◌, [], ◌∷◌, ◌++◌, Option, ap, ◌∙◌, add-one, arith}
use Rattle.std.specs.List.{range_with_len, filter_map, cons_option}
use Rattle.std.proofs.lemmas.List.Elements.{filter_map-append}

range_push : (a n : ℕ) → range_with_len a (suc n) ≡ range_with_len a n ++ (a + n) ∷ []
range_push a zero = let e : a ≡ a + 0 = omega arith in ap (λ (x : ℕ). x ∷ []) e
range_push a (suc n) = grind (arith, range_push (a + 1) n)

-- one entry more
pub filter_map_more : {X : Type 0} (h : ℕ → Option X) (i : ℕ) → filter_map h (range_with_len 0 (i + 1)) ≡ filter_map h (range_with_len 0 i) ++ cons_option (h i) []
filter_map_more {X} h i =
    let e : 0 + i ≡ i = omega arith in
    let more : range_with_len 0 (i + 1) ≡ range_with_len 0 i ++ i ∷ [] = rw add-one (range_push 0 i ∙ ap (λ (x : ℕ). range_with_len 0 i ++ x ∷ []) e) in
    ap (filter_map h) more ∙ filter_map-append h (range_with_len 0 i) (i ∷ [])
