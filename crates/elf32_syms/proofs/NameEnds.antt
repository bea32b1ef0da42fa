-- Where names end.
use Rattle.std.proofs.Common.{◌≡◌, ◌<◌, ◌≤◌, ℕ, zero, suc, ◌+◌, ◌-◌, Bool, true, false, not, cond, nat_lt, List, [], ◌∷◌, length, take, drop, get_or, refl, ap, sym, ◌∙◌, arith, ⊎_elim, lit<}
use Rattle.std.specs.List.{before_first, position_or_len}
use Rattle.std.specs.declared.cmp.Ordering.{Ordering}
use Rattle.std.specs.declared.cmp.Ordering.TheVariants.{Less, Equal, Greater}
use Rattle.std.specs.Ordering.{nat_cmp, ordering_reverse}
use Rattle.std.proofs.lemmas.Cmp.{nat_list_cmp_total}
use Rattle.std.specs.Cmp.Lexicographic.{slice_cmp}
use Rattle.std.proofs.lemmas.Bool.Decides.{nat_tests}
use Rattle.std.proofs.lemmas.Bool.{cases_lt}
use Rattle.std.proofs.lemmas.List.{length-drop, get_or-drop, take-take, drop_all, drop_more, get_or_default}
use Rattle.std.proofs.lemmas.List.Folds.{list_any_at, list_any_none}
use Rattle.std.proofs.lemmas.List.Sums.{take_while-cons, position_or_len_is}
use Rattle.elf32_syms.specs.Names.{is_zero, name_ends, name_at}

pub is_zero_not : (b : ℕ) → (b ≡ 0 → ⊥) → is_zero b ≡ false
is_zero_not b h = grind (arith, nat_tests)

-- a loop that has passed no zero byte stops at one, or at the end
pub first_zero : (bs : List ℕ) (i : ℕ) → i ≤ length bs → ((k : ℕ) → k < i → get_or bs k 0 ≡ 0 → ⊥) → (i < length bs → get_or bs i 0 ≡ 0)
    → i ≡ position_or_len is_zero bs
first_zero bs i inside before here =
    sym (position_or_len_is is_zero bs i 0 inside (λ k below. is_zero_not (get_or bs k 0) (before k below)) (λ below. let e = here below in rw e refl))

-- end is one more than the place of the last zero byte, or 0
pub name_ends_below : (strings : List ℕ) (end : ℕ) → end ≤ length strings
    → (0 < end → get_or strings (end - 1) 0 ≡ 0)
    → ((k : ℕ) → end ≤ k → k < length strings → get_or strings k 0 ≡ 0 → ⊥)
    → (at : ℕ) → name_ends strings at ≡ nat_lt at end
unfolding name_ends
name_ends_below strings end inside zero_there none_after at =
    ⊎_elim
    (λ (below : at < end).
    let place : at + (end - 1 - at) ≡ end - 1 = omega arith in
    let zero_here : get_or (drop at strings) (end - 1 - at) 0 ≡ 0 = get_or-drop at strings (end - 1 - at) 0 ∙ ap (λ (k : ℕ). get_or strings k 0) place ∙ zero_there (omega arith) in
    let short : end - 1 - at < length (drop at strings) = rw (length-drop at strings) (omega arith) in
    let there : is_zero (get_or (drop at strings) (end - 1 - at) 0) ≡ true = rw zero_here refl in
    let less : nat_lt at end ≡ true = grind (arith, nat_tests) in
    rw less (list_any_at is_zero (drop at strings) (end - 1 - at) 0 short there))
    (λ (above : end ≤ at).
    let more : nat_lt at end ≡ false = grind (arith, nat_tests) in
    rw more (list_any_none is_zero (drop at strings) (not_zero above)))
    (cases_lt at end)
  where
    not_zero : end ≤ at → (k d : ℕ) → k < length (drop at strings) → is_zero (get_or (drop at strings) k d) ≡ false
    not_zero above k d short = grind (arith, get_or_default, get_or-drop, length-drop)

-- a prefix of what stands before the first that passes, looked for in that front alone
before_first_front : (p : ℕ → Bool) (limit : ℕ) (xs : List ℕ) → take limit (before_first p xs) ≡ before_first p (take limit xs)
before_first_front p zero xs = refl
before_first_front p (suc n) [] = refl
before_first_front p (suc n) (x ∷ xs) =
    rw (take_while-cons (λ (y : ℕ). not (p y)) x xs, take_while-cons (λ (y : ℕ). not (p y)) x (take n xs))
    (elim (p x) as (λ b. take (suc n) (cond (not b) (x ∷ before_first p xs) []) ≡ cond (not b) (x ∷ before_first p (take n xs)) []) [
      | true ↦ refl
      | false ↦ ap (λ (ys : List ℕ). x ∷ ys) (before_first_front p n xs)
    ])

pub front_is : (strings : List ℕ) (at limit : ℕ) → limit ≤ 4095
    → take limit (name_at strings at) ≡ before_first is_zero (take limit (drop at strings))
unfolding name_at
front_is strings at limit h = search (take-take, before_first_front)

-- the same bytes are the same name
pub same_cut : (strings : List ℕ) (one other : ℕ) → take 4095 (drop one strings) ≡ take 4095 (drop other strings) → name_at strings one ≡ name_at strings other
unfolding name_at
same_cut strings one other same =
    before_first_front is_zero 4095 (drop one strings) ∙ ap (before_first is_zero) same ∙ sym (before_first_front is_zero 4095 (drop other strings))

-- there is nothing past the end
pub cut_past : (strings : List ℕ) (at limit : ℕ) → length strings ≤ at → [] ≡ take limit (drop at strings)
cut_past strings at limit h = short limit (drop at strings) (drop_all at strings h)
  where
    short : (n : ℕ) (xs : List ℕ) → xs ≡ [] → [] ≡ take n xs
    short zero xs none = refl
    short (suc n) xs none = rw none refl

pub whole_name : (strings : List ℕ) (at : ℕ) → take 4095 (name_at strings at) ≡ name_at strings at
unfolding name_at
whole_name strings at = take-take 4095 4095 (before_first is_zero (drop at strings)) (omega arith)

-- a name has the order of itself
pub same_name : (xs ys : List ℕ) → xs ≡ ys → Equal ≡ slice_cmp nat_cmp xs ys
same_name xs ys e = self_reversed (slice_cmp nat_cmp xs xs) (nat_list_cmp_total.antisymm xs xs) ∙ ap (slice_cmp nat_cmp xs) e
  where
    self_reversed : (a : Ordering) → a ≡ ordering_reverse a → Equal ≡ a
    self_reversed Less h = cc
    self_reversed Equal h = refl
    self_reversed Greater h = cc

-- the name at an offset is empty exactly where a zero byte stands there
name_from : (strings : List ℕ) (at : ℕ) → at < length strings → name_at strings at ≡ take 4095 (cond (not (is_zero (get_or strings at 0))) (get_or strings at 0 ∷ before_first is_zero (drop (at + 1) strings)) [])
unfolding name_at
name_from strings at h =
    rw (drop_more strings at 0 h) (ap (take 4095) (take_while-cons (λ (b : ℕ). not (is_zero b)) (get_or strings at 0) (drop (at + 1) strings)))

length_some : (k x : ℕ) (xs : List ℕ) → 0 < k → true ≡ nat_lt 0 (length (take k (x ∷ xs)))
length_some zero x xs h = absurd (omega arith)
length_some (suc k) x xs h = above (length (take k xs))
  where
    above : (n : ℕ) → true ≡ nat_lt 0 (suc n)
    above n = grind (arith, nat_tests)

pub name_starts : (strings : List ℕ) (at : ℕ) → at < length strings → not (is_zero (get_or strings at 0)) ≡ nat_lt 0 (length (name_at strings at))
name_starts strings at h = by (is_zero (get_or strings at 0)) ∙ sym (ap (λ (xs : List ℕ). nat_lt 0 (length xs)) (name_from strings at h))
  where
    by : (b : Bool) → not b ≡ nat_lt 0 (length (take 4095 (cond (not b) (get_or strings at 0 ∷ before_first is_zero (drop (at + 1) strings)) [])))
    by true = refl
    by false = length_some 4095 (get_or strings at 0) (before_first is_zero (drop (at + 1) strings)) (lit< tt)

pub name_past : (strings : List ℕ) (at : ℕ) → length strings ≤ at → false ≡ nat_lt 0 (length (name_at strings at))
unfolding name_at
name_past strings at h = rw (drop_all at strings h) refl
