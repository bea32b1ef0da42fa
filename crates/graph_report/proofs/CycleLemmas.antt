-- The numbers of cycles, in the order of their heads.
use Rattle.std.proofs.Common.{◌≡◌, ◌≢◌, ◌<◌, ◌≤◌, ℕ, zero, suc, ◌+◌, Bool, true, false, ◌&&◌, cond, List, [], ◌∷◌, ◌++◌, length, refl, ap, sym, ◌∙◌, ⊎_elim, ◌⊎◌, arith, add-one, get_or-set_same, get_or-set_other, length-set, length-append}
use Rattle.std.specs.Prelude.{◌==◌, nat_lt, codes, decimal, filter, slice_index, slice_index_or, slice_set}
use Rattle.std.specs.Global.{Vec}
use Rattle.std.specs.List.{count_by}
use Rattle.std.proofs.lemmas.List.{length_push, get_or_push, get_or_append_left}
use Rattle.std.proofs.lemmas.Bool.{cases_lt, cases_eq, eq-eqb, eqb-true, and_parts, false≢true}
use Rattle.std.proofs.lemmas.List.Sums.{length-filter}
use Rattle.call_cycles.specs.Graph.{GraphValue, IsGraph, component_count, component_of, head_of, is_cycle}
use Rattle.call_cycles.specs.Sums.{sum_below, when, numbers_below}
use Rattle.call_cycles.proofs.SumLemmas.{sum_ext, sum_add, sum_at, sum_none}
use Rattle.graph_report.specs.Cycles.{cycle_name, cycle_number, is_cycle_before}
use Rattle.graph_report.proofs.GroupLemmas.{filter_next}

one_or_none : (b : Bool) (n : ℕ) → length (cond b (n ∷ []) []) ≡ when b 1
one_or_none b n = grind arith

count_is_sum : (p : ℕ → Bool) (n : ℕ) → count_by p (numbers_below n) ≡ sum_below n (λ c. when (p c) 1)
count_is_sum p zero = refl
count_is_sum p (suc n) =
    let before = count_is_sum p n in
    let so_far = length-filter p (numbers_below n) in
    let next : length (filter p (numbers_below (suc n))) ≡ length (filter p (numbers_below n)) + length (cond (p n) (n ∷ []) []) =
    ap (λ (m : ℕ). length (filter p (numbers_below m))) (sym (add-one n)) ∙ ap length (filter_next p n) ∙ length-append (filter p (numbers_below n)) (cond (p n) (n ∷ []) []) in
    let here = one_or_none (p n) n in
    let all = length-filter p (numbers_below (suc n)) in
    omega arith

-- the cycles whose heads stand before function h
abbrev pub cycles_before : GraphValue → ℕ → ℕ
cycles_before g h = count_by (is_cycle_before g h) (numbers_below (component_count g))

-- whether a head stands before f + 1: before f, or it is f, and then that of component k
one_more_when : (b o : Bool) (h f k c : ℕ) → (k ≡ c → o ≡ (h == f)) → (k ≡ c → h ≤ f) → (k ≢ c → h ≢ f) → when (b && nat_lt h (f + 1)) 1 ≡ when (b && nat_lt h f) 1 + when b (when (o && (k == c)) 1)
one_more_when b o h f k c is same apart = grind arith

when_swap : (a b : Bool) → when (a && b) 1 ≡ when (b && a) 1
when_swap a b = grind arith

-- component c is a cycle with head f
abbrev pub is_led_by : GraphValue → ℕ → ℕ → Bool
is_led_by g f c = is_cycle g c && (head_of g c == f)

module _ (g : GraphValue) (is : IsGraph g) (f : ℕ) (below : f < g.functions) where
  abbrev k : ℕ
  k = component_of g f

  -- the head of a component is in it
  head_is : (c : ℕ) → c < component_count g → head_of g c ≡ f → k ≡ c
  head_is c low at = ap (component_of g) (sym at) ∙ is.components.heads_in c low

  cycles_next : cycles_before g (f + 1) ≡ cycles_before g f + when (is_led_by g f k) 1
  cycles_next =
      let n = component_count g in
      let o = head_of g k == f in
      let after = count_is_sum (is_cycle_before g (f + 1)) n in
      let before = count_is_sum (is_cycle_before g f) n in
      let each : sum_below n (λ c. when (is_cycle_before g (f + 1) c) 1) ≡ sum_below n (λ c. when (is_cycle_before g f c) 1 + when (is_cycle g c) (when (o && k == c) 1)) =
      sum_ext n _ _ (λ c low. one_more_when (is_cycle g c) o (head_of g c) f k c (λ at. ap (λ (d : ℕ). head_of g d == f) at) (λ at. let least = is.components.heads_least f below in let same : head_of g c ≡ head_of g k = ap (head_of g) (sym at) in omega arith) (λ apart at. apart (head_is c low at))) in
      let both = sum_add n (λ c. when (is_cycle_before g f c) 1) (λ c. when (is_cycle g c) (when (o && k == c) 1)) in
      let one = sum_at n (is_cycle g) o k 1 (is.components.within f below) in
      let swapped = when_swap o (is_cycle g k) in
      omega arith

-- the numbers of the cycles whose heads stand before function f
pub record AreNumbersBelow (g : GraphValue) (f count : ℕ) (numbers : List ℕ) : Type 0 where
  pub so_far : count ≡ cycles_before g f
  pub few : count ≤ f
  pub len : length numbers ≡ component_count g
  pub each : (c : ℕ) → c < component_count g → is_cycle g c ≡ true → head_of g c < f → slice_index numbers c ≡ cycle_number g c

-- before the first function
pub no_numbers : (g : GraphValue) (numbers : List ℕ) → length numbers ≡ component_count g → AreNumbersBelow g 0 0 numbers
no_numbers g numbers len = record {
  so_far = sym (count_is_sum (is_cycle_before g 0) (component_count g) ∙ sum_none (component_count g) _ (λ c low. none (is_cycle g c) (head_of g c)));
  few = omega arith;
  len = len;
  each = λ c low cycle before. absurd (omega arith);
}
  where
    none : (b : Bool) (h : ℕ) → when (b && nat_lt h 0) 1 ≡ 0
    none b h = grind arith

module _ (g : GraphValue) (is : IsGraph g) (f : ℕ) (below : f < g.functions) (count : ℕ) (numbers : List ℕ) (are : AreNumbersBelow g f count numbers) where
  -- one that isn't yet numbered has head f
  last_head : (c : ℕ) → c < component_count g → head_of g c < f + 1 → (head_of g c < f) ⊎ (component_of g f ≡ c)
  last_head c low less = grind arith

  pub number_added : (c x : ℕ) → c ≡ component_of g f → is_led_by g f c ≡ true → x ≡ count + 1 → AreNumbersBelow g (f + 1) x (slice_set numbers c x)
  unfolding cycle_number
  number_added c x this leads next = record {
    so_far =
        let all = cycles_next g is f below in
        let one : when (is_led_by g f (component_of g f)) 1 ≡ 1 = ap (λ (b : Bool). when b 1) (ap (is_led_by g f) (sym this) ∙ leads) in
        let before = are.so_far in
        omega arith;
    few = let few = are.few in omega arith;
    len = length-set numbers c x ∙ are.len;
    each = λ d low cycle less. ⊎_elim
        (λ (earlier : head_of g d < f).
        let head : head_of g c ≡ f = eqb-true _ _ (and_parts (is_cycle g c) (head_of g c == f) leads).1 in
        get_or-set_other numbers c d x 0 (λ q. let same : head_of g d ≡ head_of g c = ap (head_of g) q in omega arith) ∙ are.each d low cycle earlier)
        (λ (at : component_of g f ≡ d).
        let head : head_of g c ≡ f = eqb-true _ _ (and_parts (is_cycle g c) (head_of g c == f) leads).1 in
        let same : c ≡ d = this ∙ at in
        let len = are.len in
        let within : c < length numbers = omega arith in
        let here : slice_index (slice_set numbers c x) d ≡ x = ap (slice_index (slice_set numbers c x)) (sym same) ∙ get_or-set_same numbers c x 0 within in
        let before = are.so_far in
        let head_d : head_of g d ≡ f = ap (head_of g) (sym same) ∙ head in
        let number : cycle_number g d ≡ cycles_before g f + 1 = ap (λ (h : ℕ). cycles_before g h + 1) head_d in
        omega arith)
        (last_head d low less);
  }

  pub no_number : (c : ℕ) → c ≡ component_of g f → is_led_by g f c ≡ false → AreNumbersBelow g (f + 1) count numbers
  no_number c this leads = record {
    so_far =
        let all = cycles_next g is f below in
        let none : when (is_led_by g f (component_of g f)) 1 ≡ 0 = ap (λ (b : Bool). when b 1) (ap (is_led_by g f) (sym this) ∙ leads) in
        let before = are.so_far in
        omega arith;
    few = let few = are.few in omega arith;
    len = are.len;
    each = λ d low cycle less. ⊎_elim
        (λ (earlier : head_of g d < f). are.each d low cycle earlier)
        (λ (at : component_of g f ≡ d).
        ⊎_elim
        (λ (earlier : head_of g d < f). are.each d low cycle earlier)
        (λ (other : f ≤ head_of g d).
        let head : head_of g d ≡ f = omega arith in
        let led : is_led_by g f d ≡ true = rw (cycle, eq-eqb (head_of g d) f head) refl in
        absurd (false≢true (sym leads ∙ ap (is_led_by g f) (this ∙ at) ∙ led)))
        (cases_lt (head_of g d) f))
        (last_head d low less);
  }

-- ---- names

-- the names of the components below n that are cycles
pub record AreNamesBelow (g : GraphValue) (n : ℕ) (names : List (Vec ℕ)) : Type 0 where
  pub len : length names ≡ n
  pub each : (c : ℕ) (d : Vec ℕ) → c < n → is_cycle g c ≡ true → (slice_index_or names c d).items ≡ cycle_name g c

pub name_added : (g : GraphValue) (n : ℕ) (names : List (Vec ℕ)) (name : Vec ℕ) → AreNamesBelow g n names → (is_cycle g n ≡ true → name.items ≡ cycle_name g n) → AreNamesBelow g (n + 1) (names ++ name ∷ [])
name_added g n names name are is = record {
  len = length_push names name ∙ ap (λ (m : ℕ). m + 1) are.len;
  each = λ c d low cycle. ⊎_elim
      (λ (at : c ≡ n).
      ap (λ (v : Vec ℕ). v.items) (get_or_push names name d c (are.len ∙ sym at)) ∙ is (ap (is_cycle g) (sym at) ∙ cycle) ∙ ap (cycle_name g) (sym at))
      (λ (apart : c ≢ n).
      let len = are.len in
      ap (λ (v : Vec ℕ). v.items) (get_or_append_left names (name ∷ []) d c (omega arith)) ∙ are.each c d (omega arith) cycle)
      (cases_eq c n);
}

-- a name that is made from a number
pub name_is : (g : GraphValue) (c number : ℕ) (name : List ℕ) → number ≡ cycle_number g c → name ≡ codes "<cycle " ++ decimal number ++ codes " as a whole>" → name ≡ cycle_name g c
unfolding cycle_name
name_is g c number name is made = made ∙ ap (λ (n : ℕ). codes "<cycle " ++ decimal n ++ codes " as a whole>") is
