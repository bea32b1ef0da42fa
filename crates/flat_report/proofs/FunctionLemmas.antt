-- The functions that have a line: what they have together, and that their numbers are small.
use Rattle.std.proofs.Common.{◌≡◌, ℕ, zero, suc, ◌+◌, ◌^◌, ◌<◌, ◌≤◌, Bool, true, false, cond, List, [], ◌∷◌, ◌++◌, length, map, refl, sym, ap, ◌∙◌, arith}
use Rattle.std.specs.Prelude.{◌||◌, nat_lt}
use Rattle.std.specs.List.{All, sum_by, filter, range_with_len}
use Rattle.std.proofs.lemmas.Bool.{true≢false}
use Rattle.std.proofs.lemmas.List.{map-id}
use Rattle.std.proofs.lemmas.List.Elements.{All-filter, All-weaker, All-map}
use Rattle.std.proofs.lemmas.List.FromFn.{length-range_with_len, get_or-range_with_len, sum_by-map-range_with_len_more, filter_of_map_range_with_len_more}
use Rattle.std.proofs.lemmas.List.Sorted.{All-permutation}
use Rattle.std.proofs.lemmas.List.Sums.{sum_by-cons}
use Rattle.call_cycles.specs.Graph.{GraphValue, IsGraph, all_calls, arc_at, arc_count, component_of}
use Rattle.call_cycles.specs.Sums.{sum_below, numbers_below}
use Rattle.call_cycles.proofs.SumLemmas.{sum_add}
use Rattle.symbol_shares.specs.Shares.{attributed_of}
use Rattle.propagate.proofs.SumLemmas.{sum_by_key, term_le_sum, sum_of_places}
use Rattle.propagate.proofs.BoundLemmas.{within_all, function_within}
use Rattle.flat_report.specs.Sources.{AreOfOne, Sources, inclusive_total, calls_by_others, calls_by_itself, calls_in_all}
use Rattle.flat_report.specs.Entries.{FlatEntry, entry_of, has_line, listed_functions, flat_comes_before, flat_order, flat_entries}
use Rattle.flat_report.specs.Rows.{FitsIn}
use Rattle.flat_report.proofs.OrderLemmas.{moved_in_order, sum_in_order}

-- ---- sums over functions

sum_numbers : (weight : ℕ → ℕ) (n : ℕ) → sum_by weight (numbers_below n) ≡ sum_below n weight
sum_numbers weight zero = refl
sum_numbers weight (suc n) =
    let here = ap (sum_by weight) (map-id (range_with_len 0 (n + 1))) in
    let before = ap (sum_by weight) (map-id (range_with_len 0 n)) in
    let rest = sum_numbers weight n in
    let one : n + 1 ≡ suc n = omega arith in
    let all = ap (λ (k : ℕ). sum_by weight (range_with_len 0 k)) one in
    omega (arith, sum_by-map-range_with_len_more weight (λ k. k) 0 n n (omega arith))

-- those that don't pass have none
sum_filtered : (weight : ℕ → ℕ) (test : ℕ → Bool) → ((f : ℕ) → test f ≡ false → weight f ≡ 0) → (fs : List ℕ) → sum_by weight (filter test fs) ≡ sum_by weight fs
sum_filtered weight test none [] = refl
sum_filtered weight test none (f ∷ fs) = by (sum_filtered weight test none fs) (test f) refl
  where
    by : sum_by weight (filter test fs) ≡ sum_by weight fs → (b : Bool) → test f ≡ b → sum_by weight (cond b (f ∷ filter test fs) (filter test fs)) ≡ sum_by weight (f ∷ fs)
    by rest true is = omega (arith, rest, sum_by-cons weight f (filter test fs), sum_by-cons weight f fs)
    by rest false is = omega (arith, rest, sum_by-cons weight f fs, none f is)

sum_mapped : {X : Type 0} (weight : X → ℕ) (g : ℕ → X) (fs : List ℕ) → sum_by weight (map g fs) ≡ sum_by (λ f. weight (g f)) fs
sum_mapped weight g [] = refl
sum_mapped weight g (f ∷ fs) = omega (arith, sum_mapped weight g fs, sum_by-cons weight (g f) (map g fs), sum_by-cons (λ f. weight (g f)) f fs)

-- the lines have together what all functions have
sum_of_lines : (s : Sources) (weight : FlatEntry → ℕ) → ((e : FlatEntry) → has_line e ≡ false → weight e ≡ 0) → sum_by weight (flat_entries s) ≡ sum_below s.graph.functions (λ f. weight (entry_of s f))
unfolding listed_functions
sum_of_lines s weight none = search (sum_mapped, sum_in_order, sum_filtered, sum_numbers)

neither_of : (a b : Bool) → (a || b) ≡ false → (a ≡ false) × (b ≡ false)
neither_of true b h = absurd (true≢false h)
neither_of false b h = (refl, h)

none_of : (n : ℕ) → nat_lt 0 n ≡ false → n ≡ 0
none_of n h = grind arith

pub shares_of_lines : (s : Sources) → length s.shares.of ≡ s.graph.functions → sum_by (λ (e : FlatEntry). e.share) (flat_entries s) ≡ attributed_of s.shares
shares_of_lines s each = sum_of_lines s (λ e. e.share) (λ e h. none_of e.share (neither_of _ _ h).0) ∙ sum_of_places s.graph.functions s.shares.of each

-- ---- calls

calls_of_all : (g : GraphValue) → IsGraph g → sum_below g.functions (calls_in_all g) ≡ all_calls g
unfolding all_calls
calls_of_all g is =
    let others = sum_by_key (arc_count g) g.functions (λ f. true) (λ i. true) (λ i. (arc_at g i).callee) (λ i. (arc_at g i).count) is.arcs.callees in
    sum_add g.functions (calls_by_others g) (calls_by_itself g) ∙ ap (λ (n : ℕ). n + sum_below g.functions (calls_by_itself g)) others

pub calls_of_lines : (s : Sources) → IsGraph s.graph → sum_by (λ (e : FlatEntry). e.calls) (flat_entries s) ≡ all_calls s.graph
calls_of_lines s is = sum_of_lines s (λ e. e.calls) (λ e h. none_of e.calls (neither_of _ _ h).1) ∙ calls_of_all s.graph is

pub calls_within : (g : GraphValue) (f : ℕ) → IsGraph g → f < g.functions → calls_in_all g f ≤ all_calls g
calls_within g f is below = omega (arith, term_le_sum g.functions (calls_in_all g) f below, calls_of_all g is)

-- ---- bounds

pub total_within : (s : Sources) (f : ℕ) → AreOfOne s → f < s.graph.functions → inclusive_total s f ≤ attributed_of s.shares
total_within s f are below =
    let all = within_all s.graph s.shares.of are.graph (are.each ∙ sym are.functions) s.flow are.flow (component_of s.graph f) (are.graph.components.within f below) in
    omega (arith, function_within s.graph s.shares.of s.flow f are.graph are.flow below)

entry_fits : (s : Sources) → AreOfOne s → all_calls s.graph < 2 ^ 59 → (f : ℕ) → f < s.graph.functions → FitsIn (attributed_of s.shares) (entry_of s f)
entry_fits s are few f below = grind (arith, total_within, calls_within)

numbers_are_below : (n : ℕ) → All (λ f. f < n) (numbers_below n)
numbers_are_below n k d below = omega (arith, length-range_with_len 0 n, get_or-range_with_len 0 n k d (omega (arith, length-range_with_len 0 n)))

ordered_are_below : (s : Sources) → All (λ f. f < s.graph.functions) (flat_order s)
unfolding listed_functions
ordered_are_below s =
    let below = λ (f : ℕ). f < s.graph.functions in
    All-permutation below (listed_functions s) (flat_order s) (moved_in_order (flat_comes_before s) (listed_functions s))
    (All-filter (λ f. has_line (entry_of s f)) below (numbers_below s.graph.functions) (numbers_are_below s.graph.functions))

pub entries_fit : (s : Sources) → AreOfOne s → all_calls s.graph < 2 ^ 59 → All (FitsIn (attributed_of s.shares)) (flat_entries s)
entries_fit s are few =
    All-map (FitsIn (attributed_of s.shares)) (entry_of s) (flat_order s)
    (All-weaker (λ f. f < s.graph.functions) (λ f. FitsIn (attributed_of s.shares) (entry_of s f)) (λ f below. entry_fits s are few f below) (flat_order s) (ordered_are_below s))

-- ---- the first functions

-- those of the first k functions that have a line
abbrev pub functions_to : Sources → ℕ → List ℕ
functions_to s k = filter (λ f. has_line (entry_of s f)) (numbers_below k)

pub functions_more : (s : Sources) (k : ℕ) → functions_to s (k + 1) ≡ functions_to s k ++ cond (has_line (entry_of s k)) (k ∷ []) []
functions_more s k =
    let test = λ (f : ℕ). has_line (entry_of s f) in
    ap (filter test) (sym (map-id (numbers_below (k + 1))))
    ∙ filter_of_map_range_with_len_more test (λ f. f) 0 k k (omega arith)
    ∙ ap (λ (fs : List ℕ). filter test fs ++ cond (has_line (entry_of s k)) (k ∷ []) []) (map-id (numbers_below k))

pub functions_to_all : (s : Sources) (k : ℕ) → k ≡ s.graph.functions → functions_to s k ≡ listed_functions s
unfolding listed_functions
functions_to_all s k all = ap (functions_to s) all
