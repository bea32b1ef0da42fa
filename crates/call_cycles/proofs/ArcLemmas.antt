-- The arcs between functions: where they lie, in which order, and how many calls they have.
use Rattle.std.proofs.Common.{inl, inr, ◌≡◌, ◌<◌, ◌≤◌, ℕ, zero, suc, ◌+◌, get_or, ◌&&◌, ◌||◌, Bool, true, false, not, List, [], ◌∷◌, ◌++◌, length, Option, Some, None, refl, ap, sym, ◌∙◌, subst, ⊎_elim, arith, length-append, ◌-◌}
use Rattle.std.specs.Prelude.{◌==◌, slice_index, if◌then◌else◌}
use Rattle.std.specs.List.{All, flat_map, sum_by}
use Rattle.std.specs.Option.{option_map_or}
use Rattle.std.proofs.lemmas.Bool.{cases_lt, eqb-true, ne_eqb}
use Rattle.std.proofs.lemmas.List.{take_all, get_or_default, get_or_append_left, get_or-append_right}
use Rattle.std.proofs.lemmas.List.Sums.{sum_by-cons}
use Rattle.elf32_syms.specs.declared.image.Symbol.{Symbol}
use Rattle.elf32_syms.specs.Owners.{owner_of}
use Rattle.gmon_data.specs.Tally.{tally_total}
use Rattle.call_cycles.specs.declared.graphs.FunArc.{FunArc}
use Rattle.call_cycles.specs.Sums.{sum_below, when, numbers_below}
use Rattle.call_cycles.specs.Graph.{no_arc, IsArcBefore}
use Rattle.call_cycles.specs.Parts.{AreCalled, arcs_calls}
use Rattle.call_cycles.specs.Calls.{lies_in, calls_of, calls_between, arc_between, arcs_among, function_arcs, own_calls}
use Rattle.call_cycles.proofs.SumLemmas.{sum_ext, sum_add, sum_zero, sum_none, sum_mono, sum_at, sum_flat, sum_places, all_flat, flat_more}
use Rattle.call_cycles.specs.Arcs.{AreByCaller, AreInOrder, AreWithin, IsArcBelow}
use Rattle.call_cycles.proofs.ListLemmas.{list_at}

-- ---- where they lie

all_between : (calls : ℕ → ℕ → ℕ) (n f g : ℕ) → f < n → g < n → All (IsArcBelow n) (arc_between calls f g)
all_between calls n f g low_f low_g = by (f == g) (calls f g == 0) refl refl
  where
    by : (same none : Bool) → (f == g) ≡ same → (calls f g == 0) ≡ none → All (IsArcBelow n) (if same || none then [] else record { caller = f; callee = g; count = calls f g } ∷ [])
    by same none eq is = grind arith

pub arcs_below : (calls : ℕ → ℕ → ℕ) (n : ℕ) → All (IsArcBelow n) (arcs_among n calls)
unfolding arcs_among
arcs_below calls n = search (all_flat, all_between)

-- ---- in order of caller

own_arcs : (calls : ℕ → ℕ → ℕ) (f g : ℕ) → All (λ (a : FunArc). a.caller ≡ f) (arc_between calls f g)
own_arcs calls f g = by (f == g || calls f g == 0)
  where
    by : (none : Bool) → All (λ (a : FunArc). a.caller ≡ f) (if none then [] else record { caller = f; callee = g; count = calls f g } ∷ [])
    by none = grind arith

abbrev row_of : (ℕ → ℕ → ℕ) → ℕ → ℕ → List FunArc
row_of calls n f = flat_map (arc_between calls f) (numbers_below n)

own_row : (calls : ℕ → ℕ → ℕ) (n f : ℕ) → All (λ (a : FunArc). a.caller ≡ f) (row_of calls n f)
own_row calls n f = all_flat (λ (a : FunArc). a.caller ≡ f) (arc_between calls f) n (λ g low. own_arcs calls f g)

rows_below : (calls : ℕ → ℕ → ℕ) (n k : ℕ) → All (λ (a : FunArc). a.caller < k) (flat_map (row_of calls n) (numbers_below k))
rows_below calls n k = all_flat (λ (a : FunArc). a.caller < k) (row_of calls n) k (λ f low i d inside. let at = own_row calls n f i d inside in omega arith)

-- what holds of the first list stays, and the second one comes behind it
pub in_order_after : (xs ys : List FunArc) → AreInOrder xs → AreInOrder ys → ((i j : ℕ) → i < length xs → j < length ys → IsArcBefore (get_or xs i no_arc) (get_or ys j no_arc)) → AreInOrder (xs ++ ys)
in_order_after xs ys first second between i j less below =
    ⊎_elim
    (λ (front : j < length xs). rw (get_or_append_left xs ys no_arc i (omega arith), get_or_append_left xs ys no_arc j front) (first i j less front))
    (λ (back : length xs ≤ j).
    let long = length-append xs ys in
    ⊎_elim
    (λ (front : i < length xs). rw (get_or_append_left xs ys no_arc i front, get_or-append_right xs ys (length xs) j no_arc refl back) (between i (j - length xs) front (omega arith)))
    (λ (past : length xs ≤ i). rw (get_or-append_right xs ys (length xs) i no_arc refl past, get_or-append_right xs ys (length xs) j no_arc refl back) (second (i - length xs) (j - length xs) (omega arith) (omega arith)))
    (cases_lt i (length xs)))
    (cases_lt j (length xs))

arc_alone : (calls : ℕ → ℕ → ℕ) (f g : ℕ) → AreInOrder (arc_between calls f g)
arc_alone calls f g = by (f == g || calls f g == 0)
  where
    by : (none : Bool) → AreInOrder (if none then [] else record { caller = f; callee = g; count = calls f g } ∷ [])
    by true i j less below = absurd (omega arith)
    by false i j less below = absurd (omega arith)

callee_alone : (calls : ℕ → ℕ → ℕ) (f g : ℕ) → All (λ (a : FunArc). a.callee ≡ g) (arc_between calls f g)
callee_alone calls f g = by (f == g || calls f g == 0)
  where
    by : (none : Bool) → All (λ (a : FunArc). a.callee ≡ g) (if none then [] else record { caller = f; callee = g; count = calls f g } ∷ [])
    by none = grind arith

callees_below : (calls : ℕ → ℕ → ℕ) (f k : ℕ) → All (λ (a : FunArc). a.callee < k) (row_of calls k f)
callees_below calls f k = all_flat (λ (a : FunArc). a.callee < k) (arc_between calls f) k (λ g low i d inside. let at = callee_alone calls f g i d inside in omega arith)

row_rises : (calls : ℕ → ℕ → ℕ) (f k : ℕ) → AreInOrder (row_of calls k f)
row_rises calls f zero = λ i j less below. absurd (omega arith)
row_rises calls f (suc k) =
    subst AreInOrder (sym (flat_more (arc_between calls f) k))
    (in_order_after (row_of calls k f) (arc_between calls f k) (row_rises calls f k) (arc_alone calls f k)
    (λ i j front back.
    let a = own_row calls k f i no_arc front in
    let b = own_arcs calls f k j no_arc back in
    let low = callees_below calls f k i no_arc front in
    let at = callee_alone calls f k j no_arc back in
    inr (a ∙ sym b, omega arith)))

rows_rise : (calls : ℕ → ℕ → ℕ) (n k : ℕ) → AreInOrder (flat_map (row_of calls n) (numbers_below k))
rows_rise calls n zero = λ i j less below. absurd (omega arith)
rows_rise calls n (suc k) =
    subst AreInOrder (sym (flat_more (row_of calls n) k))
    (in_order_after (flat_map (row_of calls n) (numbers_below k)) (row_of calls n k) (rows_rise calls n k) (row_rises calls k n)
    (λ i j front back.
    let low = rows_below calls n k i no_arc front in
    let at = own_row calls n k j no_arc back in
    inl (omega arith)))

pub in_order : (calls : ℕ → ℕ → ℕ) (n : ℕ) → AreInOrder (arcs_among n calls)
unfolding arcs_among
in_order calls n = rows_rise calls n n

pub by_caller : (arcs : List FunArc) → AreInOrder arcs → AreByCaller arcs
by_caller arcs rising i j d le below = grind (arith, get_or_default)

-- ---- the functions of a profile's calls

between_cons : (e : (ℕ × ℕ) × ℕ) (es : List ((ℕ × ℕ) × ℕ)) (symbols : List Symbol) (f g : ℕ) → calls_between (e ∷ es) symbols f g ≡ calls_of symbols e f g + calls_between es symbols f g
unfolding calls_between
between_cons e es symbols f g = sum_by-cons (λ (x : (ℕ × ℕ) × ℕ). calls_of symbols x f g) e es

between_nil : (symbols : List Symbol) (f g : ℕ) → calls_between [] symbols f g ≡ 0
unfolding calls_between
between_nil symbols f g = refl

-- ---- how many calls

-- one function at most owns an address
one_owner : (n : ℕ) (owner : Option ℕ) (x : ℕ) → sum_below n (λ f. when (option_map_or (λ (o : ℕ). o == f) owner false) x) ≤ x
one_owner n None x = let none = sum_zero n in omega arith
one_owner n (Some k) x =
    ⊎_elim
    (λ (low : k < n). let at : sum_below n (λ f. when (k == f) x) ≡ x = sum_at n (λ f. true) true k x low in omega arith)
    (λ (past : n ≤ k).
    let none : sum_below n (λ f. when (k == f) x) ≡ 0 = sum_none n (λ f. when (k == f) x) (λ f low. ap (λ (t : Bool). when t x) (ne_eqb k f (λ q. omega arith))) in
    omega arith)
    (cases_lt k n)

one_callee : (n : ℕ) (on : Bool) (owner : Option ℕ) (x : ℕ) → sum_below n (λ g. when (on && option_map_or (λ (o : ℕ). o == g) owner false) x) ≤ when on x
one_callee n true owner x = one_owner n owner x
one_callee n false owner x = let none = sum_zero n in omega arith

one_pair : (n : ℕ) (symbols : List Symbol) (e : (ℕ × ℕ) × ℕ) → sum_below n (λ f. sum_below n (calls_of symbols e f)) ≤ e.1
one_pair n symbols e =
    let callers = sum_mono n (λ f. sum_below n (calls_of symbols e f)) (λ f. when (lies_in symbols f e.0.0) e.1) (λ f low. one_callee n (lies_in symbols f e.0.0) (owner_of symbols e.0.1) e.1) in
    let one = one_owner n (owner_of symbols e.0.0) e.1 in
    omega arith

all_pairs : (n : ℕ) (es : List ((ℕ × ℕ) × ℕ)) (symbols : List Symbol) → sum_below n (λ f. sum_below n (calls_between es symbols f)) ≤ tally_total es
all_pairs n [] symbols = grind (arith, sum_none, between_nil)
all_pairs n (e ∷ es) symbols =
    let split = sum_ext n (λ f. sum_below n (calls_between (e ∷ es) symbols f)) (λ f. sum_below n (calls_of symbols e f) + sum_below n (calls_between es symbols f))
    (λ f low. sum_ext n (calls_between (e ∷ es) symbols f) (λ g. calls_of symbols e f g + calls_between es symbols f g) (λ g at. between_cons e es symbols f g) ∙ sum_add n (calls_of symbols e f) (calls_between es symbols f)) in
    let both = sum_add n (λ f. sum_below n (calls_of symbols e f)) (λ f. sum_below n (calls_between es symbols f)) in
    let first = one_pair n symbols e in
    let rest = all_pairs n es symbols in
    let total = sum_by-cons (λ (x : (ℕ × ℕ) × ℕ). x.1) e es in
    omega arith

-- the calls of the arc between two functions
arc_calls : (calls : ℕ → ℕ → ℕ) (f g : ℕ) → sum_by (λ (a : FunArc). a.count) (arc_between calls f g) ≡ when (not (f == g)) (calls f g)
arc_calls calls f g = by (f == g) (calls f g == 0) refl
  where
    by : (same none : Bool) → (calls f g == 0) ≡ none → sum_by (λ (a : FunArc). a.count) (if same || none then [] else record { caller = f; callee = g; count = calls f g } ∷ []) ≡ when (not same) (calls f g)
    by same none is = grind (arith, eqb-true)

others_and_self : (n f : ℕ) (row : ℕ → ℕ) → f < n → sum_below n (λ g. when (not (f == g)) (row g)) + row f ≡ sum_below n row
others_and_self n f row low =
    let self : sum_below n (λ g. when (f == g) (row f)) ≡ row f = sum_at n (λ g. true) true f (row f) low in
    let both = sum_add n (λ g. when (not (f == g)) (row g)) (λ g. when (f == g) (row f)) in
    let all = sum_ext n (λ g. when (not (f == g)) (row g) + when (f == g) (row f)) row (λ g at. one g (f == g) refl) in
    omega arith
  where
    one : (g : ℕ) (same : Bool) → (f == g) ≡ same → when (not same) (row g) + when same (row f) ≡ row g
    one g same is = grind (arith, eqb-true)

pub arcs_and_selves : (calls : ℕ → ℕ → ℕ) (n : ℕ) → sum_by (λ (a : FunArc). a.count) (arcs_among n calls) + sum_below n (λ f. calls f f) ≡ sum_below n (λ f. sum_below n (calls f))
unfolding arcs_among
arcs_and_selves calls n =
    let rows = sum_flat (λ (a : FunArc). a.count) (λ f. flat_map (arc_between calls f) (numbers_below n)) n in
    let others = sum_ext n (λ f. sum_by (λ (a : FunArc). a.count) (flat_map (arc_between calls f) (numbers_below n))) (λ f. sum_below n (λ g. when (not (f == g)) (calls f g)))
    (λ f low. sum_flat (λ (a : FunArc). a.count) (arc_between calls f) n ∙ sum_ext n _ _ (λ g at. arc_calls calls f g)) in
    let both = sum_add n (λ f. sum_below n (λ g. when (not (f == g)) (calls f g))) (λ f. calls f f) in
    let all = sum_ext n (λ f. sum_below n (λ g. when (not (f == g)) (calls f g)) + calls f f) (λ f. sum_below n (calls f)) (λ f low. others_and_self n f (calls f) low) in
    omega arith

pub arcs_calls_is : (arcs : List FunArc) → arcs_calls arcs ≡ sum_by (λ (a : FunArc). a.count) arcs
unfolding arcs_calls
arcs_calls_is arcs = sum_places (λ (a : FunArc). a.count) arcs no_arc (length arcs) (omega arith) ∙ ap (sum_by (λ (a : FunArc). a.count)) (take_all (length arcs) arcs (omega arith))

-- all calls of the functions are calls of the profile
pub calls_few : (es : List ((ℕ × ℕ) × ℕ)) (symbols : List Symbol)
    → arcs_calls (arcs_among (length symbols) (calls_between es symbols)) + sum_below (length symbols) (λ f. calls_between es symbols f f) ≤ tally_total es
calls_few es symbols =
    let is = arcs_calls_is (arcs_among (length symbols) (calls_between es symbols)) in
    let all = arcs_and_selves (calls_between es symbols) (length symbols) in
    let le = all_pairs (length symbols) es symbols in
    omega arith

-- ---- the parts of a graph of a profile

pub made_few : (es : List ((ℕ × ℕ) × ℕ)) (symbols : List Symbol) (arcs : List FunArc) (n : ℕ) (selves : List ℕ) → arcs ≡ function_arcs es symbols → n ≡ length symbols → selves ≡ own_calls es symbols
    → arcs_calls arcs + sum_below n (slice_index selves) ≤ tally_total es
made_few es symbols arcs n selves is is_n is_selves = grind (arith, calls_few, sum_ext, list_at)

pub are_within : (es : List ((ℕ × ℕ) × ℕ)) (symbols : List Symbol) (arcs : List FunArc) (n : ℕ) → arcs ≡ function_arcs es symbols → n ≡ length symbols → AreWithin n arcs
are_within es symbols arcs n is is_n i below = grind (arith, arcs_below)

pub are_called : (es : List ((ℕ × ℕ) × ℕ)) (symbols : List Symbol) (arcs : List FunArc) → arcs ≡ function_arcs es symbols → AreCalled arcs
are_called es symbols arcs is i below = grind (arith, arcs_below)

pub are_in_order : (es : List ((ℕ × ℕ) × ℕ)) (symbols : List Symbol) (arcs : List FunArc) → arcs ≡ function_arcs es symbols → AreInOrder arcs
are_in_order es symbols arcs is = subst AreInOrder (sym is) (in_order (calls_between es symbols) (length symbols))
