-- Lines of stacks: in order, each stack once, with the number of samples that have it.
use Rattle.std.proofs.Common.{◌≡◌, ◌∙◌, ◌+◌, ◌<◌, ℕ, Bool, true, false, List, [], ◌∷◌, length, ap, arith, cond, refl, sym, Option, Some}
use Rattle.std.specs.Prelude.{count_by, fold, sum_by, option_map, unwrap_or}
use Rattle.std.specs.List.{AllByRecursion}
use Rattle.std.specs.List.Sorted.{IsStrictlySortedBy}
use Rattle.std.specs.BTreeMap.{insert_entry}
use Rattle.std.specs.Map.{keys_of, lookup, values_of}
use Rattle.std.specs.Ordering.{is_eq, match_ordering, ordering_reverse}
use Rattle.std.specs.declared.cmp.Ordering.{Ordering}
use Rattle.std.specs.declared.cmp.Ordering.TheVariants.{Less, Equal, Greater}
use Rattle.std.proofs.lemmas.List.Sums.{sum_by-cons}
use Rattle.std.proofs.lemmas.Map.Entries.{sum_by-insert_entry}
use Rattle.folded.specs.Nodes.{samples_of_lines}
use Rattle.folded.specs.Stacks.{lines_of, same_stack, stack_cmp, times_in, with_stack}
use Rattle.folded.proofs.CompareLemmas.{exact_stack, same_stacks, stacks_total}

abbrev Stack : Type 0
Stack = List (Option ℕ)

abbrev Lines : Type 0
Lines = List (Stack × ℕ)

-- ---- the order

-- a stack and one that is the same compare alike with any other
alike : (a b c : Stack) → stack_cmp a b ≡ Equal → stack_cmp a c ≡ stack_cmp b c
alike a b c same = stacks_total.congr a b c same

turned : (a b : Stack) → stack_cmp a b ≡ ordering_reverse (stack_cmp b a)
turned a b = stacks_total.antisymm a b

alike_right : (a b c : Stack) → stack_cmp a b ≡ Equal → stack_cmp c a ≡ stack_cmp c b
alike_right a b c same = turned c a ∙ ap ordering_reverse (alike a b c same) ∙ sym (turned c b)

-- ---- what is looked up behind one more line

abbrev found : Lines → Stack → Option ℕ
found lines q = lookup (same_stack q) lines

equal : (o : Ordering) → is_eq o ≡ true → o ≡ Equal
equal o is = grind arith

found_insert_by : (e : Stack × ℕ) (es : Lines) (k q : Stack) (v : ℕ) (o : Ordering) → stack_cmp k e.0 ≡ o → found (insert_entry stack_cmp es k v) q ≡ cond (same_stack q k) (Some v) (found es q)
    → found (match_ordering o ((k, v) ∷ e ∷ es) ((e.0, v) ∷ es) (e ∷ insert_entry stack_cmp es k v)) q ≡ cond (same_stack q k) (Some v) (found (e ∷ es) q)
found_insert_by e es k q v Less is later = refl
found_insert_by e es k q v Equal is later =
    let test : same_stack q k ≡ same_stack q e.0 = ap is_eq (alike_right k e.0 q is) in
    both (same_stack q e.0) ∙ ap (λ (b : Bool). cond b (Some v) (found (e ∷ es) q)) (sym test)
  where
    both : (b : Bool) → cond b (Some v) (found es q) ≡ cond b (Some v) (cond b (Some e.1) (found es q))
    both b = grind arith
found_insert_by e es k q v Greater is later = grind (arith, alike)

found_insert : (es : Lines) (k q : Stack) (v : ℕ) → found (insert_entry stack_cmp es k v) q ≡ cond (same_stack q k) (Some v) (found es q)
found_insert [] k q v = refl
found_insert (e ∷ es) k q v = found_insert_by e es k q v (stack_cmp k e.0) refl (found_insert es k q v)

times_more : (lines : Lines) (k q : Stack) → times_in (with_stack lines k) q ≡ times_in lines q + cond (same_stack q k) 1 0
unfolding with_stack
times_more lines k q = grind (arith, found_insert, alike)

abbrev folded_lines : Lines → List Stack → Lines
folded_lines lines stacks = fold with_stack lines stacks

times_all : (stacks : List Stack) (lines : Lines) (q : Stack) → times_in (folded_lines lines stacks) q ≡ times_in lines q + count_by (same_stack q) stacks
times_all [] lines q = omega arith
times_all (s ∷ stacks) lines q = search (arith, times_more, sum_by-cons, times_all stacks (with_stack lines s) q)

pub lines_counted : (stacks : List Stack) (stack : Stack) → times_in (lines_of stacks) stack ≡ count_by (same_stack stack) stacks
lines_counted stacks stack = times_all stacks [] stack ∙ omega arith

-- ---- the lines ascend

abbrev Ascends : Lines → Type 0
Ascends lines = IsStrictlySortedBy stack_cmp (keys_of lines)

below_all : (a b : Stack) (keys : List Stack) → stack_cmp a b ≡ Less → AllByRecursion (λ (y : Stack). stack_cmp b y ≡ Less) keys → AllByRecursion (λ (y : Stack). stack_cmp a y ≡ Less) keys
below_all a b [] less all = tt
below_all a b (k ∷ keys) less all = (stacks_total.trans a b k less all.0, below_all a b keys less all.1)

above : (a b : Stack) → stack_cmp a b ≡ Greater → stack_cmp b a ≡ Less
above a b is = turned b a ∙ ap ordering_reverse is

less_inserted_by : (a : Stack) (e : Stack × ℕ) (es : Lines) (k : Stack) (v : ℕ) (o : Ordering) → stack_cmp a k ≡ Less → AllByRecursion (λ (y : Stack). stack_cmp a y ≡ Less) (keys_of (e ∷ es))
    → AllByRecursion (λ (y : Stack). stack_cmp a y ≡ Less) (keys_of (insert_entry stack_cmp es k v))
    → AllByRecursion (λ (y : Stack). stack_cmp a y ≡ Less) (keys_of (match_ordering o ((k, v) ∷ e ∷ es) ((e.0, v) ∷ es) (e ∷ insert_entry stack_cmp es k v)))
less_inserted_by a e es k v o less all later = grind arith

less_inserted : (a : Stack) (es : Lines) (k : Stack) (v : ℕ) → stack_cmp a k ≡ Less → AllByRecursion (λ (y : Stack). stack_cmp a y ≡ Less) (keys_of es) → AllByRecursion (λ (y : Stack). stack_cmp a y ≡ Less) (keys_of (insert_entry stack_cmp es k v))
less_inserted a [] k v less all = (less, tt)
less_inserted a (e ∷ es) k v less all = less_inserted_by a e es k v (stack_cmp k e.0) less all (less_inserted a es k v less all.1)

ascends_by : (e : Stack × ℕ) (es : Lines) (k : Stack) (v : ℕ) (o : Ordering) → stack_cmp k e.0 ≡ o → Ascends (e ∷ es) → Ascends (insert_entry stack_cmp es k v)
    → Ascends (match_ordering o ((k, v) ∷ e ∷ es) ((e.0, v) ∷ es) (e ∷ insert_entry stack_cmp es k v))
unfolding IsStrictlySortedBy
ascends_by e es k v o is sorted later = grind (arith, below_all, less_inserted, above)

ascends_inserted : (es : Lines) (k : Stack) (v : ℕ) → Ascends es → Ascends (insert_entry stack_cmp es k v)
unfolding IsStrictlySortedBy
ascends_inserted [] k v sorted = (tt, tt)
ascends_inserted (e ∷ es) k v sorted = ascends_by e es k v (stack_cmp k e.0) refl sorted (ascends_inserted es k v sorted.1)

ascends_more : (lines : Lines) (s : Stack) → Ascends lines → Ascends (with_stack lines s)
unfolding with_stack
ascends_more lines s sorted = ascends_inserted lines s (times_in lines s + 1) sorted

ascends_all : (stacks : List Stack) (lines : Lines) → Ascends lines → Ascends (folded_lines lines stacks)
ascends_all [] lines sorted = sorted
ascends_all (s ∷ stacks) lines sorted = ascends_all stacks (with_stack lines s) (ascends_more lines s sorted)

pub lines_ascending : (stacks : List Stack) → IsStrictlySortedBy stack_cmp (keys_of (lines_of stacks))
unfolding IsStrictlySortedBy
lines_ascending stacks = ascends_all stacks [] tt

-- ---- their numbers add up

abbrev total_of : Lines → ℕ
total_of lines = sum_by (λ (line : Stack × ℕ). line.1) lines

by_values : (lines : Lines) → sum_by (λ (n : ℕ). n) (values_of lines) ≡ total_of lines
by_values [] = refl
by_values (e ∷ es) = sum_by-cons (λ (n : ℕ). n) e.1 (values_of es) ∙ ap (λ (n : ℕ). e.1 + n) (by_values es) ∙ sym (sum_by-cons (λ (line : Stack × ℕ). line.1) e es)

same_option : (o : Option ℕ) → option_map (λ (n : ℕ). n) o ≡ o
same_option o = grind arith

total_more : (lines : Lines) (s : Stack) → Ascends lines → total_of (with_stack lines s) ≡ total_of lines + 1
unfolding with_stack
total_more lines s sorted =
    let new = insert_entry stack_cmp lines s (times_in lines s + 1) in
    let before : unwrap_or (option_map (λ (n : ℕ). n) (found lines s)) 0 ≡ times_in lines s = ap (λ (o : Option ℕ). unwrap_or o 0) (same_option (found lines s)) in
    omega (arith, sum_by-insert_entry (λ (n : ℕ). n) stacks_total lines s (times_in lines s + 1) sorted, before, by_values new, by_values lines)

total_all : (stacks : List Stack) (lines : Lines) → Ascends lines → total_of (folded_lines lines stacks) ≡ total_of lines + length stacks
total_all [] lines sorted = omega arith
total_all (s ∷ stacks) lines sorted = grind (arith, total_more, total_all stacks (with_stack lines s) (ascends_more lines s sorted))

pub lines_total : (stacks : List Stack) → sum_by (λ (line : Stack × ℕ). line.1) (lines_of stacks) ≡ length stacks
unfolding IsStrictlySortedBy
lines_total stacks = let all = total_all stacks [] tt in omega (arith, all)

-- ---- lines that ascend, with a sample each, are those that they count

abbrev pub HaveEach : Lines → Type 0
HaveEach lines = AllByRecursion (λ (line : Stack × ℕ). 0 < line.1) lines

each_by : (o : Ordering) (e : Stack × ℕ) (es : Lines) (k : Stack) (v : ℕ) → 0 < v → HaveEach (e ∷ es) → HaveEach (insert_entry stack_cmp es k v) → HaveEach (match_ordering o ((k, v) ∷ e ∷ es) ((e.0, v) ∷ es) (e ∷ insert_entry stack_cmp es k v))
each_by o e es k v some all later = grind arith

each_inserted : (es : Lines) (k : Stack) (v : ℕ) → 0 < v → HaveEach es → HaveEach (insert_entry stack_cmp es k v)
each_inserted [] k v some all = (some, tt)
each_inserted (e ∷ es) k v some all = each_by (stack_cmp k e.0) e es k v some all (each_inserted es k v some all.1)

each_more : (lines : Lines) (s : Stack) → HaveEach lines → HaveEach (with_stack lines s)
unfolding with_stack
each_more lines s all = each_inserted lines s (times_in lines s + 1) (omega arith) all

each_all : (stacks : List Stack) (lines : Lines) → HaveEach lines → HaveEach (folded_lines lines stacks)
each_all [] lines all = all
each_all (s ∷ stacks) lines all = each_all stacks (with_stack lines s) (each_more lines s all)

not_same : (q y : Stack) → stack_cmp q y ≡ Less → same_stack q y ≡ false
not_same q y less = ap is_eq less

-- a stack below all lines has none
times_below : (q : Stack) (lines : Lines) → AllByRecursion (λ (y : Stack). stack_cmp q y ≡ Less) (keys_of lines) → times_in lines q ≡ 0
times_below q [] all = refl
times_below q (e ∷ es) all = ap (λ (b : Bool). unwrap_or (cond b (Some e.1) (found es q)) 0) (not_same q e.0 all.0) ∙ times_below q es all.1

times_first : (q : Stack) (e : Stack × ℕ) (es : Lines) → stack_cmp q e.0 ≡ Equal → times_in (e ∷ es) q ≡ e.1
times_first q e es is = ap (λ (o : Ordering). unwrap_or (cond (is_eq o) (Some e.1) (found es q)) 0) is

alike_below : (q a : Stack) (keys : List Stack) → stack_cmp q a ≡ Equal → AllByRecursion (λ (y : Stack). stack_cmp a y ≡ Less) keys → AllByRecursion (λ (y : Stack). stack_cmp q y ≡ Less) keys
alike_below q a [] is all = tt
alike_below q a (k ∷ keys) is all = (alike q a k is ∙ all.0, alike_below q a keys is all.1)

one_by : (a : Stack × ℕ) (xs : Lines) (b : Stack × ℕ) (ys : Lines) (o : Ordering) → stack_cmp a.0 b.0 ≡ o → Ascends (a ∷ xs) → Ascends (b ∷ ys) → 0 < a.1 → 0 < b.1 → ((q : Stack) → times_in (a ∷ xs) q ≡ times_in (b ∷ ys) q)
    → (((q : Stack) → times_in xs q ≡ times_in ys q) → xs ≡ ys) → a ∷ xs ≡ b ∷ ys
unfolding IsStrictlySortedBy
one_by a xs b ys Less is up_a up_b some_a some_b same rest = grind (arith, same_stacks, times_below, below_all)
one_by a xs b ys Equal is up_a up_b some_a some_b same rest =
    let stack = exact_stack a.0 b.0 is in
    let count : a.1 ≡ b.1 = sym (times_first a.0 a xs (same_stacks a.0)) ∙ same a.0 ∙ times_first a.0 b ys is in
    let later = rest (λ q. by q (same_stack q a.0) refl) in
    λ t. (stack t, count t) ∷ later t
  where
    by : (q : Stack) (c : Bool) → same_stack q a.0 ≡ c → times_in xs q ≡ times_in ys q
    by q c one = grind (arith, times_below, alike_below, alike_right)
one_by a xs b ys Greater is up_a up_b some_a some_b same rest = grind (arith, above, same_stacks, times_below, below_all)

one_list : (xs ys : Lines) → Ascends xs → Ascends ys → HaveEach xs → HaveEach ys → ((q : Stack) → times_in xs q ≡ times_in ys q) → xs ≡ ys
unfolding IsStrictlySortedBy
one_list [] [] up_a up_b some_a some_b same = refl
one_list [] (b ∷ ys) up_a up_b some_a some_b same = absurd (omega (arith, some_b.0, same b.0, times_first b.0 b ys (same_stacks b.0)))
one_list (a ∷ xs) [] up_a up_b some_a some_b same = absurd (omega (arith, some_a.0, same a.0, times_first a.0 a xs (same_stacks a.0)))
one_list (a ∷ xs) (b ∷ ys) up_a up_b some_a some_b same =
    one_by a xs b ys (stack_cmp a.0 b.0) refl up_a up_b some_a.0 some_b.0 same (one_list xs ys up_a.1 up_b.1 some_a.1 some_b.1)

sum_below : (q : Stack) (lines : Lines) → AllByRecursion (λ (y : Stack). stack_cmp q y ≡ Less) (keys_of lines) → samples_of_lines (same_stack q) lines ≡ 0
sum_below q [] all = refl
sum_below q (e ∷ es) all = search (not_same, sum_by-cons, sum_below q es all.1)

-- by what each line adds
times_sum : (q : Stack) (lines : Lines) → Ascends lines → times_in lines q ≡ samples_of_lines (same_stack q) lines
unfolding IsStrictlySortedBy
times_sum q [] up = refl
times_sum q (e ∷ es) up = by (times_sum q es up.1) (same_stack q e.0) refl ∙ sym (sum_by-cons (λ (l : Stack × ℕ). cond (same_stack q l.0) l.1 0) e es)
  where
    by : times_in es q ≡ samples_of_lines (same_stack q) es → (b : Bool) → same_stack q e.0 ≡ b → times_in (e ∷ es) q ≡ cond (same_stack q e.0) e.1 0 + samples_of_lines (same_stack q) es
    by rest true one =
        let at_e = equal (stack_cmp q e.0) one in
        let here : cond (same_stack q e.0) e.1 0 ≡ e.1 = ap (λ (b : Bool). cond b e.1 0) one in
        omega (arith, times_first q e es at_e, sum_below q es (alike_below q e.0 (keys_of es) at_e up.0), here)
    by rest false one = grind arith

pub lines_are : (lines : Lines) (stacks : List Stack) → Ascends lines → HaveEach lines → ((test : Stack → Bool) → samples_of_lines test lines ≡ count_by test stacks) → lines ≡ lines_of stacks
lines_are lines stacks up some counts = grind (arith, one_list, lines_ascending, each_all, times_sum, lines_counted)
