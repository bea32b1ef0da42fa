-- Sums of shares over symbols, buckets and histograms.
use Rattle.std.proofs.Common.{◌≡◌, ℕ, zero, suc, ◌+◌, ◌-◌, ◌*◌, ◌<◌, ◌≤◌, List, [], ◌∷◌, ◌++◌, length, map, take, sum, get_or, replicate, refl, sym, ap, ◌∙◌, arith}
use Rattle.std.specs.List.{All, sum_by, range_with_len}
use Rattle.std.proofs.lemmas.List.{map-id, take_all}
use Rattle.std.proofs.lemmas.List.FromFn.{map-range_with_len_more}
use Rattle.std.proofs.lemmas.List.Sums.{sum_by-cons, sum_by_push, sum_by_more, sum-map}
use Rattle.std.proofs.lemmas.List.Elements.{All-head, All-tail}
use Rattle.gmon_data.specs.declared.hist.Hist.{Hist}
use Rattle.gmon_data.specs.Hists.{pointwise_sum, samples_of}
use Rattle.gmon_data.proofs.CounterLemmas.{sum-none}
use Rattle.elf32_syms.specs.declared.image.Symbol.{Symbol}
use Rattle.elf32_syms.specs.Owners.{IsAscending}
use Rattle.symbol_shares.specs.Shares.{grains_up_to, share_of_bucket, share_of_buckets, attributed_of, share_in_hist, share_of, shares_of}
use Rattle.symbol_shares.proofs.BucketLemmas.{grains-ascend, grains-within}
use Rattle.symbol_shares.proofs.OrderLemmas.{ascending-tail}

-- ---- numbers added to numbers

-- where the first parts are 0, adding them changes nothing
pub none-in-front : {X : Type 0} (f : X → ℕ) (ns : List ℕ) (xs : List X) (k : ℕ) → length ns ≡ length xs → All (λ x. f x ≡ 0) (take k xs) → pointwise_sum ns (take k (map f xs)) ≡ ns
none-in-front f ns xs zero same none = sum-none ns
none-in-front f ns [] (suc k) same none = sum-none ns
none-in-front f [] (x ∷ xs) (suc k) same none = absurd cc
none-in-front f (n ∷ ns) (x ∷ xs) (suc k) same none =
    let head = All-head (λ x. f x ≡ 0) x (take k xs) none in
    let kept : n + f x ≡ n = omega (arith, head) in
    let rest = none-in-front f ns xs k (omega arith) (All-tail (λ x. f x ≡ 0) x (take k xs) none) in
    ap (λ m. m ∷ pointwise_sum ns (take k (map f xs))) kept ∙ ap (λ l. n ∷ l) rest

-- where the parts behind are 0, those in front are all
pub none-behind : {X : Type 0} (f : X → ℕ) (ns : List ℕ) (xs : List X) (m : ℕ) → length ns ≡ length xs → ((j : ℕ) (d : X) → m ≤ j → j < length xs → f (get_or xs j d) ≡ 0) → pointwise_sum ns (take m (map f xs)) ≡ pointwise_sum ns (map f xs)
none-behind f ns [] zero same none = refl
none-behind f ns [] (suc m) same none = refl
none-behind f [] (x ∷ xs) m same none = absurd cc
none-behind f (n ∷ ns) (x ∷ xs) zero same none =
    let head = none 0 x (omega arith) (omega arith) in
    let kept : n ≡ n + f x = omega (arith, head) in
    let rest = none-behind f ns xs 0 (omega arith) (λ j d from below. none (suc j) d (omega arith) (omega arith)) in
    ap (λ m. m ∷ ns) kept ∙ ap (λ l. (n + f x) ∷ l) (sym (sum-none ns) ∙ rest)
none-behind f (n ∷ ns) (x ∷ xs) (suc m) same none =
    ap (λ l. (n + f x) ∷ l) (none-behind f ns xs m (omega arith) (λ j d from below. none (suc j) d (omega arith) (omega arith)))

pub maps-added : {X : Type 0} (f g h : X → ℕ) (xs : List X) → ((x : X) → h x ≡ f x + g x) → pointwise_sum (map f xs) (map g xs) ≡ map h xs
maps-added f g h [] each = refl
maps-added f g h (x ∷ xs) each = ap (λ m. m ∷ pointwise_sum (map f xs) (map g xs)) (sym (each x)) ∙ ap (λ l. h x ∷ l) (maps-added f g h xs each)

-- what is added in two steps
pub added-twice : {X : Type 0} (ns : List ℕ) (f g h : X → ℕ) (xs : List X) → ((x : X) → h x ≡ f x + g x) → pointwise_sum (pointwise_sum ns (map f xs)) (map g xs) ≡ pointwise_sum ns (map h xs)
added-twice [] f g h xs each = maps-added f g h xs each
added-twice (n ∷ ns) f g h [] each = refl
added-twice (n ∷ ns) f g h (x ∷ xs) each = grind (arith, added-twice ns f g h xs each)

pub zeros : {X : Type 0} (f : X → ℕ) (xs : List X) → ((x : X) → f x ≡ 0) → replicate (length xs) 0 ≡ map f xs
zeros f [] each = refl
zeros f (x ∷ xs) each = ap (λ m. m ∷ replicate (length xs) 0) (sym (each x)) ∙ ap (λ l. f x ∷ l) (zeros f xs each)

-- adding parts of 0
pub zeros-added : {X : Type 0} (f : X → ℕ) (ns : List ℕ) (xs : List X) → length ns ≡ length xs → ((x : X) → f x ≡ 0) → pointwise_sum ns (map f xs) ≡ ns
zeros-added f ns xs same each = sym (none-behind f ns xs 0 same (λ j d from below. each (get_or xs j d))) ∙ sum-none ns

pub sums-added : {X : Type 0} (f g h : X → ℕ) (xs : List X) → ((x : X) → h x ≡ f x + g x) → sum_by h xs ≡ sum_by f xs + sum_by g xs
sums-added f g h [] each = refl
sums-added f g h (x ∷ xs) each = grind (arith, sum_by-cons, sums-added f g h xs each)

pub sums-of-none : {X : Type 0} (f : X → ℕ) (xs : List X) → ((x : X) → f x ≡ 0) → sum_by f xs ≡ 0
sums-of-none f [] each = refl
sums-of-none f (x ∷ xs) each = omega (arith, sum_by-cons f x xs, each x, sums-of-none f xs each)

-- ---- one bucket more, one histogram more

pub range-more : (m : ℕ) → range_with_len 0 (m + 1) ≡ range_with_len 0 m ++ m ∷ []
range-more m =
    sym (map-id (range_with_len 0 (m + 1))) ∙ map-range_with_len_more (λ (i : ℕ). i) 0 m m (omega arith) ∙ ap (λ l. l ++ m ∷ []) (map-id (range_with_len 0 m))

pub buckets-more : (h : Hist) (m : ℕ) (s : Symbol) → share_of_buckets h (m + 1) s ≡ share_of_buckets h m s + share_of_bucket h m s
buckets-more h m s = grind (arith, range-more, sum_by_push)

pub hists-more : (hists : List Hist) (k : ℕ) (h : Hist) (s : Symbol) → k < length hists → h ≡ get_or hists k h → share_of (take (k + 1) hists) s ≡ share_of (take k hists) s + share_in_hist h s
hists-more hists k h s below is = grind (arith, sum_by_more)

-- ---- no grain goes to two symbols

-- of grains that rise to at most c, symbols in order have at most c together
shares-of-rise : (g : ℕ → ℕ) (c low : ℕ) (symbols : List Symbol) → ((x y : ℕ) → x ≤ y → g x ≤ g y) → ((x : ℕ) → g x ≤ c) → IsAscending symbols → ((d : Symbol) → 0 < length symbols → low ≤ (get_or symbols 0 d).addr) → sum_by (λ (s : Symbol). g s.end - g s.addr) symbols + g low ≤ c
shares-of-rise g c low [] rise most ascending from = omega (arith, most low)
shares-of-rise g c low (s ∷ symbols) rise most ascending from =
    let first = rise low s.addr (from s (omega arith)) in
    let each = rise s.addr s.end (let e = ascending.each 0 s (omega arith) in omega (arith, e)) in
    let rest = shares-of-rise g c s.end symbols rise most (ascending-tail s symbols ascending) (λ d some. ascending.apart 0 d (omega arith)) in
    omega (arith, first, each, rest, sum_by-cons (λ (s : Symbol). g s.end - g s.addr) s symbols)

pub bucket-within : (h : Hist) (i : ℕ) (symbols : List Symbol) → IsAscending symbols → sum_by (share_of_bucket h i) symbols ≤ get_or h.counters i 0 * 1000000
bucket-within h i symbols ascending =
    let all = shares-of-rise (grains_up_to h i) (get_or h.counters i 0 * 1000000) 0 symbols (λ x y le. grains-ascend h i x y le) (grains-within h i) ascending (λ d some. omega arith) in
    omega (arith, all)

pub buckets-within : (h : Hist) (m : ℕ) (symbols : List Symbol) → IsAscending symbols → m ≤ length h.counters → sum_by (share_of_buckets h m) symbols ≤ 1000000 * sum (take m h.counters)
buckets-within h zero symbols ascending le = let none = sums-of-none (share_of_buckets h 0) symbols (λ s. refl) in omega (arith, none)
buckets-within h (suc m) symbols ascending le =
    let one : m + 1 ≡ suc m = omega arith in
    let front = buckets-within h m symbols ascending (omega arith) in
    let shares = rw one at (sums-added (share_of_buckets h m) (share_of_bucket h m) (share_of_buckets h (m + 1)) symbols (buckets-more h m)) in
    let counts = rw one at (sum_by_more (λ (n : ℕ). n) h.counters m 0 (omega arith)) in
    omega (arith, front, bucket-within h m symbols ascending, shares, counts)

pub hist-within : (h : Hist) (symbols : List Symbol) → IsAscending symbols → sum_by (share_in_hist h) symbols ≤ 1000000 * sum h.counters
hist-within h symbols ascending =
    let whole = ap sum (take_all (length h.counters) h.counters (omega arith)) in
    omega (arith, buckets-within h (length h.counters) symbols ascending (omega arith), whole)

pub hists-within : (hists : List Hist) (symbols : List Symbol) → IsAscending symbols → sum_by (share_of hists) symbols ≤ 1000000 * samples_of hists
hists-within [] symbols ascending = let none = sums-of-none (share_of []) symbols (λ s. refl) in omega (arith, none)
hists-within (h ∷ hists) symbols ascending =
    let rest = hists-within hists symbols ascending in
    let shares = sums-added (share_in_hist h) (share_of hists) (share_of (h ∷ hists)) symbols (λ s. sum_by-cons (λ h. share_in_hist h s) h hists) in
    omega (arith, hist-within h symbols ascending, rest, shares, sum_by-cons (λ (h : Hist). sum h.counters) h hists)

-- what symbols get and what none gets is all
pub all-shared : (hists : List Hist) (symbols : List Symbol) → IsAscending symbols → attributed_of (shares_of hists symbols) + (shares_of hists symbols).outside ≡ 1000000 * samples_of hists
all-shared hists symbols ascending = grind (arith, hists-within, sum-map)
