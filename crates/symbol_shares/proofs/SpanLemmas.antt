-- Buckets that follow one another.
use Rattle.std.proofs.Common.{◌≡◌, ◌≢◌, ℕ, zero, suc, ◌+◌, ◌-◌, ◌*◌, ◌<◌, ◌≤◌, List, [], ◌∷◌, length, drop, get_or, map, set, take, sum, sym, ap, subst, ◌∙◌, ⊎_elim, arith}
use Rattle.std.specs.List.{All}
use Rattle.std.proofs.Math.Nat.{mul-le-mul_right}
use Rattle.std.proofs.lemmas.Bool.{cases_lt}
use Rattle.std.proofs.lemmas.List.{get_or-drop, get_or-take, length-drop, length-take}
use Rattle.std.proofs.lemmas.List.Sums.{get_or-le-sum_by, sum_by_more, sum_by-take-drop, sum-map}
use Rattle.elf32_syms.specs.declared.image.Symbol.{Symbol}
use Rattle.elf32_syms.specs.Owners.{IsAscending}
use Rattle.gmon_data.specs.declared.hist.Hist.{Hist}
use Rattle.gmon_data.specs.Hists.{IsKept, pointwise_sum}
use Rattle.gmon_data.proofs.CounterLemmas.{sum-none, sum-pointwise}
use Rattle.symbol_shares.specs.Parts.{IsInside}
use Rattle.symbol_shares.specs.Shares.{bucket_begin, share_of_bucket, share_of_buckets, share_between}
use Rattle.symbol_shares.proofs.BucketLemmas.{share-below, share-above}
use Rattle.symbol_shares.proofs.OrderLemmas.{ends-below}
use Rattle.symbol_shares.proofs.PartLemmas.{share-inside}
use Rattle.symbol_shares.proofs.SumLemmas.{added-twice, buckets-more, buckets-within, none-behind, zeros-added}

-- ---- numbers added to numbers

-- where all parts but one are 0, one number alone changes
pub one-added : {X : Type 0} (f : X → ℕ) (ns : List ℕ) (xs : List X) (k n : ℕ) → length ns ≡ length xs → k < length xs
    → ((j : ℕ) (d : X) → j < length xs → j ≢ k → f (get_or xs j d) ≡ 0) → ((d : X) → f (get_or xs k d) ≡ n)
    → set ns k (get_or ns k 0 + n) ≡ pointwise_sum ns (map f xs)
one-added f [] (x ∷ xs) k n same below others one = absurd cc
one-added f ns [] k n same below others one = absurd (omega arith)
one-added f (m ∷ ns) (x ∷ xs) zero n same below others one =
    let rest = none-behind f ns xs 0 (omega arith) (λ j d from low. others (suc j) d (omega arith) (λ e. omega arith)) in
    let head : m + n ≡ m + f x = omega (arith, one x) in
    ap (λ m. m ∷ ns) head ∙ ap (λ l. (m + f x) ∷ l) (sym (sum-none ns) ∙ rest)
one-added f (m ∷ ns) (x ∷ xs) (suc k) n same below others one =
    let none = others 0 x (omega arith) (λ e. omega arith) in
    let head : m ≡ m + f x = omega (arith, none) in
    let rest = one-added f ns xs k n (omega arith) (omega arith) (λ j d low apart. others (suc j) d (omega arith) (λ e. apart (omega arith))) one in
    ap (λ l. m ∷ l) rest ∙ ap (λ m. m ∷ pointwise_sum ns (map f xs)) head

-- ---- buckets that follow one another

pub begin-rises : (h : Hist) (i m : ℕ) → i ≤ m → bucket_begin h i ≤ bucket_begin h m
begin-rises h i m le = let product = mul-le-mul_right (h.high - h.low) le in omega (arith, product)

-- in a symbol as a whole they give it all of their samples
pub span-whole : (h : Hist) (i n : ℕ) (s : Symbol) → IsKept h → i + n ≤ length h.counters → ((m : ℕ) → i ≤ m → m < i + n → IsInside h m s)
    → share_of_buckets h (i + n) s ≡ share_of_buckets h i s + 1000000 * sum (take n (drop i h.counters))
span-whole h i zero s kept within whole = grind arith
span-whole h i (suc n) s kept within whole =
    let next : i + suc n ≡ i + n + 1 = omega arith in
    let one : n + 1 ≡ suc n = omega arith in
    let front = span-whole h i n s kept (omega arith) (λ m from below. whole m from (omega arith)) in
    let last = share-inside h (i + n) s kept (whole (i + n) (omega arith) (omega arith)) in
    let more = buckets-more h (i + n) s in
    let long = length-drop i h.counters in
    let counts = rw one at (sum_by_more (λ (n : ℕ). n) (drop i h.counters) n 0 (omega (arith, long, within))) in
    let at : get_or (drop i h.counters) n 0 ≡ get_or h.counters (i + n) 0 = get_or-drop i h.counters n 0 in
    ap (λ m. share_of_buckets h m s) next ∙ omega (arith, front, last, more, counts, at)

-- a symbol in which none of them lies gets nothing of them
pub span-none : (h : Hist) (i n : ℕ) (s : Symbol) → ((m : ℕ) → i ≤ m → m < i + n → share_of_bucket h m s ≡ 0) → share_of_buckets h (i + n) s ≡ share_of_buckets h i s
span-none h i zero s none = grind arith
span-none h i (suc n) s none =
    let next : i + suc n ≡ i + n + 1 = omega arith in
    let front = span-none h i n s (λ m from below. none m from (omega arith)) in
    let last = none (i + n) (omega arith) (omega arith) in
    let more = buckets-more h (i + n) s in
    ap (λ m. share_of_buckets h m s) next ∙ omega (arith, front, last, more)

pub buckets-rise : (h : Hist) (i n : ℕ) (s : Symbol) → share_of_buckets h i s ≤ share_of_buckets h (i + n) s
buckets-rise h i zero s = grind arith
buckets-rise h i (suc n) s =
    let next : i + suc n ≡ i + n + 1 = omega arith in
    let same = ap (λ m. share_of_buckets h m s) next in
    omega (arith, same, buckets-rise h i n s, buckets-more h (i + n) s)

pub between-added : (h : Hist) (i j : ℕ) (s : Symbol) → i ≤ j → share_of_buckets h j s ≡ share_of_buckets h i s + share_between h i j s
between-added h i j s le =
    let sum : i + (j - i) ≡ j = omega arith in
    let rise = rw sum at (buckets-rise h i (j - i) s) in
    omega (arith, rise)

pub spans-added : (h : Hist) (i j : ℕ) (symbols : List Symbol) (ns of new : List ℕ) → i ≤ j → of ≡ pointwise_sum ns (map (share_of_buckets h i) symbols)
    → new ≡ pointwise_sum of (map (share_between h i j) symbols) → new ≡ pointwise_sum ns (map (share_of_buckets h j) symbols)
spans-added h i j symbols ns of new le before added = grind (arith, added-twice, between-added)

pub bucket-added : (h : Hist) (i : ℕ) (symbols : List Symbol) (ns of new : List ℕ) → of ≡ pointwise_sum ns (map (share_of_buckets h i) symbols)
    → new ≡ pointwise_sum of (map (share_of_bucket h i) symbols) → new ≡ pointwise_sum ns (map (share_of_buckets h (i + 1)) symbols)
bucket-added h i symbols ns of new before added = grind (arith, added-twice, buckets-more)

-- no bucket gives nothing
pub nothing-between : (h : Hist) (i : ℕ) (symbols : List Symbol) (ns : List ℕ) → length ns ≡ length symbols → ns ≡ pointwise_sum ns (map (share_between h i i) symbols)
nothing-between h i symbols ns same = sym (zeros-added (share_between h i i) ns symbols same (λ s. omega arith))

-- ---- the buckets of one symbol

module _ (h : Hist) (i j k : ℕ) (symbols : List Symbol) (kept : IsKept h) (ascending : IsAscending symbols) (le : i ≤ j) (within : j ≤ length h.counters) (below : k < length symbols)
    (ended : All (λ (s : Symbol). s.end * length h.counters ≤ bucket_begin h i) (take k symbols)) (whole : (d : Symbol) (m : ℕ) → i ≤ m → m < j → IsInside h m (get_or symbols k d)) where
  span : i + (j - i) ≡ j
  span = omega arith

  own-part : (d : Symbol) → share_between h i j (get_or symbols k d) ≡ 1000000 * sum (take (j - i) (drop i h.counters))
  own-part d =
      let s = get_or symbols k d in
      let all = rw span at (span-whole h i (j - i) s kept (omega (arith, within, le)) (λ m from low. whole d m from (omega (arith, low, le)))) in
      omega (arith, all)

  -- no other symbol has a part of them
  other-part : (l : ℕ) (d : Symbol) → l < length symbols → l ≢ k → share_between h i j (get_or symbols l d) ≡ 0
  other-part l d low apart =
      let s = get_or symbols l d in
      let none = rw span at (span-none h i (j - i) s (λ m from less. nothing m from (omega (arith, less, le)))) in
      omega (arith, none)
    where
      nothing : (m : ℕ) → i ≤ m → m < j → share_of_bucket h m (get_or symbols l d) ≡ 0
      nothing m from less =
          ⊎_elim
          (λ (before : l < k).
          let at : get_or (take k symbols) l d ≡ get_or symbols l d = get_or-take k symbols l d before in
          let end : (get_or symbols l d).end * length h.counters ≤ bucket_begin h i = subst (λ (s : Symbol). s.end * length h.counters ≤ bucket_begin h i) at (ended l d (omega (arith, length-take k symbols, before, below))) in
          let rise = begin-rises h i m from in
          share-below h m (get_or symbols l d) (ascending.each l d low) (omega (arith, end, rise)))
          (λ (behind : k ≤ l).
          let end = (whole d m from less).to in
          let later = mul-le-mul_right (length h.counters) (ends-below symbols ascending k l d (omega (arith, behind, apart)) low) in
          share-above h m (get_or symbols l d) (ascending.each l d low) kept.range (omega (arith, end, later)))
          (cases_lt l k)

  pub whole-added : (of : List ℕ) (n : ℕ) → length of ≡ length symbols → n ≡ 1000000 * sum (take (j - i) (drop i h.counters))
      → set of k (get_or of k 0 + n) ≡ pointwise_sum of (map (share_between h i j) symbols)
  whole-added of n same is = one-added (share_between h i j) of symbols k n same below other-part (λ d. own-part d ∙ sym is)

pub span-within : (counters : List ℕ) (i n : ℕ) → sum (take n (drop i counters)) ≤ sum (drop i counters)
span-within counters i n = let parts = sum_by-take-drop (λ (n : ℕ). n) (drop i counters) n in omega (arith, parts)

pub span-fits : (counters of : List ℕ) (i k n most : ℕ) → k < length of → sum of + 1000000 * sum (drop i counters) < most → get_or of k 0 + 1000000 * sum (take n (drop i counters)) < most
span-fits counters of i k n most below fits = grind (arith, get_or-le-sum_by, span-within)

-- what is left of a histogram fits, where all of it did
pub left-fits : (h : Hist) (i : ℕ) (symbols : List Symbol) (ns of : List ℕ) (most : ℕ) → h.low < h.high → IsAscending symbols → i ≤ length h.counters → of ≡ pointwise_sum ns (map (share_of_buckets h i) symbols)
    → sum ns + 1000000 * sum h.counters < most → sum of + 1000000 * sum (drop i h.counters) < most
left-fits h i symbols ns of most range ascending within added fits = grind (arith, sum-pointwise, sum-map, buckets-within, sum_by-take-drop)
