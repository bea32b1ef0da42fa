-- Symbols that cover a range have all of its samples.
use Rattle.std.proofs.Common.{◌≡◌, ℕ, zero, suc, ◌+◌, ◌-◌, ◌*◌, ◌<◌, ◌≤◌, Bool, true, false, ◌||◌, List, [], ◌∷◌, length, take, sum, get_or, refl, sym, ap, ◌∙◌, true≢false, ⊎_elim, arith}
use Rattle.std.specs.List.{AllByRecursion, list_any, sum_by}
use Rattle.std.proofs.Math.Nat.{mul-le-mul_right}
use Rattle.std.proofs.lemmas.Bool.{cases_lt}
use Rattle.std.proofs.lemmas.Bool.Decides.{nat_tests}
use Rattle.std.proofs.lemmas.List.{take_all}
use Rattle.std.proofs.lemmas.List.Sums.{sum_by-cons, sum_by_more, sum-map}
use Rattle.gmon_data.specs.declared.hist.Hist.{Hist}
use Rattle.gmon_data.specs.Hists.{IsKept, samples_of}
use Rattle.elf32_syms.specs.declared.image.Symbol.{Symbol}
use Rattle.elf32_syms.specs.Owners.{IsAscending, owns}
use Rattle.symbol_shares.specs.Shares.{attributed_of, grains_up_to, share_of_bucket, share_of_buckets, share_in_hist, share_of, shares_of}
use Rattle.symbol_shares.specs.Parts.{IsCovered}
use Rattle.symbol_shares.proofs.BucketLemmas.{grains-none, grains-all, grains-rise}
use Rattle.symbol_shares.proofs.OrderLemmas.{ascending-tail}
use Rattle.symbol_shares.proofs.SumLemmas.{bucket-within, buckets-more, sums-added, sums-of-none}

-- ---- owners

-- all from some place on
abbrev AreFrom : ℕ → List Symbol → Type 0
AreFrom low symbols = AllByRecursion (λ (s : Symbol). low ≤ s.addr) symbols

owned-from : (low x : ℕ) (symbols : List Symbol) → AreFrom low symbols → list_any (owns x) symbols ≡ true → low ≤ x
owned-from low x [] from owned = absurd (true≢false (sym owned))
owned-from low x (s ∷ symbols) from owned = by (owns x s) refl (λ rest. owned-from low x symbols from.1 rest)
  where
    by : (b : Bool) → owns x s ≡ b → (list_any (owns x) symbols ≡ true → low ≤ x) → low ≤ x
    by true is rest = let first = from.0 in grind (arith, nat_tests)
    by false is rest = rest (sym (ap (λ b. b || list_any (owns x) symbols) is) ∙ owned)

-- an address at or above the first symbol's end lies in one behind it
owned-behind : (x : ℕ) (s : Symbol) (symbols : List Symbol) → s.end ≤ x → list_any (owns x) (s ∷ symbols) ≡ true → list_any (owns x) symbols ≡ true
owned-behind x s symbols above owned = by (owns x s) refl
  where
    by : (b : Bool) → owns x s ≡ b → list_any (owns x) symbols ≡ true
    by true is = absurd (let inside : x < s.end = grind (arith, nat_tests) in omega (arith, inside, above))
    by false is = sym (ap (λ b. b || list_any (owns x) symbols) is) ∙ owned

-- one below it lies in the first
owned-first : (x : ℕ) (s : Symbol) (symbols : List Symbol) → AreFrom s.end symbols → x < s.end → list_any (owns x) (s ∷ symbols) ≡ true → s.addr ≤ x
owned-first x s symbols from below owned = by (owns x s) refl
  where
    by : (b : Bool) → owns x s ≡ b → s.addr ≤ x
    by true is = grind (arith, nat_tests)
    by false is = grind (arith, owned-from)

behind-from : (low : ℕ) (symbols : List Symbol) → IsAscending symbols → ((d : Symbol) → 0 < length symbols → low ≤ (get_or symbols 0 d).addr) → AreFrom low symbols
behind-from low [] ascending from = tt
behind-from low (s ∷ symbols) ascending from = (
  from s (omega arith),
  behind-from low symbols (ascending-tail s symbols ascending) (λ d some.
      let first = from s (omega arith) in
      let each = ascending.each 0 s (omega arith) in
      let next = ascending.apart 0 d (omega arith) in
      omega (arith, first, each, next)),
)

-- ---- what is covered is shared out

covered-rise : (g : ℕ → ℕ) (low high : ℕ) (symbols : List Symbol) → ((x y : ℕ) → x ≤ y → g x ≤ g y) → IsAscending symbols → ((x : ℕ) → low ≤ x → x < high → list_any (owns x) symbols ≡ true)
    → g high ≤ g low + sum_by (λ (s : Symbol). g s.end - g s.addr) symbols
covered-rise g low high [] rise ascending covered = ⊎_elim
    (λ (some : low < high). absurd (true≢false (sym (covered low (omega arith) some))))
    (λ (none : high ≤ low). let r = rise high low none in let e : g high ≤ g low + 0 = omega (arith, r) in e)
    (cases_lt low high)
covered-rise g low high (s ∷ symbols) rise ascending covered =
    by (λ from owned. covered-rise g from high symbols rise tail owned)
  where
    tail : IsAscending symbols
    tail = ascending-tail s symbols ascending

    each : s.addr < s.end
    each = ascending.each 0 s (omega arith)

    cons : sum_by (λ (s : Symbol). g s.end - g s.addr) (s ∷ symbols) ≡ (g s.end - g s.addr) + sum_by (λ (s : Symbol). g s.end - g s.addr) symbols
    cons = sum_by-cons (λ (s : Symbol). g s.end - g s.addr) s symbols

    by : ((from : ℕ) → ((x : ℕ) → from ≤ x → x < high → list_any (owns x) symbols ≡ true) → g high ≤ g from + sum_by (λ (s : Symbol). g s.end - g s.addr) symbols)
        → g high ≤ g low + sum_by (λ (s : Symbol). g s.end - g s.addr) (s ∷ symbols)
    by rest = ⊎_elim
        (λ (inside : low < s.end). ⊎_elim
        (λ (some : low < high).
        let behind = behind-from s.end symbols tail (λ d some. ascending.apart 0 d (omega (arith, some))) in
        let first = owned-first low s symbols behind inside (covered low (omega arith) some) in
        let before = rise s.addr low first in
        let within = rise s.addr s.end (omega (arith, each)) in
        let after = rest s.end (λ x from below. owned-behind x s symbols from (covered x (omega (arith, inside, from)) below)) in
        let all : g high ≤ g low + sum_by (λ (s : Symbol). g s.end - g s.addr) (s ∷ symbols) = omega (arith, cons, before, within, after) in
        all)
        (λ (none : high ≤ low).
        let before = rise high low none in
        let all : g high ≤ g low + sum_by (λ (s : Symbol). g s.end - g s.addr) (s ∷ symbols) = omega (arith, before) in
        all)
        (cases_lt low high))
        (λ (passed : s.end ≤ low).
        let after = rest low (λ x from below. owned-behind x s symbols (omega (arith, passed, from)) (covered x from below)) in
        let all : g high ≤ g low + sum_by (λ (s : Symbol). g s.end - g s.addr) (s ∷ symbols) = omega (arith, cons, after) in
        all)
        (cases_lt low s.end)

bucket-covered : (h : Hist) (i : ℕ) (symbols : List Symbol) → IsKept h → IsAscending symbols → IsCovered symbols h → i < length h.counters → sum_by (share_of_bucket h i) symbols ≡ get_or h.counters i 0 * 1000000
bucket-covered h i symbols kept ascending covered below =
    let most = bucket-within h i symbols ascending in
    let least = covered-rise (grains_up_to h i) h.low h.high symbols (λ x y le. grains-rise h i x y kept.range le) ascending covered in
    let none = grains-none h i h.low (omega arith) in
    let place : h.high ≡ h.low + (h.high - h.low) = let r = kept.range in omega (arith, r) in
    let product : h.high * length h.counters ≡ (h.low + (h.high - h.low)) * length h.counters = ap (λ x. x * length h.counters) place in
    let rows = mul-le-mul_right (h.high - h.low) below in
    let all = grains-all h i h.high kept.range (omega (arith, product, rows)) in
    omega (arith, most, least, none, all)

buckets-covered : (h : Hist) (m : ℕ) (symbols : List Symbol) → IsKept h → IsAscending symbols → IsCovered symbols h → m ≤ length h.counters → sum_by (share_of_buckets h m) symbols ≡ 1000000 * sum (take m h.counters)
buckets-covered h zero symbols kept ascending covered le = let none = sums-of-none (share_of_buckets h 0) symbols (λ s. refl) in omega (arith, none)
buckets-covered h (suc m) symbols kept ascending covered le =
    let one : m + 1 ≡ suc m = omega arith in
    let front = buckets-covered h m symbols kept ascending covered (omega arith) in
    let shares = rw one at (sums-added (share_of_buckets h m) (share_of_bucket h m) (share_of_buckets h (m + 1)) symbols (buckets-more h m)) in
    let counts = rw one at (sum_by_more (λ (n : ℕ). n) h.counters m 0 (omega arith)) in
    omega (arith, front, bucket-covered h m symbols kept ascending covered (omega arith), shares, counts)

hist-covered : (h : Hist) (symbols : List Symbol) → IsKept h → IsAscending symbols → IsCovered symbols h → sum_by (share_in_hist h) symbols ≡ 1000000 * sum h.counters
hist-covered h symbols kept ascending covered =
    let whole = ap sum (take_all (length h.counters) h.counters (omega arith)) in
    omega (arith, buckets-covered h (length h.counters) symbols kept ascending covered (omega arith), whole)

hists-covered : (hists : List Hist) (symbols : List Symbol) → AllByRecursion IsKept hists → IsAscending symbols → AllByRecursion (IsCovered symbols) hists → sum_by (share_of hists) symbols ≡ 1000000 * samples_of hists
hists-covered [] symbols kept ascending covered = let none = sums-of-none (share_of []) symbols (λ s. refl) in omega (arith, none)
hists-covered (h ∷ hists) symbols kept ascending covered =
    let rest = hists-covered hists symbols kept.1 ascending covered.1 in
    let shares = sums-added (share_in_hist h) (share_of hists) (share_of (h ∷ hists)) symbols (λ s. sum_by-cons (λ h. share_in_hist h s) h hists) in
    omega (arith, hist-covered h symbols kept.0 ascending covered.0, rest, shares, sum_by-cons (λ (h : Hist). sum h.counters) h hists)

pub covered-attributed : (hists : List Hist) (symbols : List Symbol) → AllByRecursion IsKept hists → IsAscending symbols → AllByRecursion (IsCovered symbols) hists → attributed_of (shares_of hists symbols) ≡ 1000000 * samples_of hists
covered-attributed hists symbols kept ascending covered = sum-map (share_of hists) symbols ∙ hists-covered hists symbols kept ascending covered

pub covered-outside : (hists : List Hist) (symbols : List Symbol) → AllByRecursion IsKept hists → IsAscending symbols → AllByRecursion (IsCovered symbols) hists → (shares_of hists symbols).outside ≡ 0
covered-outside hists symbols kept ascending covered = grind (arith, covered-attributed)
