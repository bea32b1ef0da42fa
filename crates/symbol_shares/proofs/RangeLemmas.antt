-- What a range of addresses gets: nothing of buckets that it doesn't touch.
use Rattle.std.proofs.Common.{◌≡◌, ℕ, zero, suc, ◌+◌, ◌-◌, ◌*◌, ◌<◌, ◌≤◌, List, [], ◌∷◌, length, take, sum, get_or, Some, slice_get, refl, sym, ap, ◌∙◌, arith, ⊎_elim}
use Rattle.std.specs.List.{AllByRecursion}
use Rattle.std.proofs.Math.Nat.{mul-le-mul_right}
use Rattle.std.proofs.lemmas.Bool.{cases_lt}
use Rattle.std.proofs.lemmas.List.{take_all}
use Rattle.std.proofs.lemmas.Option.{slice_get_within}
use Rattle.std.proofs.lemmas.List.Sums.{sum_by-cons, sum_by_more, sum_by_push, sum_by_more_le, get_or-le-sum_by}
use Rattle.gmon_data.specs.declared.hist.Hist.{Hist}
use Rattle.gmon_data.specs.Hists.{IsApart, IsKept, samples_of}
use Rattle.symbol_shares.specs.Shares.{bucket_begin}
use Rattle.symbol_shares.specs.Ranges.{grains_of_bucket, grains_of_buckets, grains_in_hist, grains_of_range}
use Rattle.symbol_shares.proofs.BucketLemmas.{grains-none, grains-all, grains-ascend, grains-within}
use Rattle.symbol_shares.proofs.SumLemmas.{range-more, sums-added}
use Rattle.symbol_shares.proofs.WalkLemmas.{at-place}

-- ---- a bucket

-- one that ends at or below the range gives nothing
pub ended-bucket : (h : Hist) (low high i : ℕ) → h.low < h.high → low ≤ high → bucket_begin h (i + 1) ≤ low * length h.counters → grains_of_bucket h low high i ≡ 0
ended-bucket h low high i range order le = grind (arith, grains-all)

-- and one that begins at or above its end
pub later-bucket : (h : Hist) (low high i : ℕ) → high * length h.counters ≤ bucket_begin h i → grains_of_bucket h low high i ≡ 0
later-bucket h low high i le = grind (arith, grains-none)

pub bucket-most : (h : Hist) (low high i : ℕ) → grains_of_bucket h low high i ≤ get_or h.counters i 0 * 1000000
bucket-most h low high i = let e = grains-within h i high in omega (arith, e)

-- ---- the first buckets

pub one-more : (h : Hist) (low high m : ℕ) → grains_of_buckets h low high (m + 1) ≡ grains_of_buckets h low high m + grains_of_bucket h low high m
one-more h low high m = grind (arith, range-more, sum_by_push)

pub buckets-most : (h : Hist) (low high m : ℕ) → m ≤ length h.counters → grains_of_buckets h low high m ≤ 1000000 * sum (take m h.counters)
buckets-most h low high zero le = omega arith
buckets-most h low high (suc m) le =
    let one : m + 1 ≡ suc m = omega arith in
    let front = buckets-most h low high m (omega arith) in
    let grains = rw one at (one-more h low high m) in
    let counts = rw one at (sum_by_more (λ (n : ℕ). n) h.counters m 0 (omega arith)) in
    omega (arith, front, bucket-most h low high m, grains, counts)

-- buckets that give nothing
pub idle-buckets : (h : Hist) (low high a n : ℕ) → ((i : ℕ) → a ≤ i → i < a + n → grains_of_bucket h low high i ≡ 0) → grains_of_buckets h low high (a + n) ≡ grains_of_buckets h low high a
idle-buckets h low high a zero idle = let none : a + 0 ≡ a = omega arith in ap (grains_of_buckets h low high) none
idle-buckets h low high a (suc n) idle =
    let next : a + suc n ≡ a + n + 1 = omega arith in
    let front = idle-buckets h low high a n (λ i from below. idle i from (omega (arith, below))) in
    let last = idle (a + n) (omega arith) (omega arith) in
    let more = one-more h low high (a + n) in
    ap (grains_of_buckets h low high) next ∙ omega (arith, front, last, more)

-- those before the one in which the range begins give nothing
pub first-buckets : (h : Hist) (low high m : ℕ) → h.low < h.high → low ≤ high → m * (h.high - h.low) ≤ (low - h.low) * length h.counters → grains_of_buckets h low high m ≡ 0
first-buckets h low high m range order begin =
    let all : 0 + m ≡ m = omega arith in
    rw all at (idle-buckets h low high 0 m (λ i from below. ended-bucket h low high i range order (ended i (omega (arith, below)))))
  where
    ended : (i : ℕ) → i < m → bucket_begin h (i + 1) ≤ low * length h.counters
    ended i below =
        let w : 1 ≤ h.high - h.low = omega (arith, range) in
        let rows : (i + 1) * (h.high - h.low) ≤ m * (h.high - h.low) = mul-le-mul_right (h.high - h.low) (let le : i + 1 ≤ m = omega (arith, below) in le) in
        let some : 1 * (h.high - h.low) ≤ (i + 1) * (h.high - h.low) = mul-le-mul_right (h.high - h.low) (let le : 1 ≤ i + 1 = omega arith in le) in
        ⊎_elim
        (λ (above : h.low < low).
        let split : low * length h.counters ≡ (h.low + (low - h.low)) * length h.counters = ap (λ x. x * length h.counters) (let e : low ≡ h.low + (low - h.low) = omega (arith, above) in e) in
        let g : bucket_begin h (i + 1) ≤ low * length h.counters = omega (arith, rows, begin, split) in g)
        (λ (under : low ≤ h.low).
        let none : (low - h.low) * length h.counters ≡ 0 * length h.counters = ap (λ x. x * length h.counters) (let e : low - h.low ≡ 0 = omega (arith, under) in e) in
        absurd (omega (arith, w, rows, some, begin, none)))
        (cases_lt h.low low)

-- those from the range's end on give nothing
pub last-buckets : (h : Hist) (low high m : ℕ) → m ≤ length h.counters → high * length h.counters ≤ bucket_begin h m → grains_in_hist low high h ≡ grains_of_buckets h low high m
last-buckets h low high m le begin =
    let all : m + (length h.counters - m) ≡ length h.counters = omega (arith, le) in
    rw all at (idle-buckets h low high m (length h.counters - m) (λ i from below. later-bucket h low high i (later i from)))
  where
    later : (i : ℕ) → m ≤ i → high * length h.counters ≤ bucket_begin h i
    later i from = let rows = mul-le-mul_right (h.high - h.low) from in omega (arith, rows, begin)

pub buckets-fit : (h : Hist) (low high i most : ℕ) → i < length h.counters → 1000000 * sum h.counters < most → grains_of_buckets h low high i + grains_of_bucket h low high i < most
buckets-fit h low high i most below fits = grind (arith, buckets-most, bucket-most, sum_by_more_le)

-- ---- a histogram

pub hist-most : (h : Hist) (low high : ℕ) → grains_in_hist low high h ≤ 1000000 * sum h.counters
hist-most h low high = grind (arith, buckets-most, take_all)

-- one that ends at or below the range gives nothing
ended-hist : (h : Hist) (low high : ℕ) → h.low < h.high → low ≤ high → h.high ≤ low → grains_in_hist low high h ≡ 0
ended-hist h low high range order le = grind (arith, first-buckets)

-- and one that begins at or above its end
later-hist : (h : Hist) (low high : ℕ) → high ≤ h.low → grains_in_hist low high h ≡ 0
later-hist h low high le =
    let rows = mul-le-mul_right (length h.counters) le in
    last-buckets h low high 0 (omega arith) (omega (arith, rows))

-- ---- all histograms

pub ended-hists : (hists : List Hist) (low high k : ℕ) → AllByRecursion IsKept hists → low ≤ high → ((j : ℕ) (d : Hist) → j < k → j < length hists → (get_or hists j d).high ≤ low) → grains_of_range (take k hists) low high ≡ 0
ended-hists hists low high zero kept order ended = refl
ended-hists [] low high (suc k) kept order ended = refl
ended-hists (h ∷ hists) low high (suc k) kept order ended =
    let first = ended-hist h low high kept.0.range order (ended 0 h (omega arith) (omega arith)) in
    let rest = ended-hists hists low high k kept.1 order (λ j d below inside. ended (suc j) d (omega (arith, below)) (omega (arith, inside))) in
    omega (arith, first, rest, sum_by-cons (grains_in_hist low high) h (take k hists))

later-hists : (hists : List Hist) (low high : ℕ) → AllByRecursion (λ (h : Hist). high ≤ h.low) hists → grains_of_range hists low high ≡ 0
later-hists [] low high later = refl
later-hists (h ∷ hists) low high later = search (later-hist, sum_by-cons, later-hists hists low high later.1)

later-from : (n high : ℕ) (hists : List Hist) → high ≤ n → AllByRecursion (λ (h : Hist). n ≤ h.low) hists → AllByRecursion (λ (h : Hist). high ≤ h.low) hists
later-from n high [] le later = tt
later-from n high (h ∷ hists) le later = (omega (arith, le, later.0), later-from n high hists le later.1)

-- histograms from one on that begins at or above the range's end
pub last-hists : (hists : List Hist) (low high k : ℕ) (h : Hist) → AllByRecursion IsKept hists → IsApart hists → slice_get hists k ≡ Some h → high ≤ h.low → grains_of_range hists low high ≡ grains_of_range (take k hists) low high
last-hists [] low high k h kept apart at le = absurd cc
last-hists (g ∷ hists) low high zero h kept apart at le =
    let same : h.low ≡ g.low = ap (λ (h : Hist). h.low) (at-place (g ∷ hists) 0 h at) in
    let first : high ≤ g.low = omega (arith, same, le) in
    let above : high ≤ g.high = let r = kept.0.range in omega (arith, first, r) in
    later-hists (g ∷ hists) low high (first, later-from g.high high hists above apart.0)
last-hists (g ∷ hists) low high (suc k) h kept apart at le = search (sum_by-cons, last-hists hists low high k h kept.1 apart.1 at le)

pub hist-more : (hists : List Hist) (low high k : ℕ) (h : Hist) → slice_get hists k ≡ Some h → k < length hists → grains_of_range (take (k + 1) hists) low high ≡ grains_of_range (take k hists) low high + grains_in_hist low high h
hist-more hists low high k h at below =
    sum_by_more (grains_in_hist low high) hists k h below ∙ ap (λ (g : Hist). grains_of_range (take k hists) low high + grains_in_hist low high g) (sym (at-place hists k h at))

pub range-most : (hists : List Hist) (low high : ℕ) → grains_of_range hists low high ≤ 1000000 * samples_of hists
range-most [] low high = omega arith
range-most (h ∷ hists) low high =
    omega (arith, hist-most h low high, range-most hists low high, sum_by-cons (grains_in_hist low high) h hists, sum_by-cons (λ (h : Hist). sum h.counters) h hists)

pub front-most : (hists : List Hist) (low high k : ℕ) → grains_of_range (take k hists) low high ≤ grains_of_range hists low high
front-most [] low high zero = omega arith
front-most [] low high (suc k) = omega arith
front-most (h ∷ hists) low high zero = omega arith
front-most (h ∷ hists) low high (suc k) =
    omega (arith, front-most hists low high k, sum_by-cons (grains_in_hist low high) h hists, sum_by-cons (grains_in_hist low high) h (take k hists))

pub hist-samples : (hists : List Hist) (k : ℕ) (h : Hist) → slice_get hists k ≡ Some h → sum h.counters ≤ samples_of hists
hist-samples hists k h at =
    let same : sum h.counters ≡ sum (get_or hists k h).counters = ap (λ (h : Hist). sum h.counters) (at-place hists k h at) in
    omega (arith, get_or-le-sum_by (λ (h : Hist). sum h.counters) hists k h (slice_get_within hists k h at), same)

-- ---- ranges that follow one another

hist-follows : (a b c : ℕ) (h : Hist) → a ≤ b → b ≤ c → grains_in_hist a c h ≡ grains_in_hist a b h + grains_in_hist b c h
hist-follows a b c h ab bc = grind (arith, sums-added, grains-ascend)

pub ranges-follow : (hists : List Hist) (a b c : ℕ) → a ≤ b → b ≤ c → grains_of_range hists a b + grains_of_range hists b c ≡ grains_of_range hists a c
ranges-follow [] a b c ab bc = refl
ranges-follow (h ∷ hists) a b c ab bc =
    omega (arith, hist-follows a b c h ab bc, ranges-follow hists a b c ab bc, sum_by-cons (grains_in_hist a b) h hists, sum_by-cons (grains_in_hist b c) h hists, sum_by-cons (grains_in_hist a c) h hists)
