-- One bucket's walk over the symbols.
use Rattle.std.proofs.Common.{◌≡◌, ℕ, ◌+◌, ◌*◌, ◌<◌, ◌≤◌, List, ◌++◌, Some, slice_get, length, drop, get_or, map, set, take, sum, sym, ap, ◌∙◌, subst, arith}
use Rattle.std.specs.List.{All, sum_by}
use Rattle.std.proofs.Math.Nat.{mul-le-mul_right, le_of_mul-le-mul_left}
use Rattle.std.proofs.lemmas.List.{get_or-map, length-map, get_or_read, take_at}
use Rattle.std.proofs.lemmas.List.Sums.{get_or-le-sum_by, sum-map, sum_by_more_le}
use Rattle.std.proofs.lemmas.List.Elements.{All-take, All-more}
use Rattle.std.proofs.lemmas.Option.{slice_get-get_or, slice_get_within}
use Rattle.elf32_syms.specs.declared.image.Symbol.{Symbol}
use Rattle.elf32_syms.specs.Owners.{IsAscending}
use Rattle.gmon_data.specs.declared.hist.Hist.{Hist}
use Rattle.gmon_data.specs.Hists.{IsApart, pointwise_sum, samples_of}
use Rattle.gmon_data.proofs.CounterLemmas.{pointwise-at, pointwise-set, sum-pointwise}
use Rattle.symbol_shares.specs.Shares.{bucket_begin, share_of_bucket, share_of_buckets, share_in_hist, share_of}
use Rattle.symbol_shares.proofs.BucketLemmas.{share-below, share-above, share-within}
use Rattle.symbol_shares.proofs.OrderLemmas.{ends-below, hists-apart}
use Rattle.symbol_shares.proofs.SumLemmas.{none-in-front, none-behind, maps-added, buckets-within, hists-within, hists-more}

-- the first k symbols end at or below a place, in units of an address over n
abbrev pub HaveEnded : List Symbol → ℕ → ℕ → ℕ → Type 0
HaveEnded symbols k n place = All (λ (s : Symbol). s.end * n ≤ place) (take k symbols)

-- ---- one bucket

module _ (h : Hist) (i : ℕ) (symbols : List Symbol) (ns : List ℕ) (same : length ns ≡ length symbols) (ascending : IsAscending symbols) (range : h.low < h.high) where
  pub begun-added : (k : ℕ) → HaveEnded symbols k (length h.counters) (bucket_begin h i) → ns ≡ pointwise_sum ns (take k (map (share_of_bucket h i) symbols))
  begun-added k ended =
      sym (none-in-front (share_of_bucket h i) ns symbols k same (λ j d below.
      share-below h i (get_or (take k symbols) j d) (All-take (λ (s : Symbol). s.addr < s.end) k symbols ascending.each j d below) (ended j d below)))

  pub more-added : (k n : ℕ) (s : Symbol) (of : List ℕ) → k < length symbols → s ≡ get_or symbols k s → of ≡ pointwise_sum ns (take k (map (share_of_bucket h i) symbols)) → n ≡ share_of_bucket h i s
      → set of k (get_or of k 0 + n) ≡ pointwise_sum ns (take (k + 1) (map (share_of_bucket h i) symbols))
  more-added k n s of below is added share = grind (arith, length-map, pointwise-at, get_or-map, pointwise-set)

  -- the walk may stop at a symbol that ends above the bucket
  pub ended-added : (k : ℕ) (s : Symbol) → k < length symbols → s ≡ get_or symbols k s → bucket_begin h (i + 1) < s.end * length h.counters
      → pointwise_sum ns (take (k + 1) (map (share_of_bucket h i) symbols)) ≡ pointwise_sum ns (map (share_of_bucket h i) symbols)
  ended-added k s below is above =
      none-behind (share_of_bucket h i) ns symbols (k + 1) same (λ j d from within.
      let before = ends-below symbols ascending k j d (omega (arith, from)) within in
      let here : s.end ≡ (get_or symbols k d).end = ap (λ (s : Symbol). s.end) (get_or_read symbols k s below is d) in
      let rise : s.end ≤ (get_or symbols j d).addr = omega (arith, before, here) in
      let product = mul-le-mul_right (length h.counters) rise in
      share-above h i (get_or symbols j d) (ascending.each j d within) range (omega (arith, product, above)))

pub fits-more : (h : Hist) (i k n : ℕ) (s : Symbol) (parts ns of : List ℕ) (most : ℕ) → k < length ns → of ≡ pointwise_sum ns (take k parts) → n ≡ share_of_bucket h i s → sum ns + 1000000 * get_or h.counters i 0 < most → get_or of k 0 + n < most
fits-more h i k n s parts ns of most below added share fits = grind (arith, pointwise-at, get_or-le-sum_by, share-within)

pub ended-more : (symbols : List Symbol) (k n place : ℕ) (s : Symbol) → k < length symbols → s ≡ get_or symbols k s → HaveEnded symbols k n place → s.end * n ≤ place → HaveEnded symbols (k + 1) n place
ended-more symbols k n place s below is ended here =
    let P = λ (s : Symbol). s.end * n ≤ place in
    All-more P symbols k s below ended (subst P is here)

pub ended-later : (symbols : List Symbol) (k n place later : ℕ) → place ≤ later → HaveEnded symbols k n place → HaveEnded symbols k n later
ended-later symbols k n place later rise ended j d below = omega (arith, ended j d below, rise)

-- ---- one histogram

pub hist-ended : (h : Hist) (symbols : List Symbol) (k n : ℕ) → h.low < h.high → 0 < length h.counters → n ≡ length h.counters → HaveEnded symbols k (length h.counters) (bucket_begin h n) → All (λ (s : Symbol). s.end ≤ h.high) (take k symbols)
hist-ended h symbols k n range some is ended j d below = grind (arith, le_of_mul-le-mul_left)

pub bucket-fits : (h : Hist) (i : ℕ) (symbols : List Symbol) (ns of : List ℕ) (most : ℕ) → h.low < h.high → IsAscending symbols → i < length h.counters → of ≡ pointwise_sum ns (map (share_of_buckets h i) symbols)
    → sum ns + 1000000 * sum h.counters < most → sum of + 1000000 * get_or h.counters i 0 < most
bucket-fits h i symbols ns of most range ascending below added fits = grind (arith, sum-pointwise, sum-map, buckets-within, sum_by_more_le)

-- ---- all histograms

pub at-place : (hists : List Hist) (k : ℕ) (h : Hist) → slice_get hists k ≡ Some h → h ≡ get_or hists k h
at-place hists k h at = grind (arith, slice_get-get_or, slice_get_within)

pub hist-few : (hists : List Hist) (k most : ℕ) (h : Hist) → slice_get hists k ≡ Some h → sum_by (λ (h : Hist). length h.counters) hists < most → length h.counters < most
hist-few hists k most h at few =
    let same : length h.counters ≡ length (get_or hists k h).counters = ap (λ (h : Hist). length h.counters) (at-place hists k h at) in
    omega (arith, get_or-le-sum_by (λ (h : Hist). length h.counters) hists k h (slice_get_within hists k h at), same, few)

pub hist-fits : (hists : List Hist) (k : ℕ) (h : Hist) (symbols : List Symbol) (of : List ℕ) → IsAscending symbols → slice_get hists k ≡ Some h → of ≡ map (share_of (take k hists)) symbols → sum of + 1000000 * sum h.counters ≤ 1000000 * samples_of hists
hist-fits hists k h symbols of ascending at added =
    let below = slice_get_within hists k h at in
    let total : sum of ≡ sum_by (share_of (take k hists)) symbols = ap sum added ∙ sum-map (share_of (take k hists)) symbols in
    let same : sum h.counters ≡ sum (get_or hists k h).counters = ap (λ (h : Hist). sum h.counters) (at-place hists k h at) in
    omega (arith, total, hists-within (take k hists) symbols ascending, sum_by_more_le (λ (h : Hist). sum h.counters) hists k h below, same)

-- the shares of one histogram more
pub hist-added : (hists : List Hist) (k : ℕ) (h : Hist) (symbols : List Symbol) (of new : List ℕ) → slice_get hists k ≡ Some h → of ≡ map (share_of (take k hists)) symbols → new ≡ pointwise_sum of (map (share_in_hist h) symbols) → new ≡ map (share_of (take (k + 1) hists)) symbols
hist-added hists k h symbols of new at added more = grind (arith, maps-added, hists-more, slice_get_within, at-place)

-- the symbols before the next histogram
pub hist-passed : (hists : List Hist) (symbols : List Symbol) (i j k : ℕ) (h next : Hist) → IsApart hists → i < j → slice_get hists i ≡ Some h → slice_get hists j ≡ Some next → All (λ (s : Symbol). s.end ≤ h.high) (take k symbols) → All (λ (s : Symbol). s.end ≤ next.low) (take k symbols)
hist-passed hists symbols i j k h next apart less at at' ended m d below = grind (arith, hists-apart)

-- the whole of a vector is written back
pub written-back : (new items : List ℕ) (n : ℕ) → length new ≡ n → take n (new ++ drop (length new) items) ≡ new
written-back new items n long = take_at new (drop (length new) items) n long
