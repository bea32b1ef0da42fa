-- How the samples of histograms are shared among symbols, in grains: a sample is 1,000,000 grains.
use Rattle.std.specs.Prelude.{ℕ, ◌+◌, ◌-◌, ◌*◌, ◌/◌, min, List, length, map, sum, slice_index}
use Rattle.std.specs.List.{sum_by, range_with_len}
use Rattle.gmon_data.specs.declared.hist.Hist.{Hist}
use Rattle.gmon_data.specs.Hists.{samples_of}
use Rattle.elf32_syms.specs.declared.image.Symbol.{Symbol}

-- where bucket i begins, in units of an address over the number of counters, which make it a whole number
abbrev pub bucket_begin : Hist → ℕ → ℕ
bucket_begin h i = h.low * length h.counters + i * (h.high - h.low)

-- how far the address x lies in bucket i, in the same units; an address outside is moved to the nearest bound
abbrev pub place_in_bucket : Hist → ℕ → ℕ → ℕ
place_in_bucket h i x = min (h.high - h.low) (x * length h.counters - bucket_begin h i)

-- the grains of bucket i up to the address x: they are spread evenly over the bucket, and rounded down
unfoldable pub grains_up_to : Hist → ℕ → ℕ → ℕ
grains_up_to h i x = slice_index h.counters i * 1000000 * place_in_bucket h i x / (h.high - h.low)

-- what a symbol gets of bucket i (GNU gprof gives each function the part of a bucket that it overlaps)
abbrev pub share_of_bucket : Hist → ℕ → Symbol → ℕ
share_of_bucket h i s = grains_up_to h i s.end - grains_up_to h i s.addr

-- what a symbol gets of the first m buckets
abbrev pub share_of_buckets : Hist → ℕ → Symbol → ℕ
share_of_buckets h m s = sum_by (λ i. share_of_bucket h i s) (range_with_len 0 m)

-- what a symbol gets of the buckets from i to below j
abbrev pub share_between : Hist → ℕ → ℕ → Symbol → ℕ
share_between h i j s = share_of_buckets h j s - share_of_buckets h i s

-- what a symbol gets of all buckets of a histogram
abbrev pub share_in_hist : Hist → Symbol → ℕ
share_in_hist h s = share_of_buckets h (length h.counters) s

-- what a symbol gets of all histograms
abbrev pub share_of : List Hist → Symbol → ℕ
share_of hists s = sum_by (λ h. share_in_hist h s) hists

-- how all grains are shared out
pub record ShareTable : Type 0 where
  -- the grains of each symbol
  pub of : List ℕ
  -- the grains of none
  pub outside : ℕ

-- the grains of all symbols
abbrev pub attributed_of : ShareTable → ℕ
attributed_of t = sum t.of

-- each symbol's share; what no symbol gets is outside
abbrev pub shares_of : List Hist → List Symbol → ShareTable
shares_of hists symbols =
    record {
      of = map (share_of hists) symbols;
      outside = 1000000 * samples_of hists - sum (map (share_of hists) symbols);
    }
