-- What a range of addresses gets of histograms, in grains.
use Rattle.std.specs.Prelude.{ℕ, ◌-◌, List, length}
use Rattle.std.specs.List.{sum_by, range_with_len}
use Rattle.gmon_data.specs.declared.hist.Hist.{Hist}
use Rattle.symbol_shares.specs.Shares.{grains_up_to}

-- what the addresses from low to below high get of bucket i
abbrev pub grains_of_bucket : Hist → ℕ → ℕ → ℕ → ℕ
grains_of_bucket h low high i = grains_up_to h i high - grains_up_to h i low

-- what they get of the first m buckets
abbrev pub grains_of_buckets : Hist → ℕ → ℕ → ℕ → ℕ
grains_of_buckets h low high m = sum_by (grains_of_bucket h low high) (range_with_len 0 m)

-- what they get of all buckets of a histogram
abbrev pub grains_in_hist : ℕ → ℕ → Hist → ℕ
grains_in_hist low high h = grains_of_buckets h low high (length h.counters)

-- what they get of all histograms
abbrev pub grains_of_range : List Hist → ℕ → ℕ → ℕ
grains_of_range hists low high = sum_by (grains_in_hist low high) hists
