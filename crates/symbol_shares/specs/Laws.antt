-- What follows from the definitions of shares.
use Rattle.std.specs.Prelude.{◌≡◌, ◌+◌, ◌-◌, ◌*◌, ◌<◌, ◌≤◌, ℕ, List, slice_index}
use Rattle.std.specs.List.{AllByRecursion}
use Rattle.elf32_syms.specs.declared.image.Symbol.{Symbol}
use Rattle.elf32_syms.specs.Owners.{IsAscending}
use Rattle.gmon_data.specs.declared.hist.Hist.{Hist}
use Rattle.gmon_data.specs.Hists.{IsKept, samples_of}
use Rattle.symbol_shares.specs.Parts.{IsCovered, IsInside, overlap_of}
use Rattle.symbol_shares.specs.Ranges.{grains_of_range}
use Rattle.symbol_shares.specs.Shares.{attributed_of, share_of, share_of_bucket, shares_of}

-- a bucket that lies in one symbol gives it all of its grains
abbrev pub WholeBuckets : Type 0
WholeBuckets = (h : Hist) (i : ℕ) (s : Symbol) → IsKept h → IsInside h i s → share_of_bucket h i s ≡ 1000000 * slice_index h.counters i

-- a share of a bucket is less than a grain above the part that the symbol overlaps, and less than one below it
abbrev pub PartsAtMost : Type 0
PartsAtMost = (h : Hist) (i : ℕ) (s : Symbol) → IsKept h → s.addr ≤ s.end
    → share_of_bucket h i s * (h.high - h.low) < 1000000 * slice_index h.counters i * overlap_of h i s + (h.high - h.low)

abbrev pub PartsAtLeast : Type 0
PartsAtLeast = (h : Hist) (i : ℕ) (s : Symbol) → IsKept h → s.addr ≤ s.end
    → 1000000 * slice_index h.counters i * overlap_of h i s < (share_of_bucket h i s + 1) * (h.high - h.low)

-- where each address of the histograms lies in a symbol, the symbols have all samples
abbrev pub CoveredRangesAreAttributed : Type 0
CoveredRangesAreAttributed = (hists : List Hist) (symbols : List Symbol) → AllByRecursion IsKept hists → IsAscending symbols → AllByRecursion (IsCovered symbols) hists
    → attributed_of (shares_of hists symbols) ≡ 1000000 * samples_of hists

abbrev pub CoveredRangesLeaveNothing : Type 0
CoveredRangesLeaveNothing = (hists : List Hist) (symbols : List Symbol) → AllByRecursion IsKept hists → IsAscending symbols → AllByRecursion (IsCovered symbols) hists
    → (shares_of hists symbols).outside ≡ 0

-- ranges of addresses that follow one another have together what the whole range has
abbrev pub RangesFollow : Type 0
RangesFollow = (hists : List Hist) (a b c : ℕ) → a ≤ b → b ≤ c → grains_of_range hists a b + grains_of_range hists b c ≡ grains_of_range hists a c

-- a symbol's share is what its addresses have
abbrev pub SharesAreOfRanges : Type 0
SharesAreOfRanges = (hists : List Hist) (s : Symbol) → share_of hists s ≡ grains_of_range hists s.addr s.end

-- what the symbols get and what none of them gets are together all samples
abbrev pub AllSamplesAreShared : Type 0
AllSamplesAreShared = (hists : List Hist) (symbols : List Symbol) → IsAscending symbols
    → attributed_of (shares_of hists symbols) + (shares_of hists symbols).outside ≡ 1000000 * samples_of hists
