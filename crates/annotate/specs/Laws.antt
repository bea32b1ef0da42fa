-- What the definition of the annotated listing says, in other words.
use Rattle.std.specs.Prelude.{◌≡◌, ◌↔◌, ℕ, ◌+◌, ◌/◌, ◌<◌, ◌≤◌, List}
use Rattle.std.specs.List.{sum_by}
use Rattle.elf32_syms.specs.declared.image.Symbol.{Symbol}
use Rattle.elf32_syms.specs.Owners.{IsAscending}
use Rattle.gmon_data.specs.declared.hist.Hist.{Hist}
use Rattle.symbol_shares.specs.Ranges.{grains_of_range}
use Rattle.symbol_shares.specs.Shares.{attributed_of, share_of, shares_of}
use Rattle.annotate.specs.Cells.{cells_of, part_in, word_count}

-- the cells of a symbol have its share together
abbrev pub SharesAddUp : Type 0
SharesAddUp = (hists : List Hist) (s : Symbol) → s.addr ≤ s.end
    → sum_by (λ cell. grains_of_range hists cell.low cell.high) (cells_of s) ≡ share_of hists s

-- so the whole listing has the grains of all symbols
abbrev pub ListingAddsUp : Type 0
ListingAddsUp = (hists : List Hist) (symbols : List Symbol) → IsAscending symbols
    → sum_by (λ s. sum_by (λ cell. grains_of_range hists cell.low cell.high) (cells_of s)) symbols ≡ attributed_of (shares_of hists symbols)

-- an address of a symbol lies in the part that the symbol has of the address's own word, and in no other
abbrev pub AddressesHaveOneCell : Type 0
AddressesHaveOneCell = (s : Symbol) (x w : ℕ) → s.addr ≤ x → x < s.end → (((part_in s w).low ≤ x) × (x < (part_in s w).high)) ↔ (w ≡ x / 4)

-- that word is among those that the symbol reaches into
abbrev pub WordsAreReached : Type 0
WordsAreReached = (s : Symbol) (x : ℕ) → s.addr ≤ x → x < s.end → (s.addr / 4 ≤ x / 4) × (x / 4 < s.addr / 4 + word_count s)
