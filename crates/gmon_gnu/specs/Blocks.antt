-- Counts of executed instructions as counts of basic blocks: each instruction, of four bytes, is a block of its own.
use Rattle.std.specs.Prelude.{ℕ, ◌+◌, ◌*◌, ◌==◌, List, [], ◌∷◌, length, slice_index, filter_map, Option, Some, None, if◌then◌else◌}
use Rattle.std.specs.List.{flat_map, range_with_len}
use Rattle.gp_base.specs.declared.records.RawBlock.{RawBlock}
use Rattle.gp_base.specs.Fields.{block_bytes}
use Rattle.gmon_gnu.specs.Grammar.{blocks_bytes}

-- an address and its count, which are no block where the count is 0
abbrev pub executed_block : ℕ → ℕ → Option RawBlock
executed_block addr count = if count == 0 then None else Some (record { addr = addr; count = count })

-- the instruction of a number, where the first stands at the lowest address
abbrev pub block_at : ℕ → List ℕ → ℕ → Option RawBlock
block_at low counts i = executed_block (low + 4 * i) (slice_index counts i)

abbrev pub executed_blocks : ℕ → List ℕ → List RawBlock
executed_blocks low counts = filter_map (block_at low counts) (range_with_len 0 (length counts))

-- one record of them, or nothing where there are none
abbrev pub record_of : List RawBlock → List ℕ
record_of [] = []
record_of (b ∷ bs) = blocks_bytes (b ∷ bs)

unfoldable pub block_record : ℕ → List ℕ → List ℕ
block_record low counts = record_of (executed_blocks low counts)

-- what is put of one of them
abbrev pub pair_bytes : ℕ → ℕ → List ℕ
pair_bytes addr count = if count == 0 then [] else block_bytes (record { addr = addr; count = count })

-- and of all
abbrev pub pairs_bytes : ℕ → List ℕ → List ℕ
pairs_bytes low counts = flat_map (λ i. pair_bytes (low + 4 * i) (slice_index counts i)) (range_with_len 0 (length counts))
