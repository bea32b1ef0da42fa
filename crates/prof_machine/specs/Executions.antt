-- How often each instruction of the text was executed. That an instruction counts when it retires, is this project's own.
use Rattle.std.specs.Prelude.{◌≡◌, ℕ, ◌+◌, ◌-◌, ◌*◌, ◌/◌, ◌%◌, ◌==◌, nat_le, nat_lt, ◌&&◌, List, [], map, length, slice_index, slice_set, count_by, filter_map, Option, Some, None, if◌then◌else◌}
use Rattle.std.specs.List.{range_with_len}
use Rattle.gp_base.specs.declared.records.RawBlock.{RawBlock}
use Rattle.mcount_arcs.specs.declared.sizes.Sizes.{Sizes}
use Rattle.prof_machine.specs.declared.machine.Machine.{Machine}

-- how many of the instructions that retired stood at an address
abbrev pub executions_at : List ℕ → ℕ → ℕ
executions_at ran pc = count_by (λ x. x == pc) ran

-- an instruction has four bytes: so many of them has a text
abbrev pub instructions_of : Sizes → ℕ
instructions_of z = (z.high - z.low) / 4

-- for each instruction of the text, from the lowest on
abbrev pub executions_in : Sizes → List ℕ → List ℕ
executions_in z ran = map (λ i. executions_at ran (z.low + 4 * i)) (range_with_len 0 (instructions_of z))

-- which is counted where the setup asks for it
unfoldable pub exec_counts_of : Machine → List ℕ → List ℕ
exec_counts_of m ran = if m.setup.blocks then executions_in m.sizes ran else []

-- ---- as pairs

-- an address and how often its instruction was executed, which are no pair where it never was
abbrev pub pair_of : ℕ → ℕ → Option RawBlock
pair_of addr count = if count == 0 then None else Some (record { addr = addr; count = count })

-- the pairs of the text, by address
abbrev pub executed_pairs : Sizes → List ℕ → List RawBlock
executed_pairs z ran = filter_map (λ i. pair_of (z.low + 4 * i) (executions_at ran (z.low + 4 * i))) (range_with_len 0 (instructions_of z))

-- and those of counts, of which the first is that of the lowest instruction
abbrev pub counted_pairs : ℕ → List ℕ → List RawBlock
counted_pairs low counts = filter_map (λ i. pair_of (low + 4 * i) (slice_index counts i)) (range_with_len 0 (length counts))

abbrev pub PairsAreCounts : Type 0
PairsAreCounts = (z : Sizes) (ran : List ℕ) → counted_pairs z.low (executions_in z ran) ≡ executed_pairs z ran

-- ---- one more

-- the counts once one more instruction has retired: the one of its place rises
abbrev pub with_execution : ℕ → ℕ → List ℕ → List ℕ
with_execution low pc counts =
    if nat_le low pc && ((pc - low) % 4 == 0) && nat_lt ((pc - low) / 4) (length counts)
    then slice_set counts ((pc - low) / 4) (slice_index counts ((pc - low) / 4) + 1)
    else counts
