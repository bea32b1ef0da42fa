-- What follows from the definitions on samples and stacks: the statements of the laws.
use Rattle.std.specs.Prelude.{◌≡◌, ℕ, List, ◌∷◌, [], ◌++◌, length, map, count_by, sum_by, Option, Some}
use Rattle.std.specs.Map.{keys_of}
use Rattle.std.specs.List.Sorted.{IsStrictlySortedBy}
use Rattle.elf32_syms.specs.declared.image.Symbol.{Symbol}
use Rattle.elf32_syms.specs.Owners.{owner_of}
use Rattle.mcount_arcs.specs.Samples.{counted_samples}
use Rattle.prof_machine.specs.declared.machine.Machine.{Machine}
use Rattle.prof_machine.specs.Turn.{world_after}
use Rattle.prof_machine.specs.World.{World}
use Rattle.folded.specs.Stacks.{caller_in, lines_of, same_stack, stack_cmp, stack_of, times_in}
use Rattle.folded.specs.Trail.{StackSample, samples_after}

-- the stack of a sample ends in the function that was sampled, behind one place for each call
abbrev pub StacksEndWhereSampled : Type 0
StacksEndWhereSampled = (symbols : List Symbol) (s : StackSample) (stack : List (Option ℕ)) → stack_of symbols s ≡ Some stack
    → (f : ℕ) × (owner_of symbols s.pc ≡ Some f) × (stack ≡ map (caller_in symbols) s.frames ++ Some f ∷ [])

-- the samples that are followed are those that the log counts
abbrev pub SamplesAreCounted : Type 0
SamplesAreCounted = (m : Machine) (w : World) (turns : List ℕ) →
    counted_samples m.sizes (world_after m w turns).log ≡ counted_samples m.sizes w.log ++ map (λ (s : StackSample). s.pc) (samples_after m w turns)

-- the numbers of the lines add up to the number of samples
abbrev pub LinesAddUp : Type 0
LinesAddUp = (stacks : List (List (Option ℕ))) → sum_by (λ (line : List (Option ℕ) × ℕ). line.1) (lines_of stacks) ≡ length stacks

-- the line of a stack has the number of samples that have it
abbrev pub LinesCount : Type 0
LinesCount = (stacks : List (List (Option ℕ))) (stack : List (Option ℕ)) → times_in (lines_of stacks) stack ≡ count_by (same_stack stack) stacks

-- the lines' stacks ascend, so that each has one line
abbrev pub LinesAscend : Type 0
LinesAscend = (stacks : List (List (Option ℕ))) → IsStrictlySortedBy stack_cmp (keys_of (lines_of stacks))
