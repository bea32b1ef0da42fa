use Rattle.std.proofs.Common.{◌≡◌, ◌+◌, ◌≤◌, length, All}
use Rattle.elf32_syms.specs.declared.image.Segment.{Segment}
use Rattle.test_machine.proofs.tests.runs.listed.Given as goal

abbrev pub invariant-loop-segment : goal.invariant-loop-segment
invariant-loop-segment g l =
    record {
      in_file : All (λ (s : Segment). s.offset + s.filesz ≤ l.file_bytes) l.list;
      in_memory : All (λ (s : Segment). s.filesz ≤ s.memsz) l.list;
      count : length l.list ≡ l.segment-index;
    }
