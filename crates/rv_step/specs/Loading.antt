-- A program's segments in memory.
use Rattle.std.specs.Prelude.{ℕ, ◌+◌, ◌≤◌, min, List, length, take, drop, fold}
use Rattle.elf32_syms.specs.declared.image.Segment.{Segment}
use Rattle.rv_step.specs.Memory.{Memory, IsInside, write_at}

-- the bytes that a segment loads from a file
abbrev pub segment_bytes : List ℕ → Segment → List ℕ
segment_bytes bytes s = take (min s.filesz s.memsz) (drop s.offset bytes)

-- memory after segments are loaded one after the other, so that a later one overwrites an earlier one
abbrev pub with_segments : List Segment → List ℕ → Memory → Memory
with_segments segments bytes m = fold (λ m s. write_at m s.addr (segment_bytes bytes s)) m segments

-- a segment's addresses lie in memory, and its bytes in the file
abbrev pub CanLoad : Memory → List ℕ → Segment → Type 0
CanLoad m bytes s = IsInside m s.addr s.memsz × (s.offset + s.filesz ≤ length bytes)
