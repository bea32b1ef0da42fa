use Rattle.std.proofs.Common.{◌≡◌, ◌++◌, take}
use Rattle.std.specs.List.{flat_map}
use Rattle.demo_elf.specs.Elf.{half}
use Rattle.demo_elf.proofs.elf.put_halves.Given as goal

abbrev pub invariant-loop-half : goal.invariant-loop-half
invariant-loop-half l = l.bytes.items ≡ l.fn.bytes.items ++ flat_map half (take l.half-index l.halves)
