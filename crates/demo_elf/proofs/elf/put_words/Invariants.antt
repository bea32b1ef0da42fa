use Rattle.std.proofs.Common.{◌≡◌, ◌++◌, take}
use Rattle.std.specs.List.{flat_map}
use Rattle.demo_elf.specs.Elf.{word}
use Rattle.demo_elf.proofs.elf.put_words.Given as goal

abbrev pub invariant-loop-word : goal.invariant-loop-word
invariant-loop-word l = l.bytes.items ≡ l.fn.bytes.items ++ flat_map word (take l.word-index l.words)
