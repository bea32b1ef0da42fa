use Rattle.std.proofs.Common.{◌≡◌, ◌+◌, ◌*◌, ◌++◌, length}
use Rattle.std.specs.List.{flat_map, range_with_len}
use Rattle.demo_elf.specs.Code.{start_words, mcount_words, function_words}
use Rattle.demo_elf.proofs.code.demo_words.Given as goal

abbrev pub invariant-loop-i : goal.invariant-loop-i
invariant-loop-i l = record {
  those : l.words.items ≡ (start_words ++ mcount_words) ++ flat_map (function_words l.n) (range_with_len 0 l.i);
  long : length l.words.items ≡ 16 + 64 * l.i;
}
