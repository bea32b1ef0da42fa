use Rattle.std.proofs.Common.{◌≡◌, ◌+◌, ◌≤◌, ◌++◌, length, drop, map, string_bytes}
use Rattle.std.specs.Option.{option_map}
use Rattle.command_words.specs.Items.{items_behind, items_from}
use Rattle.command_words.proofs.items.read_all.Given as goal

-- with what the words from here on say, it is what all say
abbrev pub invariant-loop-i : goal.invariant-loop-i
invariant-loop-i l = record {
  reads : option_map (λ more. l.items ++ more) (items_behind l.verb l.waiting (l.i + 1) (map string_bytes (drop l.i l.words))) ≡ items_from l.verb 1 (map string_bytes l.words);
  few : length l.items ≤ l.i;
}
