use Rattle.std.proofs.Common.{arith, string_bytes}
use Rattle.std.proofs.lemmas.List.{length-map}
use Rattle.command_words.proofs.PlaceLemmas.{items_hold}
use Rattle.command_words.proofs.WordLemmas.{no_long_line}
use Rattle.command_words.proofs.words.read_command.Goals as goal

pub returns-then-words-gt-MAX_WORDS-clause-reading : goal.returns-then-words-gt-MAX_WORDS-clause-reading
returns-then-words-gt-MAX_WORDS-clause-reading c = search (length-map, string_bytes, no_long_line)

pub returns-clause-within : goal.returns-clause-within
returns-clause-within c = grind (arith, items_hold)
