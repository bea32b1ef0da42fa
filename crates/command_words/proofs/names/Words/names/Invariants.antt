use Rattle.std.proofs.Common.{◌≡◌, take, map, string_bytes}
use Rattle.command_words.specs.Items.{words_at}
use Rattle.command_words.proofs.names.Words.names.Given as goal

-- those so far
abbrev pub invariant-loop-place : goal.invariant-loop-place
invariant-loop-place l = map string_bytes l.names.items ≡ words_at l.self (take l.place-index l.places)
