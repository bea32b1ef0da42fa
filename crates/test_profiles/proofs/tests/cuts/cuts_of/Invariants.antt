use Rattle.std.proofs.Common.{◌≡◌, true, string_bytes}
use Rattle.std.specs.List.{All}
use Rattle.settings.specs.CutWords.{is_cut_word}
use Rattle.test_profiles.proofs.tests.cuts.cuts_of.Given as goal

abbrev pub invariant-loop-word : goal.invariant-loop-word
invariant-loop-word l = All (λ word. is_cut_word (string_bytes word) ≡ true) l.cuts.items
