use Rattle.command_words.proofs.WordLemmas.{no_long_line}
use Rattle.command_words.proofs.laws.lines_are_short.Goals as goal

pub returns : goal.returns
returns c = no_long_line
