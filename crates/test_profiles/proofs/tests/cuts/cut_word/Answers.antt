use Rattle.std.proofs.Common.{sym, ap, ◌∙◌}
use Rattle.settings.specs.CutWords.{is_cut_word}
use Rattle.test_profiles.proofs.tests.cuts.cut_word.Goals as goal

pub returns : goal.returns
returns c = ap is_cut_word c.in_ok-cut.ensures.ok ∙ sym c.is_cut_word.ensures ∙ c.if-not-is_cut_word.false
