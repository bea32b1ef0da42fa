use Rattle.std.proofs.Common.{◌≡◌, true, Global, List, String, string_bytes, sym, subst}
use Rattle.std.specs.List.{All}
use Rattle.std.proofs.lemmas.List.Elements.{All-nil, All-push}
use Rattle.settings.specs.CutWords.{is_cut_word}
use Rattle.test_profiles.proofs.tests.cuts.cuts_of.Goals as goal

abbrev IsCut : String Global → Type 0
IsCut word = is_cut_word (string_bytes word) ≡ true

pub loop-word-init : goal.loop-word-init
loop-word-init c = subst (λ (words : List (String Global)). All IsCut words) (sym c.new-cuts.ensures.items) (All-nil IsCut)

pub loop-word-preserved : goal.loop-word-preserved
loop-word-preserved c =
    subst (λ (words : List (String Global)). All IsCut words) (sym c.in_ok-push.ensures.items)
    (All-push IsCut c.loop-word.cuts.items c.in_ok-cut_word.field-0 c.loop-word.invariant c.in_ok-cut_word.ensures)

pub returns : goal.returns
returns c = c.loop-word.invariant
