use Rattle.std.proofs.Common.{◌≡◌, ℕ, true, List, [], ◌∷◌, Global, String, length, string_bytes, ap, sym, subst, ◌∙◌}
use Rattle.std.specs.Prelude.{IfOk}
use Rattle.std.specs.List.{All}
use Rattle.std.proofs.lemmas.Bool.{eqb-true}
use Rattle.elf32_syms.specs.declared.image.Symbol.{Symbol}
use Rattle.settings.specs.CutWords.{is_cut_word}
use Rattle.gmon_data.specs.Content.{Content}
use Rattle.arc_filter.specs.Cuts.{without_cuts}
use Rattle.arc_filter.proofs.ProfileLemmas.{nothing_cut}
use Rattle.command_words.specs.Items.{words_at}
use Rattle.command_reports.specs.Findings.{AreFindings}
use Rattle.command_words.proofs.PlaceLemmas.{cut_words}
use Rattle.command_reports.proofs.report_text.chosen_findings.Goals as goal

-- without words nothing is cut
uncut : (total : Content) (symbols : List Symbol) (words : List (List ℕ)) (places : List ℕ) → length places ≡ 0 → total ≡ without_cuts total symbols (words_at words places)
uncut total symbols words [] none = sym (nothing_cut total symbols)
uncut total symbols words (p ∷ ps) none = absurd cc

pub returns-then-is_empty : goal.returns-then-is_empty
returns-then-is_empty c =
    let places = c.args.selection.now.cuts in
    let none : length places ≡ 0 = ap (λ (xs : List ℕ). length xs) (sym c.as_slice.ensures) ∙ eqb-true (length c.as_slice.result.now) 0 (sym c.is_empty.ensures ∙ c.if-is_empty.true) in
    subst (λ (p : Content). IfOk c.findings_of.result (AreFindings c.args.image.now p)) (uncut c.args.total c.args.image.now.symbols c.args.words.now places none) c.findings_of.ensures

pub cut-requires-clause-words : goal.cut-requires-clause-words
cut-requires-clause-words c =
    subst (λ (names : List (String Global)). All (λ name. is_cut_word (string_bytes name) ≡ true) names) (sym c.deref.ensures.value)
    (cut_words c.args.words.now c.args.selection.now.cuts c.in_ok-cuts.cuts.items c.requires.cuts (c.in_ok-cuts.ensures ∙ ap (words_at c.args.words.now) c.as_slice-2.ensures))
