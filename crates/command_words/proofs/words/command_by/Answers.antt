use Rattle.std.proofs.Common.{◌∙◌, ap, sym, map, string_bytes}
use Rattle.command_words.specs.declared.verbs.Verb.{Verb}
use Rattle.command_words.specs.Words.{command_by}
use Rattle.command_words.proofs.words.command_by.Goals as goal

pub returns-in-Show : goal.returns-in-Show
returns-in-Show c = c.show.ensures (map string_bytes c.args.words.now) c.args.items.now ∙ ap (λ (verb : Verb). command_by verb (map string_bytes c.args.words.now) c.args.items.now c.args.operands.now) (sym c.in-Show.is)

pub returns-in-Syms : goal.returns-in-Syms
returns-in-Syms c = c.syms.ensures (map string_bytes c.args.words.now) c.args.items.now ∙ ap (λ (verb : Verb). command_by verb (map string_bytes c.args.words.now) c.args.items.now c.args.operands.now) (sym c.in-Syms.is)

pub returns-in-Run : goal.returns-in-Run
returns-in-Run c = c.run.ensures (map string_bytes c.args.words.now) ∙ ap (λ (verb : Verb). command_by verb (map string_bytes c.args.words.now) c.args.items.now c.args.operands.now) (sym c.in-Run.is)

pub returns-in-Sum : goal.returns-in-Sum
returns-in-Sum c = c.sum.ensures (map string_bytes c.args.words.now) c.args.items.now ∙ ap (λ (verb : Verb). command_by verb (map string_bytes c.args.words.now) c.args.items.now c.args.operands.now) (sym c.in-Sum.is)

pub returns-in-Annotate : goal.returns-in-Annotate
returns-in-Annotate c = c.annotate.ensures (map string_bytes c.args.words.now) c.args.items.now ∙ ap (λ (verb : Verb). command_by verb (map string_bytes c.args.words.now) c.args.items.now c.args.operands.now) (sym c.in-Annotate.is)

pub returns-in-Folded : goal.returns-in-Folded
returns-in-Folded c = c.folded.ensures (map string_bytes c.args.words.now) ∙ ap (λ (verb : Verb). command_by verb (map string_bytes c.args.words.now) c.args.items.now c.args.operands.now) (sym c.in-Folded.is)

pub returns-in-Help : goal.returns-in-Help
returns-in-Help c = c.help.ensures (map string_bytes c.args.words.now) c.args.items.now ∙ ap (λ (verb : Verb). command_by verb (map string_bytes c.args.words.now) c.args.items.now c.args.operands.now) (sym c.in-Help.is)

pub returns-in-Version : goal.returns-in-Version
returns-in-Version c = c.version.ensures (map string_bytes c.args.words.now) c.args.items.now ∙ ap (λ (verb : Verb). command_by verb (map string_bytes c.args.words.now) c.args.items.now c.args.operands.now) (sym c.in-Version.is)
