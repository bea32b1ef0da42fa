use Rattle.std.proofs.Common.{◌∙◌, Some, ap}
use Rattle.command_words.specs.declared.words.Command.{Command}
use Rattle.command_words.specs.declared.words.Command.TheVariants.{Show, Syms, Run, Sum, Report, Profile, Demo, Annotate, Folded, Help, Version}
use Rattle.courses.proofs.Standing.{begun}
use Rattle.rvgprof.proofs.top.perform.Goals as goal

pub show-requires : goal.show-requires
show-requires g c =
    begun c.args.words.now (g.H.Host.outside c.args.host.now) (Show c.in-Show.gmon) (c.requires.said ∙ ap (λ (x : Command). Some x) c.in-Show.is) c.requires.idle

pub syms-requires : goal.syms-requires
syms-requires g c =
    begun c.args.words.now (g.H.Host.outside c.args.host.now) (Syms c.in-Syms.elf) (c.requires.said ∙ ap (λ (x : Command). Some x) c.in-Syms.is) c.requires.idle

pub sum-requires-clause-stands : goal.sum-requires-clause-stands
sum-requires-clause-stands g c =
    let places = c.as_slice.ensures in
    rw places (begun c.args.words.now (g.H.Host.outside c.args.host.now) (Sum c.in-Sum.out c.in-Sum.gmons) (c.requires.said ∙ ap (λ (x : Command). Some x) c.in-Sum.is) c.requires.idle)

pub run-requires-clause-stands : goal.run-requires-clause-stands
run-requires-clause-stands g c =
    let command = Run c.in-Run.elf c.in-Run.gmon c.in-Run.form c.in-Run.memory c.in-Run.setup in
    begun c.args.words.now (g.H.Host.outside c.args.host.now) command (c.requires.said ∙ ap (λ (x : Command). Some x) c.in-Run.is) c.requires.idle

pub report-requires-clause-stands : goal.report-requires-clause-stands
report-requires-clause-stands g c =
    let places = c.as_slice-in-Report.ensures in
    rw places (begun c.args.words.now (g.H.Host.outside c.args.host.now) (Report c.in-Report.elf c.in-Report.gmons c.in-Report.selection) (c.requires.said ∙ ap (λ (x : Command). Some x) c.in-Report.is) c.requires.idle)

pub profile-requires-clause-stands : goal.profile-requires-clause-stands
profile-requires-clause-stands g c =
    let command = Profile c.in-Profile.elf c.in-Profile.gmon c.in-Profile.form c.in-Profile.memory c.in-Profile.setup c.in-Profile.selection in
    begun c.args.words.now (g.H.Host.outside c.args.host.now) command (c.requires.said ∙ ap (λ (x : Command). Some x) c.in-Profile.is) c.requires.idle

pub demo-requires-clause-stands : goal.demo-requires-clause-stands
demo-requires-clause-stands g c =
    let command = Demo c.in-Demo.functions c.in-Demo.elf c.in-Demo.setup in
    begun c.args.words.now (g.H.Host.outside c.args.host.now) command (c.requires.said ∙ ap (λ (x : Command). Some x) c.in-Demo.is) c.requires.idle

pub print_listing-requires-clause-stands : goal.print_listing-requires-clause-stands
print_listing-requires-clause-stands g c =
    let places = c.as_slice-in-Annotate.ensures in
    rw places (begun c.args.words.now (g.H.Host.outside c.args.host.now) (Annotate c.in-Annotate.elf c.in-Annotate.gmons) (c.requires.said ∙ ap (λ (x : Command). Some x) c.in-Annotate.is) c.requires.idle)

pub print_stacks-requires-clause-stands : goal.print_stacks-requires-clause-stands
print_stacks-requires-clause-stands g c =
    let command = Folded c.in-Folded.elf c.in-Folded.inclusive c.in-Folded.setup in
    begun c.args.words.now (g.H.Host.outside c.args.host.now) command (c.requires.said ∙ ap (λ (x : Command). Some x) c.in-Folded.is) c.requires.idle

pub help-requires : goal.help-requires
help-requires g c = begun c.args.words.now (g.H.Host.outside c.args.host.now) Help (c.requires.said ∙ ap (λ (x : Command). Some x) c.in-Help.is) c.requires.idle

pub version-requires : goal.version-requires
version-requires g c = begun c.args.words.now (g.H.Host.outside c.args.host.now) Version (c.requires.said ∙ ap (λ (x : Command). Some x) c.in-Version.is) c.requires.idle
