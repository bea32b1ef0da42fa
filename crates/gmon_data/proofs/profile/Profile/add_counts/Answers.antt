use Rattle.std.proofs.Common.{refl, ap, ◌∙◌, arith}
use Rattle.gmon_data.specs.declared.hist.Hist.{Hist}
use Rattle.gmon_data.specs.Content.{hist_over, with_hist}
use Rattle.gmon_data.proofs.ContentLemmas.{hist_stands}
use Rattle.gmon_data.proofs.profile.Profile.add_counts.Goals as goal

pub returns-then-is_empty-clause-stands : goal.returns-then-is_empty-clause-stands
returns-then-is_empty-clause-stands c = grind (arith, hist_stands)

pub returns-clause-stands : goal.returns-clause-stands
returns-clause-stands c =
    hist_stands (hist_over c.args.low c.args.high c.args.counts.now) c.args.«unit» c.args.self.now c.args.self.now _ refl (c.in_ok-keep.ensures.added ∙ ap (λ (h : Hist). with_hist h c.args.«unit» c.args.self.now) c.in_ok-hist.ensures)
