use Rattle.std.proofs.Common.{◌∙◌, sym}
use Rattle.command_reports.proofs.Reporting.{some_rate}
use Rattle.command_reports.proofs.findings.rate_of.Goals as goal

pub returns-in-Some-clause-some : goal.returns-in-Some-clause-some
returns-in-Some-clause-some c = some_rate c.args.profile.now.hists c.args.profile.now.«unit» c.in-Some.«unit» c.unit.ensures.profile.«unit» (sym c.unit.ensures.«unit» ∙ c.in-Some.is)
