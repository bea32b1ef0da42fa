use Rattle.std.proofs.Common.{ℕ, List, map, string_bytes, ap, subst}
use Rattle.elf32_syms.specs.declared.image.Symbol.{Symbol}
use Rattle.flat_report.specs.FlatText.{flat_text}
use Rattle.flat_report.specs.Reports.{Reports}
use Rattle.command_reports.proofs.report_text.print_flat.Goals as goal

pub returns-clause-printed : goal.returns-clause-printed
returns-clause-printed g c =
    let s = c.args.findings.now in
    let text = ap (λ (xs : List Symbol). flat_text (record { symbols = xs; graph = s.graph; flow = s.flow; shares = s.shares; rate = s.rate }) (map string_bytes c.args.hidden.now)) c.as_slice.ensures in
    subst (λ (t : List ℕ). Reports t (g.H.Host.outside c.args.host.now) (g.H.Host.outside c.write.new.host) c.write.result) text c.write.ensures.printed
