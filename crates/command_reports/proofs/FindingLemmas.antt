-- What the reports of a profile are made from is what was found.
use Rattle.std.proofs.Common.{◌≡◌, ◌<◌, ◌≤◌, ◌^◌, ℕ, length, sym, ap, ◌∙◌}
use Rattle.std.proofs.lemmas.List.{length-map}
use Rattle.elf32_syms.specs.declared.image.Image.{Image}
use Rattle.gmon_data.specs.Content.{Content}
use Rattle.symbol_shares.specs.Shares.{ShareTable, share_of, shares_of}
use Rattle.call_cycles.specs.Graph.{GraphValue, IsGraph, all_calls}
use Rattle.call_cycles.specs.Flow.{FlowValue, IsFlow}
use Rattle.call_cycles.specs.Values.{profile_graph}
use Rattle.propagate.specs.Solution.{flow_in}
use Rattle.propagate.proofs.SolutionLemmas.{solution}
use Rattle.command_reports.specs.declared.findings.Findings.{Findings}
use Rattle.courses.specs.Reports.{profile_rate, profile_sources}
use Rattle.command_reports.specs.Findings.{AreFindings}

-- how many shares there are
pub shares_long : (image : Image) (total : Content) (t : ShareTable) → t ≡ shares_of total.hists image.symbols → length t.of ≡ length image.symbols
shares_long image total t is = ap (λ (x : ShareTable). length x.of) is ∙ length-map image.symbols (share_of total.hists)

pub are_findings : (image : Image) (total : Content) (s : Findings) → s.shares ≡ shares_of total.hists image.symbols → s.graph ≡ profile_graph total.arcs image.symbols
    → ((u : FlowValue) → IsFlow s.graph s.shares.of u → u ≡ s.flow) → s.rate ≡ profile_rate total
    → s.graph.functions ≡ length image.symbols → IsGraph s.graph → IsFlow s.graph s.shares.of s.flow → all_calls s.graph < 2 ^ 59 → 1 ≤ s.rate
    → AreFindings image total s
unfolding profile_sources
are_findings image total s shares graph one rate functions is flow few some = record {
  value =
      ap (λ (f : FlowValue). record { symbols = image.symbols; graph = s.graph; flow = f; shares = s.shares; rate = s.rate }) (sym (one (flow_in s.graph s.shares.of) (solution s.graph s.shares.of is)))
      ∙ ap (λ (g : GraphValue). record { symbols = image.symbols; graph = g; flow = flow_in g s.shares.of; shares = s.shares; rate = s.rate }) graph
      ∙ ap (λ (t : ShareTable). record { symbols = image.symbols; graph = profile_graph total.arcs image.symbols; flow = flow_in (profile_graph total.arcs image.symbols) t.of; shares = t; rate = s.rate }) shares
      ∙ ap (λ (r : ℕ). record { symbols = image.symbols; graph = profile_graph total.arcs image.symbols; flow = flow_in (profile_graph total.arcs image.symbols) (shares_of total.hists image.symbols).of; shares = shares_of total.hists image.symbols; rate = r }) rate;
  fit = record {
    of_one = record { functions = functions; each = shares_long image total s.shares shares; graph = is; flow = flow };
    few = few;
    rate = some;
  };
}
