-- The reports of a profile, for a program.
use Rattle.std.specs.Prelude.{ℕ, List, ◌++◌, codes, Option, Some, None}
use Rattle.std.specs.List.{count_by}
use Rattle.std.specs.Option.{option_map_or}
use Rattle.text_cols.specs.Columns.{decimal}
use Rattle.elf32_syms.specs.declared.image.Image.{Image}
use Rattle.gmon_data.specs.Content.{Content}
use Rattle.symbol_shares.specs.Shares.{ShareTable, attributed_of, shares_of}
use Rattle.call_cycles.specs.Graph.{GraphValue, component_count, is_cycle}
use Rattle.call_cycles.specs.Flow.{FlowValue, time_of_roots}
use Rattle.call_cycles.specs.Sums.{numbers_below}
use Rattle.call_cycles.specs.Values.{profile_graph}
use Rattle.propagate.specs.Solution.{flow_in}
use Rattle.flat_report.specs.Sources.{Sources}
use Rattle.prof_machine.specs.declared.summary.RunSummary.{RunSummary}

-- the samples per second of a profile, and 100 where it has no unit
abbrev pub profile_rate : Content → ℕ
profile_rate p = option_map_or (λ u. u.rate) p.«unit» 100

-- what its reports are made from: how its samples are shared among the symbols, and how time flows over the graph of
-- its calls
unfoldable pub profile_sources : Image → Content → Sources
profile_sources image total =
    let shares = shares_of total.hists image.symbols in
    let graph = profile_graph total.arcs image.symbols in
    record { symbols = image.symbols; graph = graph; flow = flow_in graph shares.of; shares = shares; rate = profile_rate total }

-- ---- the summary of a demo

-- how many components of a graph are cycles
abbrev pub cycle_count : GraphValue → ℕ
cycle_count g = count_by (is_cycle g) (numbers_below (component_count g))

-- the functions of the demo, how its run went, the pairs of call site and callee that were counted, and the cycles
unfoldable pub demo_run_line : ℕ → RunSummary → ℕ → ℕ → List ℕ
demo_run_line functions run pairs cycles =
    codes "demo " ++ decimal functions ++ codes ": " ++ decimal run.retired ++ codes " instructions, " ++ decimal run.samples ++ codes " samples, "
    ++ decimal run.calls ++ codes " calls, " ++ decimal run.lost ++ codes " lost, " ++ decimal pairs ++ codes " arcs, " ++ decimal cycles ++ codes " cycles\n"

-- the grains of all functions, and those of the components that no other one calls
unfoldable pub grains_line : ℕ → ℕ → List ℕ
grains_line attributed roots = codes "attributed " ++ decimal attributed ++ codes " grains, roots " ++ decimal roots ++ codes " grains\n"

abbrev pub demo_text : ℕ → RunSummary → ℕ → GraphValue → FlowValue → ShareTable → List ℕ
demo_text functions run pairs graph flow shares = demo_run_line functions run pairs (cycle_count graph) ++ grains_line (attributed_of shares) (time_of_roots graph flow)

-- the same of a run that ended
abbrev pub demo_summary : ℕ → ℕ → GraphValue → FlowValue → ShareTable → Option RunSummary → List ℕ
demo_summary functions pairs graph flow shares None = codes ""
demo_summary functions pairs graph flow shares (Some run) = demo_text functions run pairs graph flow shares
