-- What is found of a profile, from which its reports are made.
-- Only private functions and invariants speak of it.
use Rattle.std.specs.Prelude.{◌≡◌, ◌<◌, ◌≤◌, ◌^◌, Bool, true, false, Option, Some, None}
use Rattle.exact_flow.specs.Solution.{exact_flow_in}
use Rattle.exact_flow.specs.Times.{ExactFlowValue, HasTimes}
use Rattle.exact_flow.specs.Wide.{first_wide}
use Rattle.elf32_syms.specs.declared.image.Image.{Image}
use Rattle.gmon_data.specs.Content.{Content}
use Rattle.call_cycles.specs.Graph.{all_calls}
use Rattle.flat_report.specs.Sources.{AreOfOne, Sources}
use Rattle.command_reports.specs.declared.findings.Findings.{Findings}
use Rattle.courses.specs.Reports.{profile_sources}

-- what a report of them is made from
abbrev pub given_sources : Image → Findings → Sources
given_sources image f = record { symbols = image.symbols; graph = f.graph; flow = f.flow; shares = f.shares; rate = f.rate }

-- they are of one program, and in the ranges of a report's numbers
pub record FitTogether (image : Image) (f : Findings) : Type 0 where
  pub of_one : AreOfOne (given_sources image f)
  pub few : all_calls f.graph < 2 ^ 59
  pub rate : 1 ≤ f.rate

-- and those of a profile
pub record AreFindings (image : Image) (total : Content) (f : Findings) : Type 0 where
  pub value : given_sources image f ≡ profile_sources image total
  pub fit : FitTogether image f

-- the exact times were found where they were asked for, and no step of theirs is too wide
abbrev pub IsAsked : Bool → Findings → Option ExactFlowValue → Type 0
IsAsked false f found = found ≡ None
IsAsked true f found = (e : ExactFlowValue) × (found ≡ Some e) × (e ≡ exact_flow_in f.graph f.shares.of) × HasTimes f.graph e × (first_wide f.graph f.shares.of ≡ None)
