-- The numbers of entries, as the code has them.
use Rattle.std.specs.Prelude.{◌≡◌, ◌<◌, ℕ, length, slice_index}
use Rattle.flat_report.specs.Sources.{Sources}
use Rattle.graph_report.specs.Entries.{number_in, graph_order}
use Rattle.graph_report.specs.declared.numbers.Numbers.{Numbers}
use Rattle.graph_report.specs.declared.subjects.Subject.TheVariants.{Cycle, Function}

pub record AreNumbers (s : Sources) (n : Numbers) : Type 0 where
  pub function_count : length n.functions.items ≡ s.graph.functions
  pub cycle_count : length n.cycles.items ≡ s.graph.functions
  pub functions : (f : ℕ) → f < s.graph.functions → slice_index n.functions.items f ≡ number_in (graph_order s) (Function f)
  -- by heads
  pub cycles : (head : ℕ) → head < s.graph.functions → slice_index n.cycles.items head ≡ number_in (graph_order s) (Cycle head)
