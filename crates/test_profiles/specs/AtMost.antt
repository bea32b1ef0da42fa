-- What profiles of tests hold at most.
use Rattle.std.specs.Prelude.{ℕ, ◌≤◌, length}
use Rattle.std.specs.List.{sum_by}
use Rattle.gmon_data.specs.Content.{Content}
use Rattle.gmon_data.specs.Hists.{samples_of}
use Rattle.gmon_data.specs.Tally.{tally_total}

-- each number of the content is at most n
pub record IsAtMost (c : Content) (n : ℕ) : Type 0 where
  pub samples : samples_of c.hists ≤ n
  pub counters : sum_by (λ h. length h.counters) c.hists ≤ n
  pub calls : tally_total c.arcs ≤ n
  pub runs : tally_total c.blocks ≤ n
  pub pairs : length c.arcs ≤ n
  pub addresses : length c.blocks ≤ n
