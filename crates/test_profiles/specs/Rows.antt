-- What profiles of rows hold at most.
use Rattle.std.specs.Prelude.{ℕ, ◌*◌, ◌<◌, ◌≤◌, length, sum}
use Rattle.std.specs.List.{sum_by}
use Rattle.gmon_data.specs.declared.hist.Hist.{Hist}
use Rattle.gmon_data.specs.Content.{Content}
use Rattle.gmon_data.specs.Hists.{samples_of}
use Rattle.gmon_data.specs.Tally.{tally_total}

-- so many histograms of one counter, arcs and addresses, of less than 2^31 samples, calls and executions each
pub record HasRows (hists arcs blocks : ℕ) (c : Content) : Type 0 where
  pub samples : samples_of c.hists ≤ 2147483648 * hists
  pub counters : sum_by (λ h. length h.counters) c.hists ≤ hists
  pub calls : tally_total c.arcs ≤ 2147483648 * arcs
  pub pairs : length c.arcs ≤ arcs
  pub runs : tally_total c.blocks ≤ 2147483648 * blocks
  pub addresses : length c.blocks ≤ blocks

pub record IsOneCounter (h : Hist) : Type 0 where
  pub samples : sum h.counters < 2147483648
  pub counters : length h.counters ≤ 1
