-- What a profile that was read from so many bytes holds at most.
use Rattle.std.specs.Prelude.{ℕ, ◌*◌, ◌^◌, ◌≤◌, length}
use Rattle.std.specs.List.{sum_by}
use Rattle.gmon_data.specs.Content.{Content}
use Rattle.gmon_data.specs.Hists.{samples_of}
use Rattle.gmon_data.specs.Tally.{tally_total}

-- A counter takes two bytes, an arc and a block count take eight at least. A counter is below 2^16, calls and executions
-- of one record are below 2^32.
pub record IsOfBytes (n : ℕ) (c : Content) : Type 0 where
  pub samples : samples_of c.hists ≤ n * 65536
  pub counters : 2 * sum_by (λ h. length h.counters) c.hists ≤ n
  pub calls : tally_total c.arcs ≤ n * 2 ^ 32
  pub runs : tally_total c.blocks ≤ n * 2 ^ 32
  pub pairs : 2 * length c.arcs ≤ n
  pub addresses : 2 * length c.blocks ≤ n
