use Rattle.std.proofs.Common.{◌≡◌, ◌≤◌, ◌-◌, ℕ, length, take}
use Rattle.std.specs.List.{range_with_len}
use Rattle.gmon_cells.proofs.PuttingLemmas.{HasPut}
use Rattle.gmon_gnu.specs.Pieces.{round_bytes}
use Rattle.gmon_gnu.specs.Splitting.{round_of}
use Rattle.gmon_gnu.proofs.rounds.put_few_rounds.Given as goal

-- the rounds so far are put, and what is still listed has all that is left
abbrev pub invariant-loop-j : goal.invariant-loop-j
invariant-loop-j g l = record {
  put : HasPut (round_bytes (take l.listed l.initial.few)) (range_with_len l.first (l.rounds - l.first)) (l.j - l.first) l.initial.out l.out (g.H.Host.outside l.initial.host) (g.H.Host.outside l.host);
  same : (i : ℕ) → l.j ≤ i → round_of (take l.left l.few) i ≡ round_of (take l.listed l.initial.few) i;
  within : l.left ≤ length l.few;
}
