use Rattle.std.proofs.Common.{◌≡◌, ◌≢◌, ℕ, max, slice_index}
use Rattle.call_cycles.specs.Sums.{max_below}
use Rattle.call_cycles.specs.Leaders.{level_over}
use Rattle.call_cycles.proofs.level.raise.Given as goal

abbrev pub invariant-loop-i : goal.invariant-loop-i
invariant-loop-i l = record {
  raised : slice_index l.levels l.c ≡ max (slice_index l.fn.levels l.c) (max_below l.i (level_over l.arcs l.leaders l.f l.fn.levels));
  others : (h : ℕ) → h ≢ l.c → slice_index l.levels h ≡ slice_index l.fn.levels h;
}
