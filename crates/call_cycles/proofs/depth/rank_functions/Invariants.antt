use Rattle.std.proofs.Common.{◌≡◌, ◌≢◌, ◌<◌, ℕ, []}
use Rattle.call_cycles.specs.Passes.{IsPass, pass_of, place_in}
use Rattle.call_cycles.proofs.depth.rank_functions.Given as goal

abbrev pub invariant-loop-f : goal.invariant-loop-f
invariant-loop-f l = record {
  pass : IsPass l.functions l.arcs (pass_of l.pass);
  ended : l.pass.calls.items ≡ [];
  seen : (w : ℕ) → w < l.f → place_in (pass_of l.pass) w ≢ 0;
}
