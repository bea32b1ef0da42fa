use Rattle.std.proofs.Common.{◌≡◌, ℕ, map, take}
use Rattle.exact_flow.proofs.tables.numbers.Given as goal

abbrev pub invariant-loop-p : goal.invariant-loop-p
invariant-loop-p l = l.numbers.items ≡ map (λ (p : ℕ × ℕ). p.1) (take l.p-index l.arcs)
