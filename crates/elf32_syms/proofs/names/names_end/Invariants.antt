use Rattle.std.proofs.Common.{◌≡◌, ◌≤◌, ◌<◌, ℕ, length, get_or}
use Rattle.elf32_syms.proofs.names.names_end.Given as goal

abbrev pub invariant-loop-end : goal.invariant-loop-end
invariant-loop-end l = record {
  inside : l.end ≤ length l.strings;
  no_zero : (k : ℕ) → l.end ≤ k → k < length l.strings → get_or l.strings k 0 ≡ 0 → ⊥;
}

abbrev pub decreases-loop-end : goal.decreases-loop-end
decreases-loop-end l = l.end
