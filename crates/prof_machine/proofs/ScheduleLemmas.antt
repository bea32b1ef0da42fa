-- Rounds of quanta.
use Rattle.std.proofs.Common.{◌%◌, ◌+◌, ◌-◌, ◌/◌, arith, ℕ, ◌≡◌, ◌≤◌}
use Rattle.std.proofs.Math.Nat.{mod-add-mod}

-- within a quantum
pub same_quantum : (n q : ℕ) → 2 ≤ q - n % q → ((n + 1) / q ≡ n / q) × ((n + 1) % q ≡ n % q + 1)
same_quantum n q left = grind arith

-- behind its last turn
pub next_quantum : (n q : ℕ) → q - n % q ≡ 1 → ((n + 1) / q ≡ n / q + 1) × ((n + 1) % q ≡ 0)
next_quantum n q left = grind arith

-- the hart behind the one that so many quanta have come to
pub next_hart_is : (k h : ℕ) → (k % h + 1) % h ≡ (k + 1) % h
next_hart_is k h = mod-add-mod k h 1
