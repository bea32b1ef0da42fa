-- Reading and writing memory, address by address.
use Rattle.std.proofs.Common.{◌≡◌, ℕ, ◌+◌, ◌<◌, ◌≤◌, ◌⊎◌, inl, inr, List, length, arith}
use Rattle.std.specs.List.{slice_get}
use Rattle.gp_base.proofs.Overwriting.{get_drop, get_take, get_overwritten, get_before, get_behind}
use Rattle.rv_step.specs.Memory.{Memory, IsInside, byte_at, read_at, write_at}

pub byte-read_at : (m : Memory) (a n k : ℕ) → IsInside m a n → k < n → slice_get (read_at m a n) k ≡ byte_at m (a + k)
byte-read_at m a n k h lt = grind (arith, get_take, get_drop)

pub byte-write_at : (m : Memory) (a : ℕ) (bs : List ℕ) (k : ℕ) → IsInside m a (length bs) → k < length bs → byte_at (write_at m a bs) (a + k) ≡ slice_get bs k
unfolding write_at
byte-write_at m a bs k h lt = grind (arith, get_overwritten)

pub byte-write_at_other : (m : Memory) (a : ℕ) (bs : List ℕ) (p : ℕ) → IsInside m a (length bs) → (p < a) ⊎ (a + length bs ≤ p) → byte_at (write_at m a bs) p ≡ byte_at m p
unfolding write_at
byte-write_at_other m a bs p h (inl lt) = grind (arith, get_before)
byte-write_at_other m a bs p h (inr past) = grind (arith, get_behind)
