-- Histograms and counts of blocks that were read field by field.
use Rattle.std.proofs.Common.{◌≡◌, ℕ, ◌<◌, ◌≤◌, false, ltb, leb, ◌&&◌, ◌⊎◌, inl, inr}
use Rattle.std.proofs.lemmas.Bool.{le-ltb, lt-leb, and_left, and_right}

pub ranged : (n low high : ℕ) → (0 < n × low < high) ⊎ (n ≤ 0) → (ltb 0 n && leb high low) ≡ false
ranged n low high (inl some) = and_right (ltb 0 n) (leb high low) (lt-leb high low some.1)
ranged n low high (inr none) = and_left (ltb 0 n) (leb high low) (le-ltb 0 n none)
