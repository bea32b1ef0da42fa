-- What is so for each of the four fractions.
use Rattle.std.proofs.Common.{ℕ, max, inl, inr, sym, subst, arith}
use Rattle.std.proofs.lemmas.Bool.{cases_lt}
use Rattle.std.proofs.Math.Nat.{max-eq_left, max-eq_right}
use Rattle.settings.specs.Setup.{IsFraction}

-- the larger of two is one of the four
pub IsFraction-max : (h k : ℕ) → IsFraction h → IsFraction k → IsFraction (max h k)
IsFraction-max h k is_h is_k = elim (cases_lt h k) [
  | inl lt ↦ subst IsFraction (sym (max-eq_right (omega arith))) is_k
  | inr le ↦ subst IsFraction (sym (max-eq_left le)) is_h
]
