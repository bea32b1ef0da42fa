use Rattle.std.proofs.Common.{ℕ, sym, subst, ◌∙◌, arith}
use Rattle.std.specs.Int.{IsGcd}
use Rattle.std.proofs.lemmas.Nat.Gcd.{IsGcd-from_zero, IsGcd-from_mod}
use Rattle.fraction128.proofs.DivisorLemmas.{gcd_is, is_gcd, gcd_some}
use Rattle.fraction128.proofs.divisors.divisor.Goals as goal

pub loop-y-preserved : goal.loop-y-preserved
loop-y-preserved c g h = c.loop-y.invariant g (IsGcd-from_mod _ _ g h)

pub returns-clause-value : goal.returns-clause-value
returns-clause-value c = is_gcd _ _ _ (c.loop-y.invariant _ (IsGcd-from_zero _ _ (omega arith)))

pub returns-clause-some : goal.returns-clause-some
returns-clause-some c = λ some. let is = returns-clause-value c in let more = gcd_some c.args.a c.args.b some in omega arith

pub returns-then-not-is_wide-2-clause-value : goal.returns-then-not-is_wide-2-clause-value
returns-then-not-is_wide-2-clause-value c =
    is_gcd _ _ _ (c.loop-y.invariant _ (subst (λ (g : ℕ). IsGcd c.loop-y.x c.loop-y.y g) (sym (c.from.ensures ∙ c.narrow_divisor.ensures)) (gcd_is c.loop-y.x c.loop-y.y)))

pub returns-then-not-is_wide-2-clause-some : goal.returns-then-not-is_wide-2-clause-some
returns-then-not-is_wide-2-clause-some c = λ some. let is = returns-then-not-is_wide-2-clause-value c in let more = gcd_some c.args.a c.args.b some in omega arith
