use Rattle.std.proofs.Common.{◌*◌}
use Rattle.std.proofs.Math.Nat.{mul-pos}
use Rattle.fraction128.proofs.DivisorLemmas.{coprime_quotients, lowest_some}
use Rattle.fraction128.proofs.fracs.Frac.mul.Goals as goal

pub invariant_of-result : goal.invariant_of-result
invariant_of-result c =
    let x = c.args.self.now in
    let y = c.args.other.now in
    let some = mul-pos x.some y.some in
    record {
      some = rw c.in_ok-num.ensures.den (lowest_some (x.num * y.num) (x.den * y.den) some);
      lowest = rw (c.in_ok-num.ensures.num, c.in_ok-num.ensures.den) (coprime_quotients (x.num * y.num) (x.den * y.den) some);
    }
