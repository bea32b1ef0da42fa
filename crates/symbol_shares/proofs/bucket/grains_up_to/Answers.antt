use Rattle.std.proofs.Common.{arith}
use Rattle.std.proofs.Math.Nat.{mul-div_left}
use Rattle.symbol_shares.proofs.bucket.grains_up_to.Goals as goal

pub returns-then-place-width : goal.returns-then-place-width
returns-then-place-width c = grind (arith, mul-div_left)
