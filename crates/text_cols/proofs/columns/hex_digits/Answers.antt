use Rattle.std.proofs.Common.{◌≡◌, ◌/◌, arith}
use Rattle.text_cols.specs.Columns.{hex8_of}
use Rattle.text_cols.proofs.columns.hex_digits.Goals as goal

pub returns : goal.returns
unfolding hex8_of
returns c = let lowest : c.args.n / 1 ≡ c.args.n = omega arith in cc
