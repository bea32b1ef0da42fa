use Rattle.gp_base.proofs.LittleEndian.{length-le, IsBytes-le, value_of-le, le-value_of, value_of-below}
use Rattle.gp_base.proofs.bytes.little_endian.Goals as goal

pub returns : goal.returns
returns c = record {
  length = λ n k. length-le k n;
  bytes = λ n k. IsBytes-le k n;
  reads_back = λ n k. value_of-le k n;
  one_spelling = le-value_of;
  below = value_of-below;
}
