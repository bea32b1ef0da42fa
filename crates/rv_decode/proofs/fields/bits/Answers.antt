use Rattle.std.proofs.Common.{refl}
use Rattle.std.proofs.lemmas.Nat.{one_shl, and_mask}
use Rattle.rv_decode.proofs.fields.bits.Goals as goal

pub returns : goal.returns
returns c = rw (one_shl c.args.count 32 c.requires.count, and_mask) refl
