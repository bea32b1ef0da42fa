use Rattle.std.proofs.Common.{◌≡◌, ℕ, ◌+◌, ◌≤◌, ◌<◌, length, List, arith, sym, ap}
use Rattle.gp_base.proofs.LittleEndian.{field_is}
use Rattle.std.proofs.lemmas.List.{get_or_read}
use Rattle.rv_step.specs.Memory.{Memory}
use Rattle.rv_step.proofs.Places.{value_is}
use Rattle.rv_step.proofs.memory.Ram.byte.Goals as goal

pub returns : goal.returns
returns c =
    let bs = c.self.inside.bytes.items in
    let same : c.args.self.now.bytes ≡ bs = ap (λ (m : Memory). m.bytes) (sym c.self.view_is) in
    let here : c.args.at + 1 ≤ length bs = omega (arith, ap (λ (v : List ℕ). length v) same) in
    let within : c.args.at < length bs = omega arith in
    omega (arith, get_or_read bs c.args.at _ within c.index.ensures 0, field_is 1 c.args.at bs here, value_is c.args.self.now c.args.at 1 bs same)
