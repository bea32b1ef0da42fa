use Rattle.std.proofs.Common.{◌≡◌, ◌+◌, ◌≤◌, ℕ, List, length, arith, sym, ap, ◌∙◌}
use Rattle.std.proofs.lemmas.List.{with_items_is}
use Rattle.rv_step.proofs.Places.{written_is, length-copied}
use Rattle.rv_step.specs.Memory.{Memory}
use Rattle.rv_step.proofs.memory.Ram.write.Goals as goal

pub returns-clause-written : goal.returns-clause-written
returns-clause-written c =
    let inside = c.self.inside in
    let same : c.args.self.now.bytes ≡ inside.bytes.items = ap (λ (m : Memory). m.bytes) (sym c.self.view_is) in
    let fits : c.args.at + length c.args.piece.now ≤ length c.deref_mut.result.now = omega (arith, ap (λ (v : List ℕ). length v) same, ap (λ (v : List ℕ). length v) c.deref_mut.ensures.value) in
    rw (← c.self.view_is) (written_is inside.base c.args.at _ inside.bytes.items c.deref_mut.result.now c.copy_from_slice.new.self c.args.piece.now
    (with_items_is inside.bytes _ (length-copied c.args.at c.deref_mut.result.now c.copy_from_slice.new.self c.args.piece.now fits c.copy_from_slice.ensures.after ∙ c.deref_mut.ensures.len))
    c.deref_mut.ensures.value c.copy_from_slice.ensures.after)
