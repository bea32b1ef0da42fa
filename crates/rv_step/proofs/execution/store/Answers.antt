use Rattle.std.proofs.Common.{ℕ, sym, ap, ◌∙◌, ◌+◌}
use Rattle.gp_base.specs.Bytes.{le}
use Rattle.rv_step.specs.Alu.{store_width}
use Rattle.rv_step.specs.Memory.{Memory, write_at}
use Rattle.rv_step.specs.Step.{retirement, at_next}
use Rattle.rv_step.proofs.Accesses.{store_retires}
use Rattle.rv_step.proofs.execution.store.Goals as goal

pub returns-in-Some-clause-outcome : goal.returns-in-Some-clause-outcome
returns-in-Some-clause-outcome c =
    let i = c.args.instr.now in
    let s = c.args.regs.now in
    let m = c.args.ram.now in
    let width = c.store_width-width.ensures.width ∙ ap store_width (sym c.requires) in
    let stored = c.put.ensures.stored ∙ ap (λ (v : ℕ). write_at m (m.base + c.in-Some.at) (le c.get.result v)) (ap store_width (sym c.requires)) ∙ ap (λ (v : ℕ). write_at m (m.base + c.in-Some.at) (le v (store_width i.op))) c.get.ensures.value in
    c.pass.ensures c.put.new.ram
    ∙ ap (λ (v : Memory). retirement (at_next s) v) stored
    ∙ sym (store_retires i s m c.address-addr.result c.store_width-width.result c.in-Some.at c.address-addr.ensures width c.if-addr-width-ne0.false c.in-Some.ensures)
