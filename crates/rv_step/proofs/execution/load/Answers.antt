use Rattle.std.proofs.Common.{sym, ap, ◌∙◌}
use Rattle.rv_step.specs.Alu.{load_width}
use Rattle.rv_step.proofs.Accesses.{load_retires}
use Rattle.rv_step.proofs.execution.load.Goals as goal

pub returns-in-Some : goal.returns-in-Some
returns-in-Some c =
    let m = c.args.ram.now in
    rw (c.value.ensures, ← c.requires) at c.give.ensures m
    ∙ sym (load_retires c.args.instr.now c.args.regs.now m c.address-addr.result c.load_width-width.result c.in-Some.at c.address-addr.ensures (c.load_width-width.ensures.width ∙ ap load_width (sym c.requires)) c.if-addr-width-ne0.false c.in-Some.ensures)
