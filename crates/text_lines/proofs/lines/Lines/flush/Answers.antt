use Rattle.host_port.specs.declared.side.Side.TheVariants.{Output}
use Rattle.text_lines.proofs.LineLemmas.{adds_out, no_line}
use Rattle.text_lines.proofs.lines.Lines.flush.Goals as goal

pub returns-clause-adds : goal.returns-clause-adds
returns-clause-adds g c =
    let last = c.make_room.new.self.last in
    adds_out Output _ c.make_room.new.self.before c.flush.new.self last _ _ _ _ _ (no_line last c.in_ok-make_room.ensures.room) c.in_ok-make_room.ensures.adds c.flush.ensures.adds
