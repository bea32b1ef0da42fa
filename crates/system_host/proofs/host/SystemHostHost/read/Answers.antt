use Rattle.std.proofs.Common.{refl}
use Rattle.system_host.proofs.Calls.{moves_seen, moves_none_seen, told_law}
use Rattle.system_host.proofs.host.SystemHostHost.read.Goals as goal

pub returns-in-Some-clause-moves : goal.returns-in-Some-clause-moves
returns-in-Some-clause-moves g c =
    let input = c.self.inside.input in
    let law = told_law c.self.inside.tells (g.S.System.disk c.self.inside.system) g.S.Input.Read.remaining (g.met.S.System.told_inputs c.self.inside.system) in
    let done = c.in-Some.ensures in
    moves_seen g.S.Input.Read.remaining input c.moved.new.input c.args.buf.now c.moved.new.buf _ _ c.in-Some.n _ c.self.view_is refl law done.still_open done.gave refl c.moved.auto.buf done.fits c.requires.some_room c.requires.is_open

pub returns-in-None-clause-moves : goal.returns-in-None-clause-moves
returns-in-None-clause-moves g c =
    let input = c.self.inside.input in
    let law = told_law c.self.inside.tells (g.S.System.disk c.self.inside.system) g.S.Input.Read.remaining (g.met.S.System.told_inputs c.self.inside.system) in
    rw c.read_failed.ensures.counted (moves_none_seen g.S.Input.Read.remaining input c.moved.new.input c.args.buf.now c.moved.new.buf _ _ c.read_failed.result c.self.view_is refl law c.in-None.ensures.still_open c.in-None.ensures.gave)
