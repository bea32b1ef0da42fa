use Rattle.std.proofs.Common.{refl}
use Rattle.system_host.proofs.Calls.{takes_seen, takes_none_seen, told_law}
use Rattle.system_host.proofs.host.SystemHostHost.write.Goals as goal

pub returns-in-Some-clause-takes : goal.returns-in-Some-clause-takes
returns-in-Some-clause-takes g c =
    let output = c.self.inside.output in
    let law = told_law c.self.inside.tells (g.S.System.disk c.self.inside.system) g.S.Output.Write.contents (g.met.S.System.told_outputs c.self.inside.system) in
    let done = c.in-Some.ensures in
    takes_seen g.S.Output.Write.contents output c.written.new.output c.args.piece.now _ c.in-Some.n _ c.self.view_is refl law done.still_open done.took done.some done.fits c.requires.is_writing

pub returns-in-None-clause-takes : goal.returns-in-None-clause-takes
returns-in-None-clause-takes g c =
    let output = c.self.inside.output in
    rw c.write_failed.ensures.counted (takes_none_seen g.S.Output.Write.contents output c.written.new.output c.args.piece.now _ _ c.write_failed.result c.self.view_is refl c.in-None.ensures.still_open c.requires.is_writing)
