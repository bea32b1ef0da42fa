use Rattle.std.proofs.Common.{[], ◌∷◌, None}
use Rattle.std.specs.Prelude.{if◌then◌else◌}
use Rattle.host_port.specs.Act.{Create, disk_after}
use Rattle.system_host.proofs.Calls.{creates_seen, becomes_told, empty_told}
use Rattle.system_host.proofs.host.SystemHostHost.create_output.Goals as goal

pub returns-in-Ok-clause-creates : goal.returns-in-Ok-clause-creates
returns-in-Ok-clause-creates g c =
    let now = c.create.new.self in
    let made = c.in-Ok.ensures in
    let tells = c.self.inside.tells in
    let old = g.S.System.disk c.self.inside.system in
    creates_seen c.args.name.now (if tells then g.S.System.disk now else None) (g.S.System.printed now) (g.S.System.complained now) _ _ _ c.self.view_is c.requires (becomes_told (disk_after (Create c.args.name.now ∷ [])) tells old (g.S.System.disk now) made.done) (empty_told tells (g.S.System.disk now) _ made.empty) made.out made.err c.saturating_add-self-inside.ensures
