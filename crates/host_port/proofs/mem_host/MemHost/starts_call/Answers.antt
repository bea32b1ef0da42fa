use Rattle.std.proofs.Common.{subst}
use Rattle.std.specs.Prelude.{IsTrue, ◌↔◌}
use Rattle.host_port.specs.Memory.{Memory, IsMarked}
use Rattle.host_port.proofs.mem_host.MemHost.starts_call.Goals as goal

pub returns-clause-fails : goal.returns-clause-fails
returns-clause-fails c =
    let P : Memory → Type 0 = λ m. IsTrue c.is_marked-fails.result ↔ IsMarked m in
    subst P c.self.view_is (rw c.as_slice.ensures.value at c.is_marked-fails.ensures)
