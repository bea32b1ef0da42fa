use Rattle.rv_step.proofs.MemoryMap.{byte-read_at, byte-write_at, byte-write_at_other}
use Rattle.rv_step.proofs.memory.memory_map.Goals as goal

pub returns : goal.returns
returns c = search (byte-read_at, byte-write_at, byte-write_at_other)
