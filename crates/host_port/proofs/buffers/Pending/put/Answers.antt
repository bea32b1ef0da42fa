use Rattle.std.proofs.Common.{arith}
use Rattle.std.proofs.lemmas.Grind.{common_steps}
use Rattle.host_port.proofs.BufferLemmas.{adds_kept, adds_flushed}
use Rattle.host_port.proofs.buffers.Pending.put.Goals as goal

pub returns-then-bytes-room-clause-adds : goal.returns-then-bytes-room-clause-adds
returns-then-bytes-room-clause-adds g c = adds_kept c.args.side c.args.bytes.now c.args.self.now c.keep.new.self _ tt c.keep.ensures

pub returns-then-bytes-gt-ROOM-clause-adds : goal.returns-then-bytes-gt-ROOM-clause-adds
returns-then-bytes-gt-ROOM-clause-adds g c =
    adds_flushed c.args.side c.args.bytes.now c.args.self.now c.flush.new.self _ _ _ _ _ c.in_ok-flush.ensures.emptied c.in_ok-flush.ensures.adds c.put_all.ensures.puts

pub returns-then-bytes-room-clause-within : goal.returns-then-bytes-room-clause-within
returns-then-bytes-room-clause-within g c = grind (arith, common_steps)

pub returns-in_err-flush-clause-adds : goal.returns-in_err-flush-clause-adds
returns-in_err-flush-clause-adds g c = grind (arith, common_steps)
