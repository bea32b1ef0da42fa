use Rattle.std.proofs.Common.{length, sym, ◌∙◌, arith}
use Rattle.host_port.proofs.EntryLemmas.{past_the_end}
use Rattle.host_port.proofs.files.start_of.Goals as goal

pub returns-in-Some : goal.returns-in-Some
returns-in-Some c = sym c.in-Some.ensures.found.1

pub returns-in-None : goal.returns-in-None
returns-in-None c = past_the_end c.args.entries.now (length c.args.entries.now) (omega arith) ∙ sym c.in-None.ensures.found.1
