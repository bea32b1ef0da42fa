use Rattle.host_port.proofs.EntryLemmas.{Passed}
use Rattle.host_port.specs.Entries.{file_of}
use Rattle.host_port.proofs.files.find.Given as goal

abbrev pub invariant-loop-i : goal.invariant-loop-i
invariant-loop-i l = Passed file_of l.name l.entries l.i
