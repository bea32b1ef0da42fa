use Rattle.host_port.proofs.EntryLemmas.{Passed}
use Rattle.folder_system.specs.Memory.{file_of}
use Rattle.folder_system.proofs.mem_folder.find.Given as goal

abbrev pub invariant-loop-i : goal.invariant-loop-i
invariant-loop-i l = Passed file_of l.name l.files l.i
