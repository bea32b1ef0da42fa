use Rattle.folder_system.specs.Events.{Follows}
use Rattle.folder_system.specs.Place.{AreTaken}
use Rattle.folder_system.proofs.place.make.Given as goal

-- each name beside that was tried is taken
abbrev pub invariant-loop-n : goal.invariant-loop-n
invariant-loop-n g l = Follows (AreTaken l.name l.mode l.n) (g.F.Folder.history l.fn.folder) (g.F.Folder.history l.folder)
