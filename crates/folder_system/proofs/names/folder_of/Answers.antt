use Rattle.std.proofs.Common.{rules}
use Rattle.folder_system.proofs.NameLemmas.{split_by}
use Rattle.folder_system.proofs.names.folder_of.Goals as goal

pub returns-in-None : goal.returns-in-None
returns-in-None c =
    let split = split_by c.args.name.now _ c.rsplit_once.ensures.cases in
    rw (← split) (grind rules)

pub returns-then-is_empty : goal.returns-then-is_empty
returns-then-is_empty c =
    let split = split_by c.args.name.now _ c.rsplit_once.ensures.cases in
    rw (← split) (grind rules)

pub returns-else-is_empty : goal.returns-else-is_empty
returns-else-is_empty c =
    let split = split_by c.args.name.now _ c.rsplit_once.ensures.cases in
    rw (← split) (grind rules)
