use Rattle.std.proofs.Common.{append-nil, length-append, arith}
use Rattle.std.proofs.lemmas.List.{get_or_default, nil_from_length}
use Rattle.gmon_gnu.proofs.RoundLemmas.{left_of_part_more, marks_set}
use Rattle.gmon_gnu.proofs.rounds.list_left.Goals as goal

pub loop-part-preserved : goal.loop-part-preserved
loop-part-preserved c = grind (arith, left_of_part_more, length-append, marks_set, nil_from_length, get_or_default, append-nil)
