use Rattle.std.proofs.lemmas.List.Filters.{FiltersInPlace}
use Rattle.gmon_gnu.specs.Splitting.{has_left}
use Rattle.gmon_gnu.proofs.rounds.keep_left.Given as goal

abbrev pub invariant-loop-i : goal.invariant-loop-i
invariant-loop-i l = FiltersInPlace (λ e. has_left l.j e.1) l.initial.few l.few l.kept l.i
