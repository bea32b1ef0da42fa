use Rattle.std.proofs.Common.{drop, map, string_bytes}
use Rattle.std.specs.Prelude.{filter}
use Rattle.gmon_data.proofs.RecordLemmas.{IsUnderway}
use Rattle.profile_sum.specs.Sum.{arc_record}
use Rattle.arc_filter.specs.Cuts.{stays}
use Rattle.arc_filter.proofs.cuts.put_arcs.Given as goal

-- the arcs so far that stay are put
abbrev pub invariant-loop-i : goal.invariant-loop-i
invariant-loop-i l =
    IsUnderway (map arc_record (filter (stays l.symbols (map string_bytes l.cuts)) l.profile.arcs))
    (map arc_record (filter (stays l.symbols (map string_bytes l.cuts)) (drop l.i l.profile.arcs))) l.initial.left l.left
