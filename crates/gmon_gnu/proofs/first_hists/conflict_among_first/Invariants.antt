use Rattle.std.proofs.Common.{◌≡◌, [], drop, take}
use Rattle.gmon_gnu.specs.Searching.{counted_hists, unlike_among}
use Rattle.gmon_gnu.proofs.first_hists.conflict_among_first.Given as goal

-- the entries so far have no conflict
abbrev pub invariant-loop-i : goal.invariant-loop-i
invariant-loop-i l = unlike_among [] (counted_hists l.fields l.entries) l.most ≡ unlike_among (counted_hists l.fields (take l.i l.entries)) (counted_hists l.fields (drop l.i l.entries)) l.left
