use Rattle.std.proofs.Common.{◌≡◌, ◌<◌, ℕ, length, get_or, sym, ◌∙◌, arith}
use Rattle.std.proofs.lemmas.List.{get_or_default}
use Rattle.std.proofs.lemmas.List.Filters.{FiltersInPlace-more_set, FiltersInPlace-more_no}
use Rattle.gmon_gnu.proofs.rounds.keep_left.Goals as goal

pub loop-i-preserved : goal.loop-i-preserved
loop-i-preserved c =
    let xs = c.loop-i.few in
    let i = c.loop-i.i in
    let e : ℕ × ℕ = get_or xs i (0, 0) in
    let within : i < length xs = omega (arith, c.loop-i-test.true, c.requires.listed, c.loop-i.invariant.long) in
    let is : e ≡ get_or xs i e = get_or_default xs i (0, 0) e within in
    elim c.if-has_left.branch [
      | goal.then-has_left w ↦ rw (w.few-is, w.kept-is) (FiltersInPlace-more_set c.loop-i.invariant within (sym c.has_left.ensures ∙ w.if-has_left.true) is)
      | goal.else-has_left w ↦ rw (w.few-is, w.kept-is) (FiltersInPlace-more_no c.loop-i.invariant within (sym c.has_left.ensures ∙ w.if-has_left.false) is)
    ]
