use Rattle.std.proofs.Common.{◌+◌, ◌<◌, length, take, subst, sym, arith}
use Rattle.std.proofs.lemmas.List.{length-take}
use Rattle.test_profiles.specs.Rows.{HasRows}
use Rattle.test_profiles.proofs.RowLemmas.{more_rows, one_hist, rows_within}
use Rattle.test_profiles.proofs.rows.add_hists.Goals as goal
use Rattle.test_profiles.proofs.rows.add_hists.Goals.{then-hist+in_ok-add_wide, else-hist}

pub add_wide-requires-clause-within : goal.add_wide-requires-clause-within
add_wide-requires-clause-within c = λ none.
    let i = c.loop-row.row-index in
    let all : i < length (take c.min.result c.args.rows.now) = c.loop-row-test.true in
    let few : i < 2000 = omega (arith, length-take c.min.result c.args.rows.now) in
    rows_within (i + 1) 0 0 _ (omega arith) (omega arith) (omega arith) (one_hist i 0 0 c.loop-row.profile c.loop-row.invariant c.in_ok-hist.hist c.args.«unit» c.in_ok-hist.ensures)

pub loop-row-preserved : goal.loop-row-preserved
loop-row-preserved c =
    let i = c.loop-row.row-index in
    elim c.if-hist.branch [
      | then-hist+in_ok-add_wide w ↦ rw w.profile-is (subst (HasRows (i + 1) 0 0) (sym w.in_ok-add_wide.ensures.added) (one_hist i 0 0 c.loop-row.profile c.loop-row.invariant c.in_ok-hist.hist c.args.«unit» c.in_ok-hist.ensures))
      | else-hist w ↦ rw w.profile-is (more_rows i (i + 1) 0 0 0 0 c.loop-row.profile (omega arith) (omega arith) (omega arith) c.loop-row.invariant)
    ]
