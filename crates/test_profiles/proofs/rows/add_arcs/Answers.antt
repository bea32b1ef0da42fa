use Rattle.std.proofs.Common.{◌+◌, ◌<◌, length, take, subst, sym, arith}
use Rattle.std.proofs.lemmas.List.{length-take}
use Rattle.test_profiles.specs.Rows.{HasRows}
use Rattle.test_profiles.proofs.RowLemmas.{one_arc, rows_within}
use Rattle.test_profiles.proofs.rows.add_arcs.Goals as goal

pub add_calls-requires : goal.add_calls-requires
add_calls-requires c =
    let i = c.loop-from.from-index in
    let all : i < length (take c.min.result c.args.rows.now) = c.loop-from-test.true in
    let few : i < 2000 = omega (arith, length-take c.min.result c.args.rows.now) in
    rows_within 2000 (i + 1) 0 _ (omega arith) (omega arith) (omega arith) (one_arc 2000 i 0 c.loop-from.profile c.loop-from.invariant _ _ c.min-in-loop-from.result (omega arith))

pub loop-from-preserved : goal.loop-from-preserved
loop-from-preserved c =
    let i = c.loop-from.from-index in
    subst (HasRows 2000 (i + 1) 0) (sym c.in_ok-add_calls.ensures.added) (one_arc 2000 i 0 c.loop-from.profile c.loop-from.invariant _ _ c.min-in-loop-from.result (omega arith))
