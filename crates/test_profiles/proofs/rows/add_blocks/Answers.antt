use Rattle.std.proofs.Common.{◌+◌, ◌<◌, length, take, subst, sym, arith}
use Rattle.std.proofs.lemmas.List.{length-take}
use Rattle.test_profiles.specs.Rows.{HasRows}
use Rattle.test_profiles.proofs.RowLemmas.{one_block, rows_within}
use Rattle.test_profiles.proofs.rows.add_blocks.Goals as goal

pub add_runs-requires : goal.add_runs-requires
add_runs-requires c =
    let i = c.loop-addr.addr-index in
    let all : i < length (take c.min.result c.args.rows.now) = c.loop-addr-test.true in
    let few : i < 2000 = omega (arith, length-take c.min.result c.args.rows.now) in
    rows_within 2000 2000 (i + 1) _ (omega arith) (omega arith) (omega arith) (one_block 2000 2000 i c.loop-addr.profile c.loop-addr.invariant _ c.min-in-loop-addr.result (omega arith))

pub loop-addr-preserved : goal.loop-addr-preserved
loop-addr-preserved c =
    let i = c.loop-addr.addr-index in
    subst (HasRows 2000 2000 (i + 1)) (sym c.in_ok-add_runs.ensures.added) (one_block 2000 2000 i c.loop-addr.profile c.loop-addr.invariant _ c.min-in-loop-addr.result (omega arith))
