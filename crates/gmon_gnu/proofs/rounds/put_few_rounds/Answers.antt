use Rattle.std.proofs.Common.{◌≡◌, ◌+◌, ◌-◌, take, refl, arith}
use Rattle.std.proofs.lemmas.List.FromFn.{length-range_with_len}
use Rattle.std.proofs.lemmas.Result.{err_from_is_err_and}
use Rattle.gmon_cells.proofs.PuttingLemmas.{counted, put_all, put_more, put_none, put_stop}
use Rattle.gmon_gnu.proofs.RoundLemmas.{kept_same, round_same, left_of_twice}
use Rattle.gmon_gnu.proofs.rounds.put_few_rounds.Goals as goal

pub loop-j-init : goal.loop-j-init
loop-j-init g c =
    let none : c.args.first - c.args.first ≡ 0 = omega arith in
    record { put = rw none (put_none c.requires.ready); same = λ i le. refl; within = c.requires.listed }

pub put_few-requires-clause-counted : goal.put_few-requires-clause-counted
put_few-requires-clause-counted g c = grind (arith, left_of_twice)

pub loop-j-preserved : goal.loop-j-preserved
loop-j-preserved g c =
    let es = take c.args.listed c.args.few.now in
    let first = c.args.first in
    let j = c.loop-j.j in
    let now = take c.keep_left-left.result c.keep_left-left.new.few in
    let same = kept_same j now (take c.loop-j.left c.loop-j.few) es c.keep_left-left.ensures.kept c.loop-j.invariant.same in
    let more : j - first + 1 ≡ j + 1 - first = omega (arith, c.loop-j.auto.j) in
    let at = counted first (c.args.rounds - first) (j - first) j (omega (arith, c.loop-j-test.true, c.loop-j.auto.j)) (omega (arith, c.loop-j.auto.j)) in
    record {
      put = rw (← more) (put_more at c.loop-j.invariant.put (rw (round_same now es j same) at c.in_ok-put_few.ensures.adds));
      same = λ k le. same k (omega (arith, le));
      within = omega (arith, c.keep_left-left.ensures.fewer, c.loop-j.invariant.within, c.keep_left-left.auto.few);
    }

pub returns-in_err-put_few-clause-adds : goal.returns-in_err-put_few-clause-adds
returns-in_err-put_few-clause-adds g c =
    let p = err_from_is_err_and c.from_residual.result c.from_residual.ensures.1 in
    let es = take c.args.listed c.args.few.now in
    let first = c.args.first in
    let j = c.loop-j.j in
    let now = take c.keep_left-left.result c.keep_left-left.new.few in
    let same = kept_same j now (take c.loop-j.left c.loop-j.few) es c.keep_left-left.ensures.kept c.loop-j.invariant.same in
    let at = counted first (c.args.rounds - first) (j - first) j (omega (arith, c.loop-j-test.true, c.loop-j.auto.j)) (omega (arith, c.loop-j.auto.j)) in
    rw p.1 (put_stop at c.loop-j.invariant.put (rw (round_same now es j same) at c.in_err-put_few.ensures.adds))

pub returns-clause-adds : goal.returns-clause-adds
returns-clause-adds g c =
    put_all (omega (arith, c.loop-j-test.false, c.loop-j.auto.j, length-range_with_len c.args.first (c.args.rounds - c.args.first))) c.loop-j.invariant.put
