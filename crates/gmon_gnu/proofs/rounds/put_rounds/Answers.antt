use Rattle.std.proofs.Common.{◌≡◌, ◌+◌, ◌-◌, take, refl, arith}
use Rattle.std.specs.List.{flat_map, range_with_len}
use Rattle.std.proofs.lemmas.List.FromFn.{length-range_with_len}
use Rattle.std.proofs.lemmas.Result.{err_from_is_err_and}
use Rattle.host_port.specs.declared.side.Side.TheVariants.{File}
use Rattle.host_port.proofs.BufferLemmas.{adds_then}
use Rattle.gmon_cells.proofs.PuttingLemmas.{from_zero, put_all, put_more, put_none, put_stop}
use Rattle.gmon_gnu.specs.Pieces.{left_of, round_bytes, rounds_text}
use Rattle.gmon_gnu.proofs.RoundLemmas.{all_marked, kept_same, marks_later, rounds_same, rounds_split}
use Rattle.gmon_gnu.proofs.rounds.put_rounds.Goals as goal

pub loop-j-init : goal.loop-j-init
loop-j-init g c = record { put = put_none c.requires.ready; marked = all_marked 0 c.part_size-size.result 32768 c.args.profile.now.blocks refl }

pub loop-j-preserved : goal.loop-j-preserved
loop-j-preserved g c =
    let j = c.loop-j.j in
    record {
      put = put_more (from_zero c.args.rounds j c.loop-j-test.true) c.loop-j.invariant.put c.in_ok-put_round.ensures.adds;
      marked = marks_later j (j + 1) c.part_size-size.result c.args.profile.now.blocks c.list_left-left.new.marks (omega arith) c.list_left-left.ensures.marked;
    }

pub returns-in_err-put_round-clause-adds : goal.returns-in_err-put_round-clause-adds
returns-in_err-put_round-clause-adds g c =
    let p = err_from_is_err_and c.from_residual.result c.from_residual.ensures.1 in
    rw p.1 (put_stop (from_zero c.args.rounds c.loop-j.j c.loop-j-test.true) c.loop-j.invariant.put c.in_err-put_round.ensures.adds)

pub returns-then-left-le-FEW-clause-adds : goal.returns-then-left-le-FEW-clause-adds
returns-then-left-le-FEW-clause-adds g c =
    let es = c.args.profile.now.blocks in
    let j = c.loop-j.j in
    let n = c.args.rounds in
    let few = take c.list_left-left.result c.list_left-left.new.few in
    let listed : few ≡ left_of j es = c.list_left-left.ensures.listed (omega (arith, c.if-left-le-FEW.true, c.if-left-le-FEW.array_long)) in
    let same = kept_same j few es es listed (λ k le. refl) in
    let later = rw (rounds_same few es j (n - j) same) at c.put_few_rounds.ensures.adds in
    rw (← rounds_split j n es) (adds_then File (flat_map (round_bytes es) (take j (range_with_len 0 n))) (rounds_text j (n - j) es) _ _ _ _ _ _ (tt {0}) _ c.loop-j.invariant.put.put later)

pub returns-clause-adds : goal.returns-clause-adds
returns-clause-adds g c = put_all (omega (arith, c.loop-j-test.false, length-range_with_len 0 c.args.rounds)) c.loop-j.invariant.put
