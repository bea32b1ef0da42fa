use Rattle.std.proofs.Common.{◌≡◌, ◌-◌, ◌<◌, suc, false, nat_eq, length, drop, get_or, subst, arith}
use Rattle.std.proofs.lemmas.Bool.Decides.{nat_tests}
use Rattle.gp_base.specs.declared.records.RawArc.{RawArc}
use Rattle.gmon_data.specs.Arcs.{entries_of, entry_of, IsBehind}
use Rattle.gmon_data.proofs.ArcLemmas.{behind_another, behind_lower, entry_at}
use Rattle.gmon_data.proofs.arcs.is_behind.Goals as goal

abbrev no_arc : RawArc
no_arc = record { from = 0; to = 0; count = 0 }

pub returns-then-arc-pair : goal.returns-then-arc-pair
returns-then-arc-pair c = grind (arith, behind_lower, entry_at)

pub loop-i-preserved : goal.loop-i-preserved
loop-i-preserved c =
    let arcs = c.args.arcs.now in
    let i = c.loop-i.i - 1 in
    let next : c.loop-i.i ≡ suc i = omega arith in
    let inside : i < length arcs = omega arith in
    let arc = get_or arcs i no_arc in
    let site : arc.from ≡ c.args.pair.0 = omega arith in
    let other : nat_eq c.args.pair.1 arc.to ≡ false = grind (arith, nat_tests, c.if-arc-pair-3.false) in
    behind_another c.args.pair (entries_of arcs) i (entry_of arc) (entry_at arcs i no_arc inside) site other
    (subst (λ k. IsBehind c.args.pair (drop k (entries_of arcs))) next c.loop-i.invariant)
