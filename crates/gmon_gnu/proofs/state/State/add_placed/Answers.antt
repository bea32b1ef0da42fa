use Rattle.std.proofs.Common.{◌<◌, List, get_or, length, subst, sym}
use Rattle.std.proofs.lemmas.Option.{slice_get-get_or}
use Rattle.gmon_data.specs.Content.{WideRec, IsAdded, IsWithin as IsWithinLimits, with_records}
use Rattle.gmon_data.proofs.LoopLemmas.{at_all, item_added, item_within, items_done}
use Rattle.gmon_data.proofs.RecordLemmas.{at_begin}
use Rattle.gmon_gnu.specs.declared.profile.Placed.{Placed}
use Rattle.gmon_gnu.proofs.MakingLemmas.{placed_body, placed_in_turn}
use Rattle.gmon_gnu.proofs.state.State.add_placed.Goals as goal

abbrev nowhere : Placed
nowhere = record { range = record { low = 0; high = 0; count = 0 }; entry = 0 }

pub loop-i-init : goal.loop-i-init
loop-i-init c = at_begin _ _

pub add_body-requires-clause-within : goal.add_body-requires-clause-within
add_body-requires-clause-within c =
    let first = c.args.first.now in
    let order = c.args.order.now in
    let p = get_or order c.loop-i.i nowhere in
    let at = slice_get-get_or order c.loop-i.i nowhere c.loop-i-test.true in
    let here = placed_body c.args.self.now first p (at_all (λ q. q.entry < length first) order c.loop-i.i p c.requires.inside at) in
    subst (λ (recs : List WideRec). IsWithinLimits (with_records recs c.loop-i.profile)) here (item_within (placed_in_turn c.args.self.now first) order c.loop-i.i _ _ c.loop-i.invariant _ at c.requires.within)

pub loop-i-preserved : goal.loop-i-preserved
loop-i-preserved c =
    let first = c.args.first.now in
    let order = c.args.order.now in
    let p = get_or order c.loop-i.i nowhere in
    let at = slice_get-get_or order c.loop-i.i nowhere c.loop-i-test.true in
    let here = placed_body c.args.self.now first p (at_all (λ q. q.entry < length first) order c.loop-i.i p c.requires.inside at) in
    item_added (placed_in_turn c.args.self.now first) order c.loop-i.i _ _ c.loop-i.invariant _ at _ (subst (λ (recs : List WideRec). IsAdded recs c.loop-i.profile c.add_body.new.profile) (sym here) c.in_ok-add_body.ensures.added)

pub returns : goal.returns
returns c = items_done (placed_in_turn c.args.self.now c.args.first.now) c.args.order.now c.loop-i.i _ _ c.loop-i.invariant c.loop-i-test.false
