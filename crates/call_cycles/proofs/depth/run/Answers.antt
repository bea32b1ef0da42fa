use Rattle.std.proofs.Common.{◌≡◌, ◌<◌, ◌-◌, ◌&&◌, ℕ, List, length, Some, slice_index, sym, ap, ◌∙◌, subst, arith}
use Rattle.std.specs.Prelude.{◌==◌, nat_lt, slice_get}
use Rattle.std.proofs.lemmas.List.{get_or_read}
use Rattle.call_cycles.specs.Passes.{PassValue, IsNext, pass_of, caller_at}
use Rattle.call_cycles.proofs.PassLemmas.{last_of, last_call_within, left_next, all_followed}
use Rattle.call_cycles.proofs.depth.run.Goals as goal
use Rattle.call_cycles.proofs.depth.run.Goals.{In_ok-leave}

left_on : (c : In_ok-leave) → IsNext (length c.args.pass.now.places.items) c.args.arcs.now (pass_of c.loop-f.pass) (pass_of c.leave.new.pass)
left_on c =
    let n = length c.args.pass.now.places.items in
    let arcs = c.args.arcs.now in
    let f = c.in-Some.f in
    let p : PassValue = pass_of c.loop-f.pass in
    let calls = p.calls in
    let last : slice_get calls (length calls - 1) ≡ Some f = ap (λ (xs : List ℕ). slice_get xs (length xs - 1)) (sym c.deref.ensures.value) ∙ sym c.last.ensures.value ∙ sym c.in-Some.ensures in
    let ends = last_of calls f last in
    let low = last_call_within n arcs p c.loop-f.invariant.pass f ends in
    let inside : f < length p.next = omega arith in
    let next : c.index-i.result.now ≡ slice_index p.next f = get_or_read p.next f _ inside c.index-i.ensures 0 in
    let none = ap (λ (i : ℕ). nat_lt i (length arcs) && caller_at arcs i == f) (sym next) ∙ sym c.is_arc_of.ensures ∙ c.if-is_arc_of.false in
    let all = all_followed n arcs p c.loop-f.invariant.pass c.requires.ordered f low none in
    subst (IsNext n arcs p) (sym c.in_ok-leave.ensures.left) (left_next n arcs p c.loop-f.invariant.pass f ends all)

pub loop-f-preserved : goal.loop-f-preserved
loop-f-preserved c = grind (arith, left_on)
