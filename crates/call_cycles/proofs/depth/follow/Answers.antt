use Rattle.std.proofs.Common.{◌≡◌, ◌<◌, ◌+◌, ℕ, List, length, sym, ap, ◌∙◌, subst, arith}
use Rattle.std.specs.Prelude.{filter, nat_le, slice_set}
use Rattle.std.proofs.lemmas.List.{get_or_read}
use Rattle.std.proofs.lemmas.Result.{IfOk-weaker}
use Rattle.call_cycles.specs.Passes.{IsNext, PassValue, pass_of, caller_at, callee_at, place_in, rank_in}
use Rattle.call_cycles.proofs.PassLemmas.{seen_next, callee_reached, passed_next, joined_next}
use Rattle.call_cycles.proofs.depth.follow.Goals as goal
use Rattle.call_cycles.proofs.depth.follow.Goals.{then-index-eq0, else-index-eq0}

pub returns-then-place-eq0 : goal.returns-then-place-eq0
returns-then-place-eq0 c =
    let arcs = c.args.arcs.now in
    let p : PassValue = pass_of c.args.pass.now in
    let callee = callee_at arcs c.args.i in
    let to = (c.requires.within c.args.i c.requires.arc).1 in
    let placed : c.index-place.result.now ≡ place_in p callee = get_or_read p.places callee _ to c.index-place.ensures 0 in
    record {
      step = IfOk-weaker c.see.result _ _
          (λ _ is.
          subst (IsNext (length p.places) arcs p) (sym is)
          (seen_next (length p.places) arcs p c.requires.pass callee to (sym placed ∙ c.if-place-eq0.true)
          (callee_reached (length p.places) arcs c.requires.within p c.requires.pass c.args.i c.requires.arc c.requires.last c.requires.next)))
          c.see.ensures.seen;
    }

pub returns : goal.returns
returns c =
    let arcs = c.args.arcs.now in
    let p : PassValue = pass_of c.args.pass.now in
    let i = c.args.i in
    let callee = callee_at arcs i in
    let to = (c.requires.within i c.requires.arc).1 in
    let placed : c.index-place.result.now ≡ place_in p callee = get_or_read p.places callee _ to c.index-place.ensures 0 in
    let inside : callee < length p.ranks = omega arith in
    let ranked : c.index.result.now ≡ rank_in p callee = get_or_read p.ranks callee _ inside c.index.ensures 0 in
    elim c.if-index-eq0.branch [
      | then-index-eq0 w ↦ rw w.pass-is (record {
        step = subst (λ (xs : List ℕ). IsNext (length p.places) arcs p (record p { next = slice_set p.next (caller_at arcs i) (i + 1); parts = xs }))
            (sym (w.join.ensures.joined ∙ ap (λ (x : ℕ). filter (λ b. nat_le b x) p.parts) placed))
            (joined_next (length p.places) arcs c.requires.within p c.requires.pass i c.requires.arc c.requires.last c.requires.next
            ((λ none. c.if-place-eq0.false (placed ∙ none)), sym ranked ∙ w.if-index-eq0.true));
      })
      | else-index-eq0 w ↦ rw w.pass-is (record {
        step = passed_next (length p.places) arcs c.requires.within p c.requires.pass i c.requires.arc c.requires.last c.requires.next (λ none. w.if-index-eq0.false (ranked ∙ none));
      })
    ]
