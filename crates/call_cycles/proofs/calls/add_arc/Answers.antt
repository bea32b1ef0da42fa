use Rattle.std.proofs.Common.{◌≡◌, ◌≢◌, ◌<◌, ◌∙◌, true, false, ◌+◌, ℕ, List, length, slice_index, sym, ap, subst, arith}
use Rattle.std.proofs.lemmas.Grind.{get_or_default_zero}
use Rattle.call_cycles.specs.declared.graphs.FunArc.{FunArc}
use Rattle.call_cycles.specs.Calls.{HaveCalls, calls_of}
use Rattle.call_cycles.proofs.CallLemmas.{owner_low, owned_calls, self_calls_more, arc_more}
use Rattle.call_cycles.proofs.calls.add_arc.Goals as goal

pub returns-then-is_direct-clause-added : goal.returns-then-is_direct-clause-added
returns-then-is_direct-clause-added c = λ calls have.
    let symbols = c.args.symbols.now in
    let a = c.in-Some.caller in
    let caller = sym c.owner_near.ensures ∙ c.in-Some.is in
    let callee = sym c.owner.ensures ∙ c.in-Some-owner.is in
    let low = owner_low symbols c.args.from a caller in
    let inside : a < length c.args.calls.now.own.items = omega (arith, c.requires.own) in
    let read : c.index_mut.result.now ≡ slice_index c.args.calls.now.own.items a = c.index_mut.ensures.value ∙ get_or_default_zero _ _ _ inside in
    self_calls_more (length symbols) calls (calls_of symbols ((c.args.from, c.args.to), c.args.count)) c.args.calls.now.between.items c.args.calls.now.own.items have a c.in-Some-owner.callee c.args.count
    (owned_calls symbols c.args.from c.args.to c.args.count a c.in-Some-owner.callee caller callee) (c.is_direct.ensures.0 c.if-is_direct.true) low (c.index_mut.result.now + c.args.count) (ap (λ (x : ℕ). x + c.args.count) read)

pub returns-clause-added : goal.returns-clause-added
returns-clause-added c = λ calls have.
    let symbols = c.args.symbols.now in
    let a = c.in-Some.caller in
    let b = c.in-Some-owner.callee in
    let caller = sym c.owner_near.ensures ∙ c.in-Some.is in
    let callee = sym c.owner.ensures ∙ c.in-Some-owner.is in
    let some : 0 < c.args.count = omega arith in
    let other : a ≢ b = λ e. let t : true ≡ false = sym (c.is_direct.ensures.1 e) ∙ c.if-is_direct.false in cc in
    subst (λ (xs : List FunArc). HaveCalls (length symbols) (λ f g. calls f g + calls_of symbols ((c.args.from, c.args.to), c.args.count) f g) xs c.args.calls.now.own.items) (sym c.in_ok-push.ensures.items)
    (arc_more (length symbols) calls (calls_of symbols ((c.args.from, c.args.to), c.args.count)) c.args.calls.now.between.items c.args.calls.now.own.items have a b c.args.count
    (owned_calls symbols c.args.from c.args.to c.args.count a b caller callee) other (owner_low symbols c.args.from a caller) (owner_low symbols c.args.to b callee) some)
