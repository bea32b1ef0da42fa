use Rattle.std.proofs.Common.{◌≡◌, ◌∙◌, ap, arith}
use Rattle.std.specs.Prelude.{slice_index}
use Rattle.std.proofs.lemmas.Grind.{get_or_default_zero}
use Rattle.fraction128.specs.Fractions.{fraction}
use Rattle.fraction128.specs.Values.{value_of}
use Rattle.exact_flow.specs.Fields.{self_in_callee}
use Rattle.exact_flow.proofs.PartLemmas.{part_read, fits_read, callee_read, self_inside, self_at}
use Rattle.exact_flow.proofs.flows.ExactFlow.arc_self.Goals as goal

pub index-requires : goal.index-requires
index-requires c = grind (arith, self_inside c.self.inside c.args.self.now c.self.view_is c.args.i c.requires)

pub index-requires-2 : goal.index-requires-2
index-requires-2 c =
    let low = self_inside c.self.inside c.args.self.now c.self.view_is c.args.i c.requires in
    omega (arith, c.self.inside.selves.ok.0, callee_read c.self.inside c.self.invariant c.args.i c.index.result.now low c.index.ensures)

pub index-requires-3 : goal.index-requires-3
index-requires-3 c = grind (arith, self_inside c.self.inside c.args.self.now c.self.view_is c.args.i c.requires)

pub index-requires-4 : goal.index-requires-4
index-requires-4 c =
    let low = self_inside c.self.inside c.args.self.now c.self.view_is c.args.i c.requires in
    omega (arith, c.self.inside.entering.ok.0, callee_read c.self.inside c.self.invariant c.args.i c.index.result.now low c.index.ensures)

pub carried-requires : goal.carried-requires
carried-requires c =
    let a = c.self.inside in
    let i = c.args.i in
    let d = c.index.result.now in
    let low = self_inside a c.args.self.now c.self.view_is i c.requires in
    let read = callee_read a c.self.invariant i d low c.index.ensures in
    let time : value_of c.whole.result ≡ self_in_callee a i = c.whole.ensures ∙ ap (λ n. fraction n 1) (c.index-2.ensures ∙ get_or_default_zero _ _ _ read.selves ∙ ap (slice_index a.selves.items) read.callee) in
    fits_read a i d read.callee (self_in_callee a i) (value_of c.whole.result) c.index-3.result.now c.index-4.result.now time (c.index-3.ensures ∙ get_or_default_zero _ _ _ low) (c.index-4.ensures ∙ get_or_default_zero _ _ _ read.entering) (c.self.invariant.fits_self i low)

pub returns : goal.returns
returns c =
    let a = c.self.inside in
    let i = c.args.i in
    let d = c.index.result.now in
    let low = self_inside a c.args.self.now c.self.view_is i c.requires in
    let read = callee_read a c.self.invariant i d low c.index.ensures in
    let time : value_of c.whole.result ≡ self_in_callee a i = c.whole.ensures ∙ ap (λ n. fraction n 1) (c.index-2.ensures ∙ get_or_default_zero _ _ _ read.selves ∙ ap (slice_index a.selves.items) read.callee) in
    c.carried.ensures
    ∙ part_read a i d read.callee (self_in_callee a i) (value_of c.whole.result) c.index-3.result.now c.index-4.result.now time (c.index-3.ensures ∙ get_or_default_zero _ _ _ low) (c.index-4.ensures ∙ get_or_default_zero _ _ _ read.entering)
    ∙ self_at a c.args.self.now c.self.view_is i low
