use Rattle.std.proofs.Common.{◌≡◌, ◌∙◌, ap, map, sym, arith}
use Rattle.std.proofs.lemmas.Grind.{get_or_default_zero}
use Rattle.std.proofs.lemmas.List.{get_or-map}
use Rattle.fraction128.specs.Fractions.{fraction}
use Rattle.fraction128.specs.Values.{value_of}
use Rattle.exact_flow.specs.Times.{time_at}
use Rattle.exact_flow.specs.Fields.{child_in_callee}
use Rattle.exact_flow.proofs.PartLemmas.{part_read, fits_read, callee_read, child_inside, child_at}
use Rattle.exact_flow.proofs.flows.ExactFlow.arc_child.Goals as goal

pub index-requires : goal.index-requires
index-requires c = grind (arith, child_inside c.self.inside c.args.self.now c.self.view_is c.args.i c.requires)

pub index-requires-2 : goal.index-requires-2
index-requires-2 c =
    let low = child_inside c.self.inside c.args.self.now c.self.view_is c.args.i c.requires in
    omega (arith, c.self.inside.children.ok.0, callee_read c.self.inside c.self.invariant c.args.i c.index.result.now low c.index.ensures)

pub index-requires-3 : goal.index-requires-3
index-requires-3 c = grind (arith, child_inside c.self.inside c.args.self.now c.self.view_is c.args.i c.requires)

pub index-requires-4 : goal.index-requires-4
index-requires-4 c =
    let low = child_inside c.self.inside c.args.self.now c.self.view_is c.args.i c.requires in
    omega (arith, c.self.inside.entering.ok.0, callee_read c.self.inside c.self.invariant c.args.i c.index.result.now low c.index.ensures)

pub carried-requires : goal.carried-requires
carried-requires c =
    let a = c.self.inside in
    let i = c.args.i in
    let d = c.index.result.now in
    let low = child_inside a c.args.self.now c.self.view_is i c.requires in
    let read = callee_read a c.self.invariant i d low c.index.ensures in
    let time : value_of c.index-2.result.now ≡ child_in_callee a i = ap value_of c.index-2.ensures ∙ sym (get_or-map value_of a.children.items d c.index-2.result.now (fraction 0 1) read.children) ∙ ap (time_at (map value_of a.children.items)) read.callee in
    fits_read a i d read.callee (child_in_callee a i) (value_of c.index-2.result.now) c.index-3.result.now c.index-4.result.now time (c.index-3.ensures ∙ get_or_default_zero _ _ _ low) (c.index-4.ensures ∙ get_or_default_zero _ _ _ read.entering) (c.self.invariant.fits_child i low)

pub returns : goal.returns
returns c =
    let a = c.self.inside in
    let i = c.args.i in
    let d = c.index.result.now in
    let low = child_inside a c.args.self.now c.self.view_is i c.requires in
    let read = callee_read a c.self.invariant i d low c.index.ensures in
    let time : value_of c.index-2.result.now ≡ child_in_callee a i = ap value_of c.index-2.ensures ∙ sym (get_or-map value_of a.children.items d c.index-2.result.now (fraction 0 1) read.children) ∙ ap (time_at (map value_of a.children.items)) read.callee in
    c.carried.ensures
    ∙ part_read a i d read.callee (child_in_callee a i) (value_of c.index-2.result.now) c.index-3.result.now c.index-4.result.now time (c.index-3.ensures ∙ get_or_default_zero _ _ _ low) (c.index-4.ensures ∙ get_or_default_zero _ _ _ read.entering)
    ∙ child_at a c.args.self.now c.self.view_is i low
