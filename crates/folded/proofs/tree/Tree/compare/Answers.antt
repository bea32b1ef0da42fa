use Rattle.std.proofs.Common.{◌∙◌, ◌<◌, ℕ, Option, ap, arith, length, min, subst, sym}
use Rattle.std.specs.Option.{option_cmp}
use Rattle.std.specs.Ordering.{nat_cmp}
use Rattle.folded.specs.Nodes.{called_of}
use Rattle.folded.proofs.CompareLemmas.{Meets, climb_one, climb_other, met}
use Rattle.folded.proofs.tree.Tree.compare.Goals as goal

pub loop-x-preserved-then-x-y : goal.loop-x-preserved-then-x-y
loop-x-preserved-then-x-y c =
    let t = c.args.self.now in
    let n = length t.nodes.items in
    let l = c.loop-x in
    subst (λ (k : ℕ). Meets t.nodes.items (min c.args.a n) (min c.args.b n) k l.y l.x l.below_y) (sym c.caller-x.ensures) (climb_one t (min c.args.a n) (min c.args.b n) l.x l.y l.below_x l.below_y c.if-x-y.true l.invariant)

pub loop-x-preserved : goal.loop-x-preserved
loop-x-preserved c =
    let t = c.args.self.now in
    let n = length t.nodes.items in
    let l = c.loop-x in
    let less : l.x < l.y = grind (arith, c.if-x-y.false, c.loop-x-test.true) in
    subst (λ (k : ℕ). Meets t.nodes.items (min c.args.a n) (min c.args.b n) l.x k l.below_x l.y) (sym c.caller-y.ensures) (climb_other t (min c.args.a n) (min c.args.b n) l.x l.y l.below_x l.below_y less l.invariant)

pub returns : goal.returns
returns c =
    let t = c.args.self.now in
    let n = length t.nodes.items in
    let l = c.loop-x in
    c.cmp.ensures
    ∙ ap (λ (o : Option (Option ℕ)). option_cmp (option_cmp nat_cmp) o c.called-2.result) c.called.ensures
    ∙ ap (λ (o : Option (Option ℕ)). option_cmp (option_cmp nat_cmp) (called_of t.nodes.items l.below_x) o) c.called-2.ensures
    ∙ met t (min c.args.a n) (min c.args.b n) l.x l.y l.below_x l.below_y c.loop-x-test.false l.invariant
