use Rattle.std.proofs.Common.{◌≡◌, ◌∙◌, [], ap, arith, drop, length, subst, sym, take}
use Rattle.std.proofs.lemmas.List.{length-take, take-take}
use Rattle.folded.specs.Paths.{functions_of}
use Rattle.folded.specs.Tally.{HaveMoved}
use Rattle.folded.proofs.MarkLemmas.{Stack, few_all, moved_over, part_below, part_is, places_few, places_rest, since_all, since_moved}
use Rattle.folded.proofs.tally.move_to.Goals as goal

pub leave_all-requires-clause-functions : goal.leave_all-requires-clause-functions
leave_all-requires-clause-functions c = search part_below

pub leave_all-requires-clause-places : goal.leave_all-requires-clause-places
leave_all-requires-clause-places c = grind (arith, part_is, places_rest)

pub leave_all-requires-clause-since : goal.leave_all-requires-clause-since
leave_all-requires-clause-since c = since_all c.args.passed (functions_of c.args.path.now) c.args.marks.now c.requires.marks

pub leave_all-requires-clause-counted : goal.leave_all-requires-clause-counted
leave_all-requires-clause-counted c = few_all c.args.passed (functions_of c.args.path.now) c.args.marks.now c.requires.marks

pub enter_all-requires-clause-functions : goal.enter_all-requires-clause-functions
enter_all-requires-clause-functions c =
    part_below c.args.tree.now c.go_to.new.self c.go_to.ensures.path c.shared-shared.result (length c.leave_all.new.marks) c.functions-2.result.now c.functions-2.ensures (c.leave_all.ensures.same ∙ c.requires.functions)

pub enter_all-requires-clause-places : goal.enter_all-requires-clause-places
enter_all-requires-clause-places c =
    let p = c.args.path.now in
    let stack = functions_of p in
    let n = c.shared-shared.result in
    let left : HaveMoved c.args.passed (drop n stack) [] c.args.marks.now c.leave_all.new.marks =
    subst (λ (s : Stack). HaveMoved c.args.passed s [] c.args.marks.now c.leave_all.new.marks) (part_is n stack c.functions.result.now c.functions.ensures) c.leave_all.ensures in
    places_few c.args.passed n stack c.args.marks.now c.leave_all.new.marks c.requires.marks (omega (arith, length-take p.len p.functions, c.requires.path.few)) left

pub enter_all-requires-clause-since : goal.enter_all-requires-clause-since
enter_all-requires-clause-since c = search since_moved

pub returns-clause-moved : goal.returns-clause-moved
returns-clause-moved c =
    let p = c.args.path.now in
    let q = c.go_to.new.self in
    let n = c.shared-shared.result in
    let shared = c.shared-shared.ensures in
    let same : take n (functions_of p) ≡ take n (functions_of q) =
    take-take n p.len p.functions shared.within ∙ shared.same ∙ ap (λ (s : Stack). take n s) (sym c.go_to.ensures.stack) in
    let left : HaveMoved c.args.passed (drop n (functions_of p)) [] c.args.marks.now c.leave_all.new.marks =
    subst (λ (s : Stack). HaveMoved c.args.passed s [] c.args.marks.now c.leave_all.new.marks) (part_is n (functions_of p) c.functions.result.now c.functions.ensures) c.leave_all.ensures in
    let entered : HaveMoved c.args.passed [] (drop n (functions_of q)) c.leave_all.new.marks c.enter_all.new.marks =
    subst (λ (s : Stack). HaveMoved c.args.passed [] s c.leave_all.new.marks c.enter_all.new.marks) (part_is n (functions_of q) c.functions-2.result.now c.functions-2.ensures) c.enter_all.ensures in
    moved_over c.args.passed n (functions_of p) (functions_of q) c.args.marks.now c.leave_all.new.marks c.enter_all.new.marks same left entered
