use Rattle.std.proofs.Common.{◌≡◌, ◌∙◌, ◌+◌, ◌^◌, ◌<◌, ◌≤◌, [], ℕ, List, Option, arith, ap, get_or, length, map, subst, sym}
use Rattle.std.specs.List.{All}
use Rattle.std.proofs.lemmas.List.{get_or-map, length-map, with_items_is}
use Rattle.folded.specs.Nodes.{any_stack, line_of_node, samples_of_lines}
use Rattle.folded.specs.Paths.{functions_of}
use Rattle.folded.specs.Stacks.{has_function}
use Rattle.folded.specs.Tally.{AreOn, HaveMoved, counted_by, mark_at}
use Rattle.folded.specs.declared.tally.Mark.{Mark}
use Rattle.folded.proofs.MarkLemmas.{MarksOf, few_all, marks_all, marks_first, marks_next, marks_on, passed_few, path_below, since_all}
use Rattle.folded.proofs.NodeLemmas.{Stack}
use Rattle.folded.proofs.PathLemmas.{path_first}
use Rattle.folded.proofs.tally.marks_of.Goals as goal

pub loop-i-init : goal.loop-i-init
loop-i-init c =
    let t = c.args.tree.now in
    record {
      path = path_first t.nodes.items c.new-path.result c.new-path.ensures;
      marks = marks_first (map (line_of_node t) c.args.order.now) t.functions c.new-path.result c.in_ok-marks.marks.items c.new-path.ensures c.in_ok-marks.ensures;
    }

pub move_to-requires-clause-marks : goal.move_to-requires-clause-marks
move_to-requires-clause-marks c =
    let t = c.args.tree.now in
    let lines = map (line_of_node t) c.args.order.now in
    let few : samples_of_lines any_stack lines < 2 ^ 62 = omega (arith, c.requires.samples, c.requires.total) in
    let stack = functions_of c.loop-i.path in
    subst (λ (x : List Mark). AreOn c.loop-i.passed stack x) (sym c.as_mut_slice.ensures.value) (marks_on lines t.functions c.loop-i.i c.loop-i.passed stack c.loop-i.marks.items c.loop-i.invariant.marks few)

pub overflow_add-passed : goal.overflow_add-passed
overflow_add-passed c =
    let t = c.args.tree.now in
    let lines = map (line_of_node t) c.args.order.now in
    let i = c.loop-i.i in
    let inside : i < length lines = omega (arith, c.loop-i-test.true, length-map c.args.order.now (line_of_node t)) in
    let here = get_or-map (line_of_node t) c.args.order.now i 0 ([], 0) c.loop-i-test.true in
    omega (
      arith,
      c.samples-passed.ensures,
      passed_few lines t.functions i c.loop-i.passed (functions_of c.loop-i.path) c.loop-i.marks.items inside c.loop-i.invariant.marks,
      ap {B = ℕ} (λ (l : List (Option ℕ) × ℕ). l.1) here,
      c.requires.samples,
      c.requires.total,
    )

pub loop-i-preserved : goal.loop-i-preserved
loop-i-preserved c =
    let t = c.args.tree.now in
    let lines = map (line_of_node t) c.args.order.now in
    let i = c.loop-i.i in
    let inside : i < length lines = omega (arith, c.loop-i-test.true, length-map c.args.order.now (line_of_node t)) in
    let old = functions_of c.loop-i.path in
    let stack = functions_of c.move_to.new.path in
    let new = c.move_to.new.marks in
    let items = c.loop-i.marks.items in
    let line : get_or lines i ([], 0) ≡ (stack, c.samples-passed.result) = get_or-map (line_of_node t) c.args.order.now i 0 ([], 0) c.loop-i-test.true ∙ (λ j. (sym c.move_to.ensures.stack j, sym c.samples-passed.ensures j)) in
    let moved : HaveMoved c.loop-i.passed old stack items new = subst (λ (x : List Mark). HaveMoved c.loop-i.passed old stack x new) c.as_mut_slice.ensures.value c.move_to.ensures.moved in
    let written = with_items_is c.loop-i.marks new (c.move_to.ensures.moved.same ∙ c.as_mut_slice.ensures.len) in
    record {
      path = c.move_to.ensures.path;
      marks = subst (λ (x : List Mark). MarksOf lines t.functions (i + 1) (c.loop-i.passed + c.samples-passed.result) stack x) (sym written)
          (marks_next lines t.functions i c.loop-i.passed old items new (stack, c.samples-passed.result) inside line c.loop-i.invariant.marks moved);
    }

pub leave_all-requires-clause-functions : goal.leave_all-requires-clause-functions
leave_all-requires-clause-functions c = grind (arith, path_below)

pub leave_all-requires-clause-since : goal.leave_all-requires-clause-since
leave_all-requires-clause-since c =
    let t = c.args.tree.now in
    let lines = map (line_of_node t) c.args.order.now in
    let few : samples_of_lines any_stack lines < 2 ^ 62 = omega (arith, c.requires.samples, c.requires.total) in
    let stack = functions_of c.loop-i.path in
    subst (λ (x : List Mark). All (λ (m : Mark). m.since ≤ c.loop-i.passed) x) (sym c.as_mut_slice-2.ensures.value)
    (since_all c.loop-i.passed stack c.loop-i.marks.items (marks_on lines t.functions c.loop-i.i c.loop-i.passed stack c.loop-i.marks.items c.loop-i.invariant.marks few))

pub leave_all-requires-clause-counted : goal.leave_all-requires-clause-counted
leave_all-requires-clause-counted c =
    let t = c.args.tree.now in
    let lines = map (line_of_node t) c.args.order.now in
    let few : samples_of_lines any_stack lines < 2 ^ 62 = omega (arith, c.requires.samples, c.requires.total) in
    let stack = functions_of c.loop-i.path in
    subst (λ (x : List Mark). All (λ (m : Mark). counted_by c.loop-i.passed m < 2 ^ 62) x) (sym c.as_mut_slice-2.ensures.value)
    (few_all c.loop-i.passed stack c.loop-i.marks.items (marks_on lines t.functions c.loop-i.i c.loop-i.passed stack c.loop-i.marks.items c.loop-i.invariant.marks few))

pub returns-clause-counts : goal.returns-clause-counts
returns-clause-counts c = λ g below.
    let t = c.args.tree.now in
    let lines = map (line_of_node t) c.args.order.now in
    let all : length lines ≤ c.loop-i.i = omega (arith, c.loop-i-test.false, length-map c.args.order.now (line_of_node t)) in
    let stack = functions_of c.loop-i.path in
    let items = c.loop-i.marks.items in
    let new = c.leave_all.new.marks in
    let left : HaveMoved c.loop-i.passed stack [] items new =
    subst (λ (s : Stack). HaveMoved c.loop-i.passed s [] items new) c.functions.ensures (subst (λ (x : List Mark). HaveMoved c.loop-i.passed c.functions.result.now [] x new) c.as_mut_slice-2.ensures.value c.leave_all.ensures) in
    let written = with_items_is c.loop-i.marks new (c.leave_all.ensures.same ∙ c.as_mut_slice-2.ensures.len) in
    subst (λ (x : List Mark). (mark_at x g).count ≡ samples_of_lines (has_function g) lines) (sym written) (marks_all lines t.functions c.loop-i.i c.loop-i.passed stack items new all c.loop-i.invariant.marks left g below)
