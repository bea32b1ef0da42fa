use Rattle.std.proofs.Common.{ℕ, ◌+◌, ◌*◌, [], ◌∷◌, subst, sym, arith}
use Rattle.gp_base.specs.declared.records.Unit as units
use Rattle.gmon_data.specs.declared.hist.Hist.{Hist}
use Rattle.gmon_data.specs.Content.{Content, hist_over, with_arc, with_block, with_hist}
use Rattle.gmon_data.specs.Sizes.{IsOfBytes}
use Rattle.gmon_data.proofs.SizeLemmas.{of_nothing, one_arc, one_block, one_hist, within_limits}
use Rattle.test_profiles.proofs.tests.contents.add_parts.Goals as goal

abbrev counted : Hist
counted = hist_over 65536 65552 (1 ∷ 2 ∷ 0 ∷ 0 ∷ [])

three_arcs : (c : Content) (n : ℕ) → IsOfBytes n c → IsOfBytes (n + 12 + 12 + 12) (with_arc 65540 65544 3 (with_arc 0 65544 3 (with_arc 65540 65544 3 c)))
three_arcs c n of =
    let one = one_arc 65540 65544 3 c n (omega arith) of in
    let two = one_arc 0 65544 3 (with_arc 65540 65544 3 c) (n + 12) (omega arith) one in
    one_arc 65540 65544 3 (with_arc 0 65544 3 (with_arc 65540 65544 3 c)) (n + 12 + 12) (omega arith) two

three_blocks : (c : Content) (n : ℕ) → IsOfBytes n c → IsOfBytes (n + 8 + 8 + 8) (with_block 65536 9 (with_block 8 9 (with_block 65536 9 c)))
three_blocks c n of =
    let one = one_block 65536 9 c n (omega arith) of in
    let two = one_block 8 9 (with_block 65536 9 c) (n + 8) (omega arith) one in
    one_block 65536 9 (with_block 8 9 (with_block 65536 9 c)) (n + 8 + 8) (omega arith) two

one_of : (p : Content) (u : units.Unit) → IsOfBytes 0 p → IsOfBytes (0 + 2 * 4) (with_hist counted u p)
one_of p u of = one_hist counted u p 0 (omega arith) of

pub add_counts-requires-clause-within : goal.add_counts-requires-clause-within
add_counts-requires-clause-within c = λ none.
    within_limits (0 + 2 * 4) _ (one_of c.args.profile.now c.seconds.result (subst (λ (p : Content). IsOfBytes 0 p) (sym c.requires) of_nothing)) (omega arith)

pub add_arcs-requires : goal.add_arcs-requires
add_arcs-requires c =
    let one = one_of c.args.profile.now c.seconds.result (subst (λ (p : Content). IsOfBytes 0 p) (sym c.requires) of_nothing) in
    let kept = subst (λ (p : Content). IsOfBytes (0 + 2 * 4) p) (sym c.in_ok-add_counts.ensures.added) one in
    within_limits (0 + 2 * 4 + 12 + 12 + 12) _ (three_arcs c.add_counts.new.self (0 + 2 * 4) kept) (omega arith)

pub add_blocks-requires : goal.add_blocks-requires
add_blocks-requires c =
    let one = one_of c.args.profile.now c.seconds.result (subst (λ (p : Content). IsOfBytes 0 p) (sym c.requires) of_nothing) in
    let kept = subst (λ (p : Content). IsOfBytes (0 + 2 * 4) p) (sym c.in_ok-add_counts.ensures.added) one in
    let both = subst (λ (p : Content). IsOfBytes (0 + 2 * 4 + 12 + 12 + 12) p) (sym c.in_ok-add_arcs.ensures.added) (three_arcs c.add_counts.new.self (0 + 2 * 4) kept) in
    within_limits (0 + 2 * 4 + 12 + 12 + 12 + 8 + 8 + 8) _ (three_blocks c.add_arcs.new.self (0 + 2 * 4 + 12 + 12 + 12) both) (omega arith)
