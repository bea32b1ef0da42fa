use Rattle.std.proofs.Common.{◌∙◌}
use Rattle.std.proofs.lemmas.Result.{err_from_is_err_and}
use Rattle.gmon_gnu.proofs.MakingLemmas.{all_added, behind_within, conflict_told, hists_within, in_parts}
use Rattle.gmon_gnu.proofs.state.State.add_in_address_order.Goals as goal

pub add_placed-requires-clause-within : goal.add_placed-requires-clause-within
add_placed-requires-clause-within c =
    let s = c.args.self.now in
    let cut = in_parts c.in_ok-alike.alike c.as_slice-entries.ensures.value c.split_at.ensures.front c.split_at.ensures.back c.as_slice-4.ensures.value c.in_ok-alike.ensures.all (c.expect_records.ensures ∙ c.requires.empty) in
    hists_within s.fields.items s.counters.cells.items s.pairs.cells.items s.arcs.items s.entries.items _ _ cut.parts s.run _ cut.same _ cut.empty c.requires.able.within

pub add_behind-requires-clause-within : goal.add_behind-requires-clause-within
add_behind-requires-clause-within c =
    let s = c.args.self.now in
    let cut = in_parts c.in_ok-alike.alike c.as_slice-entries.ensures.value c.split_at.ensures.front c.split_at.ensures.back c.as_slice-4.ensures.value c.in_ok-alike.ensures.all (c.expect_records.ensures ∙ c.requires.empty) in
    behind_within s.fields.items s.counters.cells.items s.pairs.cells.items s.arcs.items s.entries.items _ _ cut.parts s.run _ cut.same _ cut.empty c.add_placed.new.profile c.in-Ok.ensures c.requires.able.within

pub returns-in_err-add_behind-in-Ok-clause-refusal : goal.returns-in_err-add_behind-in-Ok-clause-refusal
returns-in_err-add_behind-in-Ok-clause-refusal c =
    let s = c.args.self.now in
    let p = err_from_is_err_and c.from_residual-in_err-add_behind-in-Ok.result c.from_residual-in_err-add_behind-in-Ok.ensures.1 in
    let cut = in_parts c.in_ok-alike.alike c.as_slice-entries.ensures.value c.split_at.ensures.front c.split_at.ensures.back c.as_slice-4.ensures.value c.in_ok-alike.ensures.all (c.expect_records.ensures ∙ c.requires.empty) in
    rw (p.1, p.2) (conflict_told s.fields.items s.counters.cells.items s.pairs.cells.items s.arcs.items s.entries.items _ _ cut.parts s.run _ cut.same _ cut.empty c.add_placed.new.profile c.in-Ok.ensures c.in_err-add_behind-in-Ok.field-0.0 c.requires.able.ranges c.in_err-add_behind-in-Ok.ensures.refusal)

pub returns-in-Ok-clause-made : goal.returns-in-Ok-clause-made
returns-in-Ok-clause-made c all =
    let s = c.args.self.now in
    let cut = in_parts c.in_ok-alike.alike c.as_slice-entries.ensures.value c.split_at.ensures.front c.split_at.ensures.back c.as_slice-4.ensures.value c.in_ok-alike.ensures.all (c.expect_records.ensures ∙ c.requires.empty) in
    all_added s.fields.items s.counters.cells.items s.pairs.cells.items s.arcs.items s.entries.items _ _ cut.parts s.run _ cut.same _ cut.empty c.add_placed.new.profile c.in-Ok.ensures c.add_behind.new.profile c.requires.able.ranges c.in_ok-add_behind-in-Ok.ensures.added
