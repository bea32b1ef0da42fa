use Rattle.std.proofs.lemmas.Result.{err_from_is_err_and}
use Rattle.gmon_gnu.proofs.AddingLemmas.{entries_stopped, entries_within, last_added, last_stopped, last_within}
use Rattle.gmon_gnu.proofs.state.State.add_to.Goals as goal

pub add_entries-requires-clause-within : goal.add_entries-requires-clause-within
add_entries-requires-clause-within c = search entries_within

pub returns-in_err-add_entries-clause-stopped : goal.returns-in_err-add_entries-clause-stopped
returns-in_err-add_entries-clause-stopped c =
    let s = c.args.self.now in
    let p = err_from_is_err_and c.from_residual.result c.from_residual.ensures.1 in
    rw (p.1, p.2) (entries_stopped s.fields.items s.counters.cells.items s.pairs.cells.items s.arcs.items s.entries.items s.run c.args.profile.now _ c.expect_records.ensures _ _ c.in_err-add_entries.ensures.stopped)

pub add_arcs-requires : goal.add_arcs-requires
add_arcs-requires c =
    let s = c.args.self.now in
    last_within s.fields.items s.counters.cells.items s.pairs.cells.items s.arcs.items s.entries.items s.run c.args.profile.now _ c.expect_records.ensures c.add_entries.new.profile c.in_ok-add_entries.ensures.added
    c.as_slice-arcs.result.now c.as_slice-arcs.ensures.value c.requires.within

pub returns-in_err-add_arcs-clause-stopped : goal.returns-in_err-add_arcs-clause-stopped
returns-in_err-add_arcs-clause-stopped c =
    let s = c.args.self.now in
    let p = err_from_is_err_and c.from_residual-in_err-add_arcs.result c.from_residual-in_err-add_arcs.ensures.1 in
    rw (p.1, p.2) (last_stopped s.fields.items s.counters.cells.items s.pairs.cells.items s.arcs.items s.entries.items s.run c.args.profile.now _ c.expect_records.ensures c.add_entries.new.profile
    c.in_ok-add_entries.ensures.added c.as_slice-arcs.result.now c.as_slice-arcs.ensures.value _ _ c.in_err-add_arcs.ensures.stopped)

pub returns-clause-added : goal.returns-clause-added
returns-clause-added c =
    let s = c.args.self.now in
    last_added s.fields.items s.counters.cells.items s.pairs.cells.items s.arcs.items s.entries.items s.run c.args.profile.now _ c.expect_records.ensures c.add_entries.new.profile c.in_ok-add_entries.ensures.added
    c.as_slice-arcs.result.now c.as_slice-arcs.ensures.value c.add_arcs.new.self c.in_ok-add_arcs.ensures.added
