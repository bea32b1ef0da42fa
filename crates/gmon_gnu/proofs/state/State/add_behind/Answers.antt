use Rattle.std.proofs.lemmas.Result.{err_from_is_err_and}
use Rattle.gmon_data.proofs.RecordLemmas.{stopped_conflict}
use Rattle.gmon_gnu.specs.Making.{later_recs}
use Rattle.gmon_gnu.proofs.MakingLemmas.{arcs_within, behind_added, later_within, others_within}
use Rattle.gmon_gnu.proofs.state.State.add_behind.Goals as goal

pub add_later-requires-clause-within : goal.add_later-requires-clause-within
add_later-requires-clause-within c =
    let s = c.args.self.now in
    later_within s.fields.items s.counters.cells.items s.pairs.cells.items s.arcs.items s.entries.items c.args.later.now s.run c.args.profile.now c.requires.within

pub returns-in_err-add_later-clause-refusal : goal.returns-in_err-add_later-clause-refusal
returns-in_err-add_later-clause-refusal c =
    let s = c.args.self.now in
    let recs = later_recs s.fields.items s.counters.cells.items s.pairs.cells.items c.args.later.now in
    let refusal = c.in_err-add_later.field-0.0 in
    let p = err_from_is_err_and c.from_residual.result c.from_residual.ensures.1 in
    rw (p.1, p.2) (stopped_conflict refusal recs c.args.profile.now c.add_later.new.profile c.in_err-add_later.ensures.stopped)

pub add_others-requires-clause-within : goal.add_others-requires-clause-within
add_others-requires-clause-within c =
    let s = c.args.self.now in
    others_within s.fields.items s.counters.cells.items s.pairs.cells.items s.arcs.items s.entries.items c.args.later.now s.run c.args.profile.now c.requires.within
    c.add_later.new.profile c.in_ok-add_later.ensures.added

pub add_arcs-requires : goal.add_arcs-requires
add_arcs-requires c =
    let s = c.args.self.now in
    arcs_within s.fields.items s.counters.cells.items s.pairs.cells.items s.arcs.items s.entries.items c.args.later.now s.run c.args.profile.now c.requires.within
    c.add_later.new.profile c.in_ok-add_later.ensures.added c.add_others.new.profile c.in_ok-add_others.ensures c.as_slice-arcs.result.now c.as_slice-arcs.ensures.value

pub returns-clause-added : goal.returns-clause-added
returns-clause-added c =
    let s = c.args.self.now in
    behind_added s.fields.items s.counters.cells.items s.pairs.cells.items s.arcs.items s.entries.items c.args.later.now s.run c.args.profile.now c.requires.within
    c.add_later.new.profile c.in_ok-add_later.ensures.added c.add_others.new.profile c.in_ok-add_others.ensures c.as_slice-arcs.result.now c.as_slice-arcs.ensures.value c.add_arcs.new.self
    c.in_ok-add_arcs.ensures.added
