use Rattle.std.proofs.lemmas.Result.{err_from_is_err_and}
use Rattle.gmon_data.specs.Content.{wide_record}
use Rattle.gmon_data.proofs.ContentLemmas.{on_ok}
use Rattle.gmon_data.proofs.RecordLemmas.{on_err}
use Rattle.gmon_gnu.specs.Held.{held_rec}
use Rattle.gmon_gnu.proofs.AddingLemmas.{front_stopped, front_within, held_widened, more_added, more_stopped, more_within}
use Rattle.gmon_gnu.proofs.state.State.add_entry.Goals as goal

pub add_arcs-requires : goal.add_arcs-requires
add_arcs-requires c = front_within (wide_record (held_rec c.args.self.now c.args.entry.body)) c.args.profile.now (held_widened c.args.self.now c.args.entry) c.arcs_before.ensures c.requires.within

pub returns-in_err-add_arcs-clause-stopped : goal.returns-in_err-add_arcs-clause-stopped
returns-in_err-add_arcs-clause-stopped c =
    let p = err_from_is_err_and c.from_residual.result c.from_residual.ensures.1 in
    rw (p.1, p.2) (front_stopped (wide_record (held_rec c.args.self.now c.args.entry.body)) c.args.profile.now (held_widened c.args.self.now c.args.entry) c.arcs_before.ensures c.in_err-add_arcs.ensures.stopped)

pub add_body-requires-clause-within : goal.add_body-requires-clause-within
add_body-requires-clause-within c = more_within (wide_record (held_rec c.args.self.now c.args.entry.body)) c.args.profile.now (held_widened c.args.self.now c.args.entry) c.arcs_before.ensures c.in_ok-add_arcs.ensures.added c.requires.within

pub returns-clause-added : goal.returns-clause-added
returns-clause-added c = search (on_ok, more_added, held_widened, c.add_body.ensures.added, c.arcs_before.ensures, c.in_ok-add_arcs.ensures.added)

pub returns-clause-stopped : goal.returns-clause-stopped
returns-clause-stopped c =
    on_err c.add_body.result c.add_body.ensures.stopped (λ refusal s. more_stopped (wide_record (held_rec c.args.self.now c.args.entry.body)) c.args.profile.now (held_widened c.args.self.now c.args.entry) c.arcs_before.ensures c.in_ok-add_arcs.ensures.added s)
