use Rattle.std.proofs.Common.{map}
use Rattle.gmon_data.specs.Content.{wide_arc}
use Rattle.gmon_data.proofs.ContentLemmas.{on_ok}
use Rattle.gmon_data.proofs.EntryLemmas.{arcs_in, entries_added, entries_fit, entries_stay, entries_stopped, of_entries}
use Rattle.gmon_data.proofs.RecordLemmas.{records_stand}
use Rattle.gmon_data.proofs.profile.Profile.add_arcs.Goals as goal

pub add_all-requires : goal.add_all-requires
add_all-requires c = entries_fit arcs_in _ c.args.self.now c.self.view_is _ (map wide_arc c.args.arcs.now) (of_entries _ _ c.args.arcs.now) c.requires

pub invariant_of-self : goal.invariant_of-self
invariant_of-self c =
    entries_stay arcs_in _ c.args.self.now c.self.view_is _ (map wide_arc c.args.arcs.now) (of_entries _ _ c.args.arcs.now) c.requires c.add_all.new.self
    c.add_all.result c.add_all.ensures.added c.add_all.ensures.stopped c.self.invariant (c.add_all.ensures.fit c.self.invariant.numbers.arcs) c.add_all.ensures.distinct

pub returns-clause-added : goal.returns-clause-added
returns-clause-added c =
    entries_added arcs_in _ c.args.self.now c.self.view_is _ (map wide_arc c.args.arcs.now) (of_entries _ _ c.args.arcs.now) c.requires c.add_all.new.self
    c.add_all.result c.add_all.ensures.added

pub returns-clause-stands : goal.returns-clause-stands
returns-clause-stands c =
    on_ok c.add_all.result (entries_added arcs_in _ c.args.self.now c.self.view_is _ (map wide_arc c.args.arcs.now) (of_entries _ _ c.args.arcs.now) c.requires c.add_all.new.self
    c.add_all.result c.add_all.ensures.added) (λ added. records_stand (map wide_arc c.args.arcs.now) c.args.self.now _ added)

pub returns-clause-stopped : goal.returns-clause-stopped
returns-clause-stopped c =
    entries_stopped arcs_in _ c.args.self.now c.self.view_is _ (map wide_arc c.args.arcs.now) (of_entries _ _ c.args.arcs.now) c.requires c.add_all.new.self
    c.add_all.result c.add_all.ensures.stopped
