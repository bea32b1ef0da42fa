use Rattle.std.proofs.Common.{refl}
use Rattle.gmon_data.proofs.ContentLemmas.{on_ok}
use Rattle.gmon_gnu.specs.Making.{block_recs}
use Rattle.gmon_gnu.proofs.AddingLemmas.{front_within, more_added, more_within}
use Rattle.gmon_gnu.proofs.state.State.add_other.Goals as goal

pub add_arcs-requires : goal.add_arcs-requires
add_arcs-requires c = front_within (block_recs c.args.self.now.pairs.cells.items c.args.entry.body) c.args.profile.now refl c.arcs_before.ensures c.requires.within

pub add_counts_of-requires-clause-within : goal.add_counts_of-requires-clause-within
add_counts_of-requires-clause-within c = more_within (block_recs c.args.self.now.pairs.cells.items c.args.entry.body) c.args.profile.now refl c.arcs_before.ensures c.in_ok-add_arcs.ensures.added c.requires.within

pub returns : goal.returns
returns c = on_ok c.add_counts_of.result c.add_counts_of.ensures (λ a. more_added (block_recs c.args.self.now.pairs.cells.items c.args.entry.body) c.args.profile.now refl c.arcs_before.ensures c.in_ok-add_arcs.ensures.added a)
