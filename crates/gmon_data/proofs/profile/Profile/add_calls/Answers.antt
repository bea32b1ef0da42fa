use Rattle.std.proofs.Common.{[], ◌∷◌, refl, arith}
use Rattle.gmon_data.specs.Content.{WideArc}
use Rattle.gmon_data.proofs.ContentLemmas.{on_ok}
use Rattle.gmon_data.proofs.EntryLemmas.{arcs_in, entries_added, entries_fit, one_fits}
use Rattle.gmon_data.proofs.RecordLemmas.{records_stand}
use Rattle.gmon_data.proofs.profile.Profile.add_calls.Goals as goal

pub add-requires : goal.add-requires
add-requires c = let fits = entries_fit arcs_in _ c.args.self.now c.self.view_is (((c.args.from, c.args.to), c.args.count) ∷ []) (WideArc c.args.from c.args.to c.args.count ∷ []) refl c.requires in omega (arith, fits)

pub invariant_of-self : goal.invariant_of-self
invariant_of-self c = grind (arith, arcs_in, one_fits)

pub returns-clause-stands : goal.returns-clause-stands
returns-clause-stands c =
    on_ok c.add.result (entries_added arcs_in _ c.args.self.now c.self.view_is (((c.args.from, c.args.to), c.args.count) ∷ []) (WideArc c.args.from c.args.to c.args.count ∷ []) refl c.requires c.add.new.self c.add.result c.add.ensures.added)
    (λ added. records_stand (WideArc c.args.from c.args.to c.args.count ∷ []) c.args.self.now _ added)
