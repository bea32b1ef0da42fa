use Rattle.std.proofs.Common.{[], ◌∷◌, refl, arith}
use Rattle.gmon_data.specs.Content.{WideBlock}
use Rattle.gmon_data.proofs.ContentLemmas.{on_ok}
use Rattle.gmon_data.proofs.EntryLemmas.{blocks_in, entries_added, entries_fit, one_fits}
use Rattle.gmon_data.proofs.RecordLemmas.{records_stand}
use Rattle.gmon_data.proofs.profile.Profile.add_runs.Goals as goal

pub add-requires : goal.add-requires
add-requires c = let fits = entries_fit blocks_in _ c.args.self.now c.self.view_is ((c.args.addr, c.args.count) ∷ []) (WideBlock c.args.addr c.args.count ∷ []) refl c.requires in omega (arith, fits)

pub invariant_of-self : goal.invariant_of-self
invariant_of-self c = grind (arith, blocks_in, one_fits)

pub returns-clause-stands : goal.returns-clause-stands
returns-clause-stands c =
    on_ok c.add.result (entries_added blocks_in _ c.args.self.now c.self.view_is ((c.args.addr, c.args.count) ∷ []) (WideBlock c.args.addr c.args.count ∷ []) refl c.requires c.add.new.self c.add.result c.add.ensures.added)
    (λ added. records_stand (WideBlock c.args.addr c.args.count ∷ []) c.args.self.now _ added)
