use Rattle.std.proofs.lemmas.Option.{IfSome_then}
use Rattle.gmon_data.specs.Content.{wide_records}
use Rattle.gmon_gnu.specs.FirstHists.{conflict_among_first}
use Rattle.gmon_gnu.specs.Held.{recs_of}
use Rattle.gmon_gnu.proofs.FirstHistsLemmas.{conflict_told, made_told}
use Rattle.gmon_gnu.proofs.state.State.into_profile.Goals as goal

pub returns-in-Ok-clause-told : goal.returns-in-Ok-clause-told
returns-in-Ok-clause-told c = made_told 64 (wide_records (recs_of c.args.self.now)) c.in-Ok.profile c.in-Ok.ensures.made.accepted

pub returns-in-Err-Unlike-clause-told : goal.returns-in-Err-Unlike-clause-told
returns-in-Err-Unlike-clause-told c =
    let told = rw c.in-Err-Unlike.field-0-is at c.in-Err-Unlike.ensures.refusal in
    conflict_told 64 (wide_records (recs_of c.args.self.now)) c.in-Err-Unlike.unlike told

pub returns-in-Err-OutOfMemory-clause-told : goal.returns-in-Err-OutOfMemory-clause-told
returns-in-Err-OutOfMemory-clause-told c = IfSome_then (conflict_among_first 64 (wide_records (recs_of c.args.self.now))) c.refusal_without_memory.ensures.told (λ u is. cc)
