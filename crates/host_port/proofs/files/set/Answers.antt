use Rattle.std.proofs.Common.{ap, ◌∙◌}
use Rattle.host_port.proofs.EntryLemmas.{found_at, set_at, push_entry}
use Rattle.host_port.specs.Entries.{files_of}
use Rattle.host_port.proofs.files.set.Goals as goal

pub returns-in-Some-clause-done : goal.returns-in-Some-clause-done
returns-in-Some-clause-done c =
    set_at c.args.name.now c.args.entries.now.items c.in-Some.i c.index_mut.result.now c.args.bytes (found_at c.args.name.now (files_of c.args.entries.now.items) c.in-Some.i (cc)) c.index_mut.ensures.value

pub returns-in_ok-push-in-None-clause-done : goal.returns-in_ok-push-in-None-clause-done
returns-in_ok-push-in-None-clause-done c = ap files_of c.in_ok-push-in-None.ensures.items ∙ push_entry c.args.name.now c.args.entries.now.items _ (cc) c.in_ok-name-in-None.ensures.ok
