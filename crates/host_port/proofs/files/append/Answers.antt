use Rattle.std.proofs.Common.{sym}
use Rattle.host_port.proofs.EntryLemmas.{found_at, on_ok_append, on_err_append, missing, in_range}
use Rattle.host_port.specs.Entries.{files_of}
use Rattle.host_port.proofs.files.append.Goals as goal

pub returns-in-Some-clause-done : goal.returns-in-Some-clause-done
returns-in-Some-clause-done c =
    on_ok_append c.extend_from_slice.result c.args.name.now c.args.bytes.now c.args.entries.now.items c.in-Some.i c.index_mut.result.now c.extend_from_slice.new.self (found_at c.args.name.now (files_of c.args.entries.now.items) c.in-Some.i (cc)) c.index_mut.ensures.value c.extend_from_slice.ensures.items

pub returns-in-Some-clause-unchanged : goal.returns-in-Some-clause-unchanged
returns-in-Some-clause-unchanged c =
    on_err_append c.extend_from_slice.result c.args.bytes.now c.args.entries.now.items c.in-Some.i c.index_mut.result.now c.extend_from_slice.new.self (in_range c.args.name.now c.args.entries.now.items c.in-Some.i (found_at c.args.name.now (files_of c.args.entries.now.items) c.in-Some.i (cc))) c.index_mut.ensures.value c.extend_from_slice.ensures.items

pub returns-in-None-clause-done : goal.returns-in-None-clause-done
returns-in-None-clause-done c = sym ((missing c.args.name.now (files_of c.args.entries.now.items) (cc)).adding c.args.bytes.now)
