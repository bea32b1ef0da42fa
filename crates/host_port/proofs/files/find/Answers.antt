use Rattle.host_port.proofs.EntryLemmas.{passed_none, passed_more, passed_found, passed_all, found_at, missing}
use Rattle.std.proofs.Common.{sym}
use Rattle.host_port.specs.Entries.{file_of, files_of}
use Rattle.host_port.proofs.files.find.Goals as goal

pub loop-i-init : goal.loop-i-init
loop-i-init c = passed_none file_of c.args.name.now c.args.entries.now

pub returns-then-eq-clause-place : goal.returns-then-eq-clause-place
returns-then-eq-clause-place c = passed_found file_of c.args.name.now c.args.entries.now c.loop-i.i c.index-entries-i.result c.eq.result c.loop-i-test.true c.index-entries-i.is (cc) c.if-eq.true c.loop-i.invariant

pub loop-i-preserved : goal.loop-i-preserved
loop-i-preserved c = passed_more file_of c.args.name.now c.args.entries.now c.loop-i.i c.index-entries-i.result c.eq.result c.loop-i-test.true c.index-entries-i.is (cc) c.if-eq.false c.loop-i.invariant

pub returns-clause-place : goal.returns-clause-place
returns-clause-place c = passed_all file_of c.args.name.now c.args.entries.now c.loop-i.i c.loop-i-test.false c.loop-i.invariant

pub returns-then-eq-clause-found : goal.returns-then-eq-clause-found
returns-then-eq-clause-found c =
    let found = found_at c.args.name.now (files_of c.args.entries.now) c.loop-i.i (sym (returns-then-eq-clause-place c)) in
    (found.there, found.content)

pub returns-clause-found : goal.returns-clause-found
returns-clause-found c =
    let none = missing c.args.name.now (files_of c.args.entries.now) (sym (returns-clause-place c)) in
    (none.not_there, none.content)
