use Rattle.host_port.proofs.EntryLemmas.{passed_none, passed_more, passed_found, passed_all}
use Rattle.folder_system.specs.Memory.{file_of}
use Rattle.folder_system.proofs.mem_folder.find.Goals as goal

pub loop-i-init : goal.loop-i-init
loop-i-init c = passed_none file_of c.args.name.now c.args.files.now

pub returns-then-eq-clause-place : goal.returns-then-eq-clause-place
returns-then-eq-clause-place c = passed_found file_of c.args.name.now c.args.files.now c.loop-i.i c.index-files-i.result c.eq.result c.loop-i-test.true c.index-files-i.is (cc) c.if-eq.true c.loop-i.invariant

pub loop-i-preserved : goal.loop-i-preserved
loop-i-preserved c = passed_more file_of c.args.name.now c.args.files.now c.loop-i.i c.index-files-i.result c.eq.result c.loop-i-test.true c.index-files-i.is (cc) c.if-eq.false c.loop-i.invariant

pub returns-clause-place : goal.returns-clause-place
returns-clause-place c = passed_all file_of c.args.name.now c.args.files.now c.loop-i.i c.loop-i-test.false c.loop-i.invariant
