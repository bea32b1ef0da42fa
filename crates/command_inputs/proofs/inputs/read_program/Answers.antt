use Rattle.gp_base.specs.declared.limits.TheConstants.{MAX_ELF_BYTES}
use Rattle.courses.proofs.Standing.{not_loaded}
use Rattle.command_inputs.proofs.Accepting.{no_program, a_program}
use Rattle.command_inputs.proofs.HeaderLemmas.{header_first}
use Rattle.command_inputs.proofs.inputs.read_program.Goals as goal

pub returns-in-Err-clause-reads : goal.returns-in-Err-clause-reads
returns-in-Err-clause-reads g c = λ start below next later s may.
    let loads = rw c.name.ensures at c.in-Err.ensures in
    rw c.load_fault.ensures (not_loaded c.args.words.now start _ _ below c.args.word MAX_ELF_BYTES _ c.in-Err.refusal s later loads)

pub returns-in-Err-read-clause-reads : goal.returns-in-Err-read-clause-reads
returns-in-Err-read-clause-reads g c = λ start below next later s may.
    let loads = rw c.name.ensures at c.in-Ok.ensures in
    let refusal = rw c.as_slice.ensures.value at c.in-Err-read.ensures.refusal in
    let header = header_first c.in-Ok.bytes.items c.in-Err-read.refusal (rw c.as_slice.ensures.value at c.in-Err-read.ensures.header) in
    rw c.elf_fault.ensures (no_program c.args.words.now start _ _ below c.args.word next c.in-Ok.bytes c.in-Err-read.refusal s later loads refusal header may)

pub returns-clause-image : goal.returns-clause-image
returns-clause-image g c = rw c.as_slice.ensures.value at c.in-Ok-read.ensures.image

pub returns-clause-reads : goal.returns-clause-reads
returns-clause-reads g c = λ start below next later s.
    let loads = rw c.name.ensures at c.in-Ok.ensures in
    let accepted = rw c.as_slice.ensures.value at c.in-Ok-read.ensures.accepted in
    let image = rw c.as_slice.ensures.value at c.in-Ok-read.ensures.image in
    a_program c.args.words.now start _ _ below c.args.word next c.in-Ok.bytes c.in-Ok-read.image s later loads accepted image
