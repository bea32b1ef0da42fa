use Rattle.std.proofs.Common.{List, ℕ, refl, subst, ◌∙◌}
use Rattle.elf32_syms.specs.declared.refusal.ElfRefusal.TheVariants as elf
use Rattle.elf32_syms.specs.Refusals.{elf_refusal, IsRefusal}
use Rattle.rvgprof.proofs.demo.made_program.Goals as goal

pub returns-in_default-clause-refused : goal.returns-in_default-clause-refused
returns-in_default-clause-refused c = (elf.OutOfMemory, refl, tt)

pub returns-in-Ok-read-clause-read : goal.returns-in-Ok-read-clause-read
returns-in-Ok-read-clause-read c =
    let given = c.as_slice.ensures.value in
    record {
      bytes_are = c.in-Ok.ensures.file;
      accepted = rw given at c.in-Ok-read.ensures.accepted;
      image_is = rw given at c.in-Ok-read.ensures.image;
      limits = rw given at c.in-Ok-read.ensures.limits;
    }

pub returns-in-Err-clause-refused : goal.returns-in-Err-clause-refused
returns-in-Err-clause-refused c = (c.in-Err.refusal, c.elf_fault.ensures, subst (λ (bs : List ℕ). IsRefusal c.in-Err.refusal (elf_refusal bs)) (c.as_slice.ensures.value ∙ c.in-Ok.ensures.file) c.in-Err.ensures.refusal)
