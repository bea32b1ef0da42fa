-- A refusal of the header of a program is the answer.
use Rattle.std.proofs.Common.{◌≡◌, ℕ, List, Option, Some, None, Result, Err}
use Rattle.std.specs.Prelude.{IfSome}
use Rattle.elf32_syms.specs.declared.image.Image.{Image}
use Rattle.elf32_syms.specs.declared.refusal.ElfRefusal.{ElfRefusal}
use Rattle.elf32_syms.specs.Refusals.{header_refusal}

abbrev refused : ElfRefusal → Result Image ElfRefusal
refused e = Err e

same_refusal : (due : Option ElfRefusal) (e : ElfRefusal) → IfSome due (λ refusal. refused e ≡ refused refusal) → IfSome due (λ first. first ≡ e)
same_refusal None e is = tt
same_refusal (Some first) e is = cc

pub header_first : (bs : List ℕ) (e : ElfRefusal) → IfSome (header_refusal bs) (λ refusal. refused e ≡ refused refusal) → IfSome (header_refusal bs) (λ first. first ≡ e)
header_first bs e is = same_refusal (header_refusal bs) e is
