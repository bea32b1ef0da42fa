-- The demo program was written, and its run goes on; or it was not.
use Rattle.std.proofs.Common.{◌≡◌, ◌∙◌, ◌++◌, ℕ, List, [], Option, None, Result, Ok, Err, ap, subst}
use Rattle.elf32_syms.specs.declared.image.Image.{Image}
use Rattle.elf32_syms.specs.Image.{image_of}
use Rattle.elf32_syms.specs.Refusals.{elf_refusal}
use Rattle.settings.specs.declared.setup.Setup.{Setup}
use Rattle.demo_elf.specs.Elf.{demo_program}
use Rattle.host_port.specs.Outside.{Outside}
use Rattle.host_port.specs.Performing.{Performs}
use Rattle.courses.specs.declared.outcome.Done.{Done}
use Rattle.courses.specs.declared.outcome.Fault.{Fault}
use Rattle.courses.specs.declared.outcome.Fault.TheVariants.{BadElf, WriteFault}
use Rattle.courses.specs.Answer.{demo_course, demo_lines, given_file_acts, run_program}
use Rattle.courses.specs.Contract.{Acted}
use Rattle.courses.specs.Course.{Course, Does}
use Rattle.rvgprof.specs.Demonstrating.{IsDemoRead, RunsDemo}
use Rattle.courses.specs.Standing.{Stands}
use Rattle.command_runs.proofs.Performing.{given_shut}
use Rattle.courses.proofs.Standing.{does, fails, goes_on}

module _ (words : List (List ℕ)) (functions : ℕ) (setup : Setup) (file : Option (List ℕ)) (bytes given : List ℕ) (image : Image) (old : Outside) (read : IsDemoRead functions bytes image) (same : given ≡ bytes) (s : Stands words old old 0 [] (demo_course functions file setup)) where
  abbrev program : List ℕ
  program = demo_program functions

  abbrev runs : Course
  runs = run_program (λ z w. w.prints) setup (demo_lines functions setup.rate (image_of program)) program (image_of program)

  given_is : given ≡ program
  given_is = same ∙ read.bytes_are

  image_is : image ≡ image_of program
  image_is = read.image_is ∙ ap image_of read.bytes_are

  accepted : elf_refusal program ≡ None
  accepted = subst (λ (bs : List ℕ). elf_refusal bs ≡ None) read.bytes_are read.accepted

  stands : Stands words old old 0 [] (Does (given_file_acts file program) runs)
  stands = goes_on words old old 0 [] BadElf (elf_refusal program) (Does (given_file_acts file program) runs) s accepted

  pub demo_ran : {E : Type 0} (mid new : Outside) (result : Result Done Fault) (u : Unit {0}) → Performs {T = Unit {0}} {E = E} (given_file_acts file given) old mid (Ok u) → RunsDemo functions setup image given mid new result → Acted words old new result
  demo_ran {E} mid new result u performs ran =
      let written : Performs {T = Unit {0}} {E = E} (given_file_acts file program) old mid (Ok u) = subst (λ (bs : List ℕ). Performs {T = Unit {0}} {E = E} (given_file_acts file bs) old mid (Ok u)) given_is performs in
      let runs_so : RunsDemo functions setup (image_of program) program mid new result =
      subst (λ (i : Image). RunsDemo functions setup i program mid new result) image_is (subst (λ (bs : List ℕ). RunsDemo functions setup image bs mid new result) given_is ran) in
      runs_so words old 0 ([] ++ given_file_acts file program) (does {T = Unit {0}} {E = E} words old old mid 0 [] (given_file_acts file program) runs u stands written (given_shut file program))

  pub demo_not_written : {E : Type 0} (new : Outside) (e : E) → Performs {T = Unit {0}} (given_file_acts file given) old new (Err e) → Acted words old new (Err WriteFault)
  demo_not_written {E} new e performs =
      fails {T = Unit {0}} words old old new 0 [] (given_file_acts file program) runs e stands (subst (λ (bs : List ℕ). Performs {T = Unit {0}} (given_file_acts file bs) old new (Err e)) given_is performs)
