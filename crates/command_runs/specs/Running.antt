-- What a run is that was started, and one that ended; and how a command goes on behind a run, or ends.
use Rattle.std.specs.Prelude.{◌≡◌, ℕ, List, None, Result, Err, MatchResult, IsSome, IfSome}
use Rattle.elf32_syms.specs.declared.image.Image.{Image}
use Rattle.host_port.specs.Act.{Act}
use Rattle.host_port.specs.Outside.{Outside}
use Rattle.settings.specs.declared.setup.Setup.{Setup}
use Rattle.courses.specs.declared.outcome.Fault.{Fault}
use Rattle.courses.specs.Course.{Course}
use Rattle.mcount_arcs.specs.declared.sizes.Sizes.{Sizes}
use Rattle.mcount_arcs.specs.Sizes.{sizes_of}
use Rattle.prof_machine.specs.declared.summary.StartRefusal.{StartRefusal}
use Rattle.prof_machine.specs.Start.{final_world, machine_of, start_of, start_refusal, IsRefusal as IsStartRefusal}
use Rattle.prof_machine.specs.Value.{IsLive, RunValue, StandsFor}
use Rattle.prof_machine.specs.World.{World}
use Rattle.courses.specs.Answer.{RunActs, run_program, start_fault_of}
use Rattle.courses.specs.Contract.{Acted}
use Rattle.courses.specs.Standing.{Stands}

-- A run of a program was started.
pub record IsStarted (image : Image) (bytes : List ℕ) (setup : Setup) (v : RunValue) : Type 0 where
  pub starts : start_refusal image setup ≡ None
  pub live : IsLive v
  pub stands : StandsFor (start_of image bytes setup) v
  pub machine : v.machine ≡ machine_of image setup
  pub setup_is : v.machine.setup ≡ setup

-- it was not: there was no memory, or it is refused, for which no memory is taken
pub record IsStartFault (image : Image) (setup : Setup) (fault : Fault) : Type 0 where
  pub refusal : StartRefusal
  pub is : fault ≡ start_fault_of refusal
  pub due : IsStartRefusal refusal (start_refusal image setup)
  pub refused : IfSome (start_refusal image setup) (λ refusal. fault ≡ start_fault_of refusal)

-- A run of a program stands for the world in which it ends.
pub record IsRunOf (image : Image) (bytes : List ℕ) (setup : Setup) (v : RunValue) : Type 0 where
  pub stands : StandsFor (final_world image bytes setup) v
  pub ended : IsSome v.ending
  pub sizes : v.machine.sizes ≡ sizes_of image.text setup.hist setup.hash

-- A program was run and its acts done, and the command goes on; or it ended.
abbrev pub RunsProgram : {T : Type 0} → List (List ℕ) → RunActs → Setup → Image → List ℕ → Outside → Outside → Result T Fault → Type 0
RunsProgram words acts setup image bytes old new result =
    (start : Outside) (below : ℕ) (done : List Act) (next : Sizes → World → Course) → Stands words start old below done (run_program acts setup next bytes image)
    → MatchResult result (λ _. (all : List Act) × Stands words start new below all (next (sizes_of image.text setup.hist setup.hash) (final_world image bytes setup))) (λ fault. Acted words start new (Err fault))
