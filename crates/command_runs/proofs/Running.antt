-- A run that was started, as the words ask for it.
use Rattle.std.proofs.Common.{◌≡◌, ℕ, ◌++◌, ◌&&◌, ◌∷◌, All, Bool, true, false, List, [], Option, Some, None, Result, Ok, Err, inl, refl, sym, ap, subst, ◌∙◌}
use Rattle.std.specs.Prelude.{IfSome, IsSome, nat_lt}
use Rattle.std.specs.List.{list_all}
use Rattle.std.proofs.lemmas.Bool.{lt-ltb}
use Rattle.std.proofs.lemmas.List.Elements.{All-head, All-tail}
use Rattle.gp_base.specs.declared.records.RawArc.{RawArc}
use Rattle.elf32_syms.specs.declared.image.Image.{Image}
use Rattle.host_port.specs.Act.{Act, writes_after}
use Rattle.host_port.specs.Outside.{Outside}
use Rattle.settings.specs.declared.setup.Setup.{Setup}
use Rattle.mcount_arcs.specs.declared.sizes.Sizes.{Sizes}
use Rattle.mcount_arcs.specs.Arcs.{CallFits, arcs_of}
use Rattle.mcount_arcs.specs.Sizes.{sizes_of}
use Rattle.prof_machine.specs.declared.summary.RunSummary.{RunSummary}
use Rattle.prof_machine.specs.declared.summary.StartRefusal.{StartRefusal}
use Rattle.prof_machine.specs.declared.summary.StartRefusal.TheVariants as starts
use Rattle.prof_machine.specs.Plan.{after_drive}
use Rattle.prof_machine.specs.declared.machine.Machine.{Machine}
use Rattle.prof_machine.specs.Start.{IsRefusal, final_world, machine_of, start_of, start_refusal}
use Rattle.prof_machine.specs.Value.{RunValue, StandsFor, summary_of}
use Rattle.prof_machine.specs.World.{World}
use Rattle.courses.specs.declared.outcome.Fault.{Fault}
use Rattle.courses.specs.declared.outcome.Fault.TheVariants.{WriteFault}
use Rattle.courses.specs.Course.{Course, Ends, Does, Knows, takes_no_memory, unless}
use Rattle.courses.specs.Answer.{RunActs, call_fits, calls_fit, run_program, start_fault_of, sums_up}
use Rattle.host_port.specs.Performing.{Performs}
use Rattle.courses.specs.Contract.{Acted}
use Rattle.command_runs.specs.Running.{IsRunOf, IsStartFault, IsStarted}
use Rattle.courses.specs.Standing.{MayStopHere, Stands}
use Rattle.courses.proofs.Standing.{no_memory, may_stop_unless, refuses, goes_on, known, does, ends, fails}

-- the program's image, by which a run may be refused, isn't read without memory
start_takes : (due : Option StartRefusal) → IfSome due (λ refusal. takes_no_memory (start_fault_of refusal) ≡ false)
start_takes None = tt
start_takes (Some (starts.ProgramTooLarge need end)) = refl
start_takes (Some (starts.EntryOutside entry)) = refl
start_takes (Some starts.OutOfMemory) = refl

pub may_stop_start : (image : Image) (setup : Setup) (next : Course) (contents : ℕ → List ℕ) → MayStopHere contents next → MayStopHere contents (unless start_fault_of (start_refusal image setup) next)
may_stop_start image setup next contents may = may_stop_unless start_fault_of (start_refusal image setup) next contents (start_takes (start_refusal image setup)) may

-- the run doesn't start
pub not_started : (words : List (List ℕ)) (old new : Outside) (below : ℕ) (done : List Act) (image : Image) (setup : Setup) (next : Course) (fault : Fault) → ((contents : ℕ → List ℕ) → MayStopHere contents next)
    → Stands words old new below done (unless start_fault_of (start_refusal image setup) next) → IsStartFault image setup fault → Acted words old new (Err fault)
not_started words old new below done image setup next fault may s is =
    subst (λ (fault : Fault). Acted words old new (Err fault)) (sym is.is) (by_refusal is.refusal is.due)
  where
    by_refusal : (refusal : StartRefusal) → IsRefusal refusal (start_refusal image setup) → Acted words old new (Err (start_fault_of refusal))
    by_refusal starts.OutOfMemory is = search (no_memory, may_stop_start)
    by_refusal refusal is = refuses words old new below done start_fault_of (start_refusal image setup) next refusal s is tt

pub no_start : (words : List (List ℕ)) (old new : Outside) (below : ℕ) (done : List Act) (image : Image) (setup : Setup) (acts : List Act) (next : Course) (fault : Fault)
    → Stands words old new below done (unless start_fault_of (start_refusal image setup) (Does acts next)) → IsStartFault image setup fault → Acted words old new (Err fault)
no_start words old new below done image setup acts next fault s is = not_started words old new below done image setup (Does acts next) fault (λ contents. (inl refl, refl)) s is

machine_sizes : (image : Image) (setup : Setup) → (machine_of image setup).sizes ≡ sizes_of image.text setup.hist setup.hash
unfolding machine_of
machine_sizes image setup = refl

pub first_prints_none : (image : Image) (bytes : List ℕ) (setup : Setup) → (start_of image bytes setup).prints ≡ []
unfolding start_of
first_prints_none image bytes setup = refl

module _ (image : Image) (bytes : List ℕ) (setup : Setup) (v : RunValue) (s : IsStarted image bytes setup v) where
  pub last_is : after_drive v.machine (start_of image bytes setup) ≡ final_world image bytes setup
  last_is = ap (λ (m : Machine). after_drive m (start_of image bytes setup)) s.machine

  sizes_are : v.machine.sizes ≡ sizes_of image.text setup.hist setup.hash
  sizes_are = ap (λ (m : Machine). m.sizes) s.machine ∙ machine_sizes image setup

  -- what was done is what is due
  pub performs_due : {T E : Type 0} (acts : RunActs) (x y : Outside) (r : Result T E)
      → ((w : World) → StandsFor w v → w.prints ≡ [] → Performs (acts v.machine.sizes (after_drive v.machine w)) x y r)
      → Performs (acts (sizes_of image.text setup.hist setup.hash) (final_world image bytes setup)) x y r
  performs_due acts x y r performs =
      subst (λ (acts : List Act). Performs acts x y r)
      (ap (λ (z : Sizes). acts z (after_drive v.machine (start_of image bytes setup))) sizes_are ∙ ap (acts (sizes_of image.text setup.hist setup.hash)) last_is)
      (performs (start_of image bytes setup) s.stands (first_prints_none image bytes setup))

  -- it stands for the world in which it ends
  pub run_of : (v' : RunValue) → ((w : World) → StandsFor w v → StandsFor (after_drive v.machine w) v') → v'.machine ≡ v.machine → IsSome v'.ending → IsRunOf image bytes setup v'
  run_of v' stands same ended = record {
    stands = subst (λ (w : World). StandsFor w v') last_is (stands (start_of image bytes setup) s.stands);
    ended = ended;
    sizes = ap (λ (m : Machine). m.sizes) same ∙ sizes_are;
  }

-- what it has logged fits its file
fit : (arcs : List RawArc) → All CallFits arcs → list_all call_fits arcs ≡ true
fit [] all = refl
fit (arc ∷ arcs) all =
    let to : nat_lt arc.to 4294967296 ≡ true = lt-ltb arc.to 4294967296 (All-head CallFits arc arcs all).to in
    let count : nat_lt arc.count 4294967296 ≡ true = lt-ltb arc.count 4294967296 (All-head CallFits arc arcs all).count in
    let rest : list_all call_fits arcs ≡ true = fit arcs (All-tail CallFits arc arcs all) in
    ap (λ (b : Bool). (b && nat_lt arc.count 4294967296) && list_all call_fits arcs) to
    ∙ ap (λ (b : Bool). b && list_all call_fits arcs) count ∙ rest

fit_run : (image : Image) (bytes : List ℕ) (setup : Setup) (v : RunValue) → IsRunOf image bytes setup v → ((w : World) → StandsFor w v → All CallFits (arcs_of v.machine.sizes w.log))
    → calls_fit (sizes_of image.text setup.hist setup.hash) (final_world image bytes setup) ≡ true
fit_run image bytes setup v is calls =
    let w = final_world image bytes setup in
    fit (arcs_of (sizes_of image.text setup.hist setup.hash) w.log) (subst (λ (z : Sizes). All CallFits (arcs_of z w.log)) is.sizes (calls w is.stands))

-- it was driven and its acts done
pub run_done : {E : Type 0} (words : List (List ℕ)) (old mid new : Outside) (below : ℕ) (done : List Act) (acts : RunActs) (next : Sizes → World → Course) (image : Image) (bytes : List ℕ) (setup : Setup) (v : RunValue)
    → (Performs {T = Unit {0}} {E = E} (acts (sizes_of image.text setup.hist setup.hash) (final_world image bytes setup)) mid new (Ok tt) → mid.is_writing ≡ false → writes_after (acts (sizes_of image.text setup.hist setup.hash) (final_world image bytes setup)) false ≡ false)
    → Stands words old mid below done (run_program acts setup next bytes image) → IsStarted image bytes setup v
    → ((w : World) → StandsFor w v → w.prints ≡ [] → Performs {T = Unit {0}} {E = E} (acts v.machine.sizes (after_drive v.machine w)) mid new (Ok tt))
    → (last : RunValue) → IsRunOf image bytes setup last → ((w : World) → StandsFor w last → All CallFits (arcs_of last.machine.sizes w.log))
    → (all : List Act) × Stands words old new below all (next (sizes_of image.text setup.hist setup.hash) (final_world image bytes setup))
run_done {E} words old mid new below done acts next image bytes setup v shut s started performs last is calls =
    let z = sizes_of image.text setup.hist setup.hash in
    let w = final_world image bytes setup in
    let p = performs_due image bytes setup v started {T = Unit {0}} {E = E} acts mid new (Ok tt) performs in (
      done ++ acts z w,
      known words old new below (done ++ acts z w) (calls_fit z w) (next z w) (fit_run image bytes setup last is calls)
          (does {T = Unit {0}} {E = E} words old mid new below done (acts z w) (Knows (calls_fit z w) (next z w)) tt
          (goes_on words old mid below done start_fault_of (start_refusal image setup) (Does (acts z w) (Knows (calls_fit z w) (next z w))) s started.starts)
          p (shut p s.shut)),
    )

-- a call on the host failed
pub run_failed : {E : Type 0} (words : List (List ℕ)) (old mid new : Outside) (below : ℕ) (done : List Act) (acts : RunActs) (next : Sizes → World → Course) (image : Image) (bytes : List ℕ) (setup : Setup) (v : RunValue) (e : E)
    → Stands words old mid below done (run_program acts setup next bytes image) → IsStarted image bytes setup v
    → ((w : World) → StandsFor w v → w.prints ≡ [] → Performs {T = Unit {0}} (acts v.machine.sizes (after_drive v.machine w)) mid new (Err e))
    → Acted words old new (Err WriteFault)
run_failed {E} words old mid new below done acts next image bytes setup v e s started performs =
    let z = sizes_of image.text setup.hist setup.hash in
    let w = final_world image bytes setup in
    fails {T = Unit {0}} words old mid new below done (acts z w) (Knows (calls_fit z w) (next z w)) e
    (goes_on words old mid below done start_fault_of (start_refusal image setup) (Does (acts z w) (Knows (calls_fit z w) (next z w))) s started.starts)
    (performs_due image bytes setup v started {T = Unit {0}} {E = E} acts mid new (Err e) performs)

-- how a run went is what is to be told
pub summary_is : (image : Image) (bytes : List ℕ) (setup : Setup) (v : RunValue) (summary : RunSummary) → IsRunOf image bytes setup v → ((w : World) → StandsFor w v → summary_of v.machine.sizes w ≡ Some summary)
    → summary_of (sizes_of image.text setup.hist setup.hash) (final_world image bytes setup) ≡ Some summary
summary_is image bytes setup v summary is told =
    ap (λ (z : Sizes). summary_of z (final_world image bytes setup)) (sym is.sizes) ∙ told (final_world image bytes setup) is.stands

-- it is told
pub run_told : (words : List (List ℕ)) (old new : Outside) (below : ℕ) (done : List Act) (image : Image) (bytes : List ℕ) (setup : Setup) (v : RunValue) (summary : RunSummary) → IsRunOf image bytes setup v
    → ((w : World) → StandsFor w v → summary_of v.machine.sizes w ≡ Some summary) → Stands words old new below done (sums_up (sizes_of image.text setup.hist setup.hash) (final_world image bytes setup)) → Acted words old new (Ok (record { run = Some summary }))
run_told words old new below done image bytes setup v summary is tells s =
    ends words old new below done (Ok (record { run = Some summary }))
    (subst (λ (r : Option RunSummary). Stands words old new below done (Ends (Ok (record { run = r })))) (summary_is image bytes setup v summary is tells) s) tt
