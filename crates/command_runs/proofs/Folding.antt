-- A run whose samples were folded, as the words ask for it.
use Rattle.std.proofs.Common.{◌≡◌, ℕ, ◌+◌, Bool, false, List, ◌++◌, Result, Ok, Err, inl, refl, sym, ap, subst, ◌∙◌}
use Rattle.elf32_syms.specs.declared.image.Image.{Image}
use Rattle.settings.specs.declared.setup.Setup.{Setup}
use Rattle.folded.specs.Folding.{HasCause, StopsShort}
use Rattle.folded.specs.declared.refusal.FoldRefusal.{FoldRefusal}
use Rattle.folded.specs.declared.refusal.FoldRefusal.TheVariants as folds
use Rattle.host_port.specs.Act.{Act, writes_after}
use Rattle.host_port.specs.Outside.{Outside}
use Rattle.prof_machine.specs.Plan.{after_drive, world_at}
use Rattle.prof_machine.specs.Start.{final_world, start_of}
use Rattle.prof_machine.specs.Value.{RunValue, StandsFor}
use Rattle.prof_machine.specs.World.{World}
use Rattle.prof_machine.proofs.PrintLemmas.{prints_driven}
use Rattle.courses.specs.Answer.{fold_fault_of, fold_program, stacks_told}
use Rattle.courses.specs.Contract.{Acted}
use Rattle.courses.specs.Course.{one_by_one}
use Rattle.command_runs.specs.Running.{IsStarted}
use Rattle.courses.specs.Standing.{MayStopHere, Stands}
use Rattle.command_runs.proofs.Performing.{drive_fails, printed_performs}
use Rattle.host_port.specs.Performing.{Performs}
use Rattle.command_runs.proofs.Running.{first_prints_none, last_is}
use Rattle.courses.proofs.Standing.{at_once, does, does_first, fails, goes_on, no_memory, one_by_one_stop}

-- memory may be wanted before the stacks are told
pub may_stop_stacks : (inclusive : Bool) (image : Image) (bytes : List ℕ) (setup : Setup) (contents : ℕ → List ℕ) → MayStopHere contents (stacks_told inclusive image bytes setup)
may_stop_stacks inclusive image bytes setup contents = (inl refl, refl)

pub may_stop_folding : (inclusive : Bool) (image : Image) (bytes : List ℕ) (setup : Setup) (contents : ℕ → List ℕ) → MayStopHere contents (one_by_one (final_world image bytes setup).prints (stacks_told inclusive image bytes setup))
may_stop_folding inclusive image bytes setup contents = search (one_by_one_stop, may_stop_stacks)

module _ (words : List (List ℕ)) (start mid new : Outside) (below : ℕ) (done : List Act) (inclusive : Bool) (image : Image) (bytes : List ℕ) (setup : Setup) (v : RunValue)
    (s : Stands words start mid below done (fold_program inclusive setup bytes image)) (started : IsStarted image bytes setup v) where
  here : Stands words start mid below done (one_by_one (final_world image bytes setup).prints (stacks_told inclusive image bytes setup))
  here = search goes_on

  abbrev first : World
  first = start_of image bytes setup

  -- it was folded to its end
  pub fold_done : {E : Type 0} → Performs {T = Unit {0}} {E = E} (final_world image bytes setup).prints mid new (Ok tt) → writes_after (final_world image bytes setup).prints false ≡ false
      → Stands words start new below (done ++ (final_world image bytes setup).prints) (stacks_told inclusive image bytes setup)
  fold_done {E} performs shut =
      does {T = Unit {0}} {E = E} words start mid new below done (final_world image bytes setup).prints (stacks_told inclusive image bytes setup) tt
      (at_once words start mid below done (final_world image bytes setup).prints (stacks_told inclusive image bytes setup) (λ contents. inl refl) (λ contents n. refl) here) performs shut

  due : {T E : Type 0} (r : Result T E) → Performs {T = T} {E = E} (after_drive v.machine first).prints mid new r → Performs (final_world image bytes setup).prints mid new r
  due r performs = subst (λ (w : World). Performs w.prints mid new r) (last_is image bytes setup v started) performs

  -- a print failed, or memory was wanted
  pub fold_stops : (refusal : FoldRefusal) → (w_prints : (w : World) → StandsFor w v → StopsShort v.machine w mid new refusal) → HasCause mid new refusal → new.is_writing ≡ mid.is_writing → Acted words start new (Err (fold_fault_of refusal))
  fold_stops folds.HostFailed stops cause still =
      let off = stops first started.stands in
      fails {T = Unit {0}} words start mid new below done (final_world image bytes setup).prints (stacks_told inclusive image bytes setup) tt
      (at_once words start mid below done (final_world image bytes setup).prints (stacks_told inclusive image bytes setup) (λ contents. inl refl) (λ contents n. refl) here)
      (due {T = Unit {0}} {E = Unit {0}} (Err tt) (drive_fails {T = Unit {0}} v.machine first off.0 mid new tt off.1 (first_prints_none image bytes setup) off.3))
  fold_stops folds.OutOfMemory stops cause still =
      let short = stops first started.stands in
      let front = (world_at v.machine first short.0).prints in
      let rest = prints_driven v.machine first short.0 short.1 in
      let whole : (final_world image bytes setup).prints ≡ front ++ rest.0 = ap (λ (w : World). w.prints) (sym (last_is image bytes setup v started)) ∙ rest.1 in
      let performs : Performs {T = Unit {0}} {E = Unit {0}} front mid new (Ok tt) = printed_performs {T = Unit {0}} {E = Unit {0}} first (world_at v.machine first short.0) mid new tt (first_prints_none image bytes setup) short.2 cause in
      let shut : writes_after front false ≡ false = ap (writes_after front) (sym s.shut) ∙ sym performs.done.writing ∙ still ∙ s.shut in
      let parted = subst (λ (acts : List Act). Stands words start mid below done (one_by_one acts (stacks_told inclusive image bytes setup))) whole here in
      no_memory words start new below (done ++ front) (one_by_one rest.0 (stacks_told inclusive image bytes setup))
      (does_first {T = Unit {0}} {E = Unit {0}} words start mid new below done front rest.0 (stacks_told inclusive image bytes setup) tt parted performs shut)
      (λ contents. one_by_one_stop contents rest.0 (stacks_told inclusive image bytes setup) (may_stop_stacks inclusive image bytes setup contents))
