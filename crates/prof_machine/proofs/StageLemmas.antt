-- What a stage of a turn prints, by what another one does.
use Rattle.std.proofs.Common.{None, ap, false, refl, subst, true, ℕ, ◌∙◌, ◌≡◌}
use Rattle.std.specs.Prelude.{Err, Ok, Result}
use Rattle.host_port.proofs.Laws.{KeepsCounts-same, KeepsInput-same}
use Rattle.host_port.specs.Outside.{Outside}
use Rattle.prof_machine.proofs.ActLemmas.{breaks_as, nothing_printed, printed_as}
use Rattle.prof_machine.proofs.StandingLemmas.{with_live}
use Rattle.prof_machine.proofs.TurnLemmas.{taken_instructed, turn_prints}
use Rattle.prof_machine.specs.declared.runs.Run.TheInside.{Inside}
use Rattle.prof_machine.specs.Stages.{PrintsAs, holds}
use Rattle.prof_machine.specs.Turn.{after_ordinary_turn, turn_of}
use Rattle.prof_machine.specs.Value.{RunValue, StandsFor, value_of}
use Rattle.prof_machine.specs.World.{World}

-- a stage that prints nothing
pub printless : {T E : Type 0} (stage : World → World) (r : RunValue) (x : Outside) (v : T) → ((w : World) → StandsFor w r → (stage w).prints ≡ w.prints) → PrintsAs {T = T} {E = E} stage r x x (Ok v)
printless stage r x v same = record {
  prints = λ w st. nothing_printed w (stage w) x (same w st);
  fails = tt;
  counts = KeepsCounts-same x;
  writing = refl;
  input = KeepsInput-same x;
}

-- a stage that prints what another one prints, of a run that stands for the same worlds
pub prints_like : {T U E F : Type 0} (stage other : World → World) (r q : RunValue) (x y : Outside) (v : T) (u : U)
    → ((w : World) → StandsFor w r → StandsFor w q) → ((w : World) → StandsFor w r → (stage w).prints ≡ (other w).prints) → PrintsAs {T = U} {E = F} other q x y (Ok u) → PrintsAs {T = T} {E = E} stage r x y (Ok v)
prints_like stage other r q x y v u stands same p = record {
  prints = λ w st. printed_as w (other w) (stage w) x y (same w st) (p.prints w (stands w st));
  fails = tt;
  counts = p.counts;
  writing = p.writing;
  input = p.input;
}

-- and where that fails
pub fails_like : {T U E F : Type 0} (stage other : World → World) (r q : RunValue) (x y : Outside) (e : E) (f : F)
    → ((w : World) → StandsFor w r → StandsFor w q) → ((w : World) → StandsFor w r → (stage w).prints ≡ (other w).prints) → PrintsAs {T = U} {E = F} other q x y (Err f) → PrintsAs {T = T} {E = E} stage r x y (Err e)
fails_like stage other r q x y e f stands same p = record {
  prints = tt;
  fails = λ w st. breaks_as w (other w) (stage w) x y (same w st) (p.fails w (stands w st));
  counts = p.counts;
  writing = p.writing;
  input = p.input;
}

pub prints_as : {T E : Type 0} (stage other : World → World) (r q : RunValue) (x y : Outside) (result : Result T E)
    → ((w : World) → StandsFor w r → StandsFor w q) → ((w : World) → StandsFor w r → (stage w).prints ≡ (other w).prints) → PrintsAs other q x y result → PrintsAs stage r x y result
prints_as stage other r q x y (Ok v) stands same p = prints_like stage other r q x y v v stands same p
prints_as stage other r q x y (Err e) stands same p = fails_like stage other r q x y e e stands same p

-- a turn without a look prints what its instruction prints
pub instructed_prints : (a : Inside) (v : RunValue) (h : ℕ) → value_of a ≡ v → (a.live ≡ true → a.ending ≡ None) → v.live ≡ true → holds a.flight h ≡ false
    → (w : World) → StandsFor w v → StandsFor w (value_of (record a { live = false })) × ((turn_of v.machine w h).prints ≡ (after_ordinary_turn a.machine h w).prints)
instructed_prints a v h is going live none w st =
    let P : RunValue → Type 0 = λ v. v.live ≡ true → StandsFor w v → StandsFor w (value_of (record a { live = false })) × ((turn_of v.machine w h).prints ≡ (after_ordinary_turn a.machine h w).prints) in
    subst P is (λ live (s : StandsFor w (value_of a)).
    let s' = with_live w (value_of a) false s in
    (s', turn_prints a.machine h w (value_of a) (going live) s ∙ ap (λ (x : World). x.prints) (taken_instructed a.machine h w (value_of (record a { live = false })) none s'))) live st
