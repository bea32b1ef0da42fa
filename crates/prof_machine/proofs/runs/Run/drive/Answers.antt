use Rattle.std.proofs.Common.{◌≡◌, ◌∙◌, ◌+◌, ◌≤◌, None, true, ap, refl, sym, subst, arith}
use Rattle.host_port.proofs.Laws.{KeepsCounts-same, KeepsCounts-then, KeepsInput-same, KeepsInput-then}
use Rattle.prof_machine.proofs.ActLemmas.{breaks_after, nothing_printed, printed_then}
use Rattle.prof_machine.proofs.DriveLemmas.{in_first, in_last, in_next, work_bound}
use Rattle.prof_machine.proofs.ResultLemmas.{on_err_any}
use Rattle.prof_machine.proofs.StandingLemmas.{with_live}
use Rattle.prof_machine.specs.Plan.{most_turns, world_at}
use Rattle.prof_machine.specs.Prints.{ArePrinted, BreaksOff}
use Rattle.prof_machine.specs.Schedule.{Draws}
use Rattle.prof_machine.specs.Value.{RunValue, StandsFor, work_left}
use Rattle.prof_machine.specs.World.{World}
use Rattle.prof_machine.proofs.runs.Run.drive.Goals as goal

pub turns-init : goal.turns-init
turns-init g c =
    let m = c.args.self.now.machine in
    let P : RunValue → Type 0 = λ v. work_left v ≤ most_turns v.machine.setup in
    let bound = subst P c.self.view_is (work_bound c.self.inside c.self.invariant) in
    let G : RunValue → Type 0 = λ v. v.live ≡ true → v.ending ≡ None in
    record {
      live = c.requires;
      going = subst G c.self.view_is c.self.invariant.going c.requires;
      machine = refl;
      note = refl;
      turns = 0;
      draws = subst (λ (v : RunValue). Draws v.machine.setup 0 c.new-plan.result) c.self.view_is c.new-plan.ensures;
      few = omega (arith, bound);
      stands = λ w st. in_first (λ v. StandsFor v c.args.self.now) m w st;
      prints = λ w st. (let o = g.H.Host.outside c.args.host.now in in_first (λ v. ArePrinted w v o o) m w (nothing_printed w w o refl));
      counts = KeepsCounts-same _;
      writing = refl;
      input = KeepsInput-same _;
    }

pub turns-preserved : goal.turns-preserved
turns-preserved g c =
    let m = c.args.self.now.machine in
    let i = c.turns.invariant in
    let t = c.in_ok-advance.ensures in
    let hart = c.next_hart-hart.ensures in
    let going = ap (λ (v : RunValue). v.ending) (sym c.self-in-turns.view_is) ∙ c.in_default.is in
    let live = t.advances.live.1 going in
    record {
      live = live;
      going = going;
      machine = t.advances.machine ∙ i.machine;
      note = t.advances.note ∙ i.note;
      turns = i.turns + 1;
      draws = hart.draws _ _ i.draws;
      few = omega (arith, i.few, t.fewer.less live);
      stands = λ w st. in_next (λ v. StandsFor v c.advance.new.self) m c.turns.self.machine w i.turns c.next_hart-hart.result i.machine (hart.taker _ _ i.draws) (t.stands _ (i.stands w st));
      prints = λ w st. in_next (λ v. ArePrinted w v (g.H.Host.outside c.args.host.now) (g.H.Host.outside c.advance.new.host)) m c.turns.self.machine w i.turns c.next_hart-hart.result i.machine (hart.taker _ _ i.draws)
          (printed_then w _ _ _ _ _ (i.prints w st) (t.outside.prints _ (i.stands w st)));
      counts = KeepsCounts-then _ _ _ i.counts t.outside.counts;
      writing = t.outside.writing ∙ i.writing;
      input = KeepsInput-then _ _ _ i.input t.outside.input;
    }

pub returns-in-Some-clause-stands : goal.returns-in-Some-clause-stands
returns-in-Some-clause-stands g c = λ w st.
    let m = c.args.self.now.machine in
    let i = c.turns.invariant in
    let t = c.in_ok-advance.ensures in
    let P : World → Type 0 = λ v. StandsFor v c.advance.new.self in
    let stands = in_next P m c.turns.self.machine w i.turns c.next_hart-hart.result i.machine (c.next_hart-hart.ensures.taker _ _ i.draws) (t.stands _ (i.stands w st)) in
    in_last P m w c.advance.new.self (i.turns + 1) c.in-Some.end (omega (arith, i.few, t.fewer.left)) (ap (λ (v : RunValue). v.ending) (sym c.self-in-turns.view_is) ∙ c.in-Some.is) stands stands

pub returns-in-Some-clause-prints : goal.returns-in-Some-clause-prints
returns-in-Some-clause-prints g c = λ w st.
    let m = c.args.self.now.machine in
    let i = c.turns.invariant in
    let t = c.in_ok-advance.ensures in
    let P : World → Type 0 = λ v. StandsFor v c.advance.new.self in
    let Q : World → Type 0 = λ v. ArePrinted w v (g.H.Host.outside c.args.host.now) (g.H.Host.outside c.advance.new.host) in
    in_last Q m w c.advance.new.self (i.turns + 1) c.in-Some.end (omega (arith, i.few, t.fewer.left)) (ap (λ (v : RunValue). v.ending) (sym c.self-in-turns.view_is) ∙ c.in-Some.is)
    (in_next P m c.turns.self.machine w i.turns c.next_hart-hart.result i.machine (c.next_hart-hart.ensures.taker _ _ i.draws) (t.stands _ (i.stands w st)))
    (in_next Q m c.turns.self.machine w i.turns c.next_hart-hart.result i.machine (c.next_hart-hart.ensures.taker _ _ i.draws) (printed_then w _ _ _ _ _ (i.prints w st) (t.outside.prints _ (i.stands w st))))

pub returns-in_err-advance-clause-fails : goal.returns-in_err-advance-clause-fails
returns-in_err-advance-clause-fails g c = on_err_any _ _ c.from_residual.result _ (λ w st.
    let m = c.args.self.now.machine in
    let i = c.turns.invariant in
    let t = c.in_err-advance.ensures in
    let Q : World → Type 0 = λ v. BreaksOff w v (g.H.Host.outside c.args.host.now) (g.H.Host.outside c.advance.new.host) in (
      i.turns,
      omega (arith, i.few, t.fewer.left),
      sym (i.stands w st).ending ∙ i.going,
      in_next Q m c.turns.self.machine w i.turns c.next_hart-hart.result i.machine (c.next_hart-hart.ensures.taker _ _ i.draws)
          (breaks_after w _ _ _ _ _ (i.prints w st) i.counts (t.outside.fails _ (i.stands w st))),
      subst (λ (v : RunValue). StandsFor (world_at m w i.turns) (record v { live = true })) (sym t.advances.failed) (with_live _ c.turns.self true (i.stands w st)),
    ))
