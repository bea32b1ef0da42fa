use Rattle.std.proofs.Common.{List, ◌∙◌, ◌+◌, ◌≤◌, arith, inl, inr, length, refl, subst, sym, ap, ℕ}
use Rattle.host_port.proofs.Laws.{KeepsCounts-same, KeepsCounts-then, KeepsInput-same, KeepsInput-then}
use Rattle.settings.specs.declared.setup.Setup.{Setup}
use Rattle.prof_machine.proofs.ActLemmas.{breaks_after, nothing_printed, printed_then}
use Rattle.prof_machine.proofs.DriveLemmas.{in_first, in_last, in_next}
use Rattle.prof_machine.specs.Plan.{most_turns}
use Rattle.prof_machine.specs.Prints.{ArePrinted, BreaksOff}
use Rattle.prof_machine.specs.Schedule.{Draws}
use Rattle.prof_machine.specs.Value.{StandsFor, work_left}
use Rattle.prof_machine.specs.World.{World}
use Rattle.folded.specs.Folding.{Follows}
use Rattle.std.proofs.lemmas.Result.{err_from_is_err_and}
use Rattle.elf32_syms.specs.declared.image.Symbol.{Symbol}
use Rattle.prof_machine.specs.declared.machine.Machine.{Machine}
use Rattle.folded.specs.Stacks.{stacks_of}
use Rattle.folded.specs.Tally.{Folds}
use Rattle.folded.specs.Trail.{first_trail, run_samples}
use Rattle.folded.proofs.FoldLemmas.{few_at, first_follows, first_harts, first_room, folds_last, next_follows, stops_at_first}
use Rattle.folded.proofs.folded_run.fold.Goals as goal

pub returns-in_err-tracker-clause-stops : goal.returns-in_err-tracker-clause-stops
returns-in_err-tracker-clause-stops g c = grind (arith, stops_at_first)

pub loop-tracker-init : goal.loop-tracker-init
loop-tracker-init g c =
    let m = c.args.run.now.machine in
    let o = g.H.Host.outside c.args.host.now in
    let symbols = c.as_slice-symbols.result.now in
    let v = c.in_ok-tracker.tracker in
    record {
      live = c.requires.live;
      machine = refl;
      turns = 0;
      draws = subst (λ (s : Setup). Draws s 0 c.new-plan.result) (sym c.requires.setup) c.new-plan.ensures;
      few = inl refl;
      stands = λ w st. in_first (λ v. StandsFor v c.args.run.now) m w st;
      follows = λ w st. first_follows symbols m w v (subst (λ (s : Setup). Follows symbols (first_trail s.harts) v) (sym c.requires.setup) c.in_ok-tracker.ensures.follows);
      prints = λ w st. in_first (λ v. ArePrinted w v o o) m w (nothing_printed w w o refl);
      counts = KeepsCounts-same _;
      writing = refl;
      input = KeepsInput-same _;
      harts = first_harts v.shadows.items c.args.setup.now.harts c.in_ok-tracker.ensures.harts ∙ sym (ap (λ (s : Setup). s.harts) c.requires.setup);
      tracked = c.in_ok-tracker.ensures.tracked;
      room = first_room v.shadows.items c.args.setup.now.harts c.in_ok-tracker.ensures.harts;
      total = omega (arith, c.in_ok-tracker.ensures.total);
    }

pub loop-tracker-preserved : goal.loop-tracker-preserved
loop-tracker-preserved g c =
    let m = c.args.run.now.machine in
    let i = c.loop-tracker.invariant in
    let t = c.in_ok-turned.ensures in
    let hart = c.next_hart-hart.ensures in
    let M : Machine → Type 0 = λ x. work_left c.loop-tracker.run ≤ most_turns x.setup in
    let bound : i.turns + work_left c.loop-tracker.run ≤ most_turns m.setup = few_at i.turns (work_left c.loop-tracker.run) (most_turns m.setup) i.few (subst M i.machine t.few) in
    let f = c.in_ok-follow.ensures in
    let live = t.live.1 cc in
    record {
      live = live;
      machine = t.machine ∙ i.machine;
      turns = i.turns + 1;
      draws = hart.draws _ _ i.draws;
      few = inr (omega (arith, bound, t.less live));
      stands = λ w st. in_next (λ v. StandsFor v c.turn.new.self) m c.loop-tracker.run.machine w i.turns c.next_hart-hart.result i.machine (hart.taker _ _ i.draws) (t.stands _ (i.stands w st));
      follows = λ w st. next_follows c.as_slice-symbols.result.now m c.loop-tracker.run.machine w i.turns c.next_hart-hart.result c.last_turn.result c.follow.new.self i.machine (hart.taker _ _ i.draws)
          (c.last_turn.ensures ∙ t.note _ (i.stands w st)) (f.follows _ (i.follows w st));
      prints = λ w st. in_next (λ v. ArePrinted w v (g.H.Host.outside c.args.host.now) (g.H.Host.outside c.turn.new.host)) m c.loop-tracker.run.machine w i.turns c.next_hart-hart.result i.machine (hart.taker _ _ i.draws)
          (printed_then w _ _ _ _ _ (i.prints w st) (t.prints _ (i.stands w st)));
      counts = KeepsCounts-then _ _ _ i.counts t.counts;
      writing = t.writing ∙ i.writing;
      input = KeepsInput-then _ _ _ i.input t.input;
      harts = f.harts ∙ i.harts;
      tracked = f.tracked;
      room = f.room _ i.room;
      total = omega (arith, f.total, i.total);
    }

pub returns-in_err-turned-clause-stops : goal.returns-in_err-turned-clause-stops
returns-in_err-turned-clause-stops g c =
    let m = c.args.run.now.machine in
    let i = c.loop-tracker.invariant in
    let t = c.in_err-turned.ensures in
    let hart = c.next_hart-hart.ensures in
    let M : Machine → Type 0 = λ x. work_left c.loop-tracker.run ≤ most_turns x.setup in
    let bound : i.turns + work_left c.loop-tracker.run ≤ most_turns m.setup = few_at i.turns (work_left c.loop-tracker.run) (most_turns m.setup) i.few (subst M i.machine t.few) in
    let p = err_from_is_err_and c.from_residual-in_err-turned.result c.from_residual-in_err-turned.ensures.1 in
    rw (p.1, p.2) (λ w st.
    let Q : World → Type 0 = λ v. BreaksOff w v (g.H.Host.outside c.args.host.now) (g.H.Host.outside c.turn.new.host) in (
      i.turns,
      omega (arith, bound, t.left),
      sym (i.stands w st).ending ∙ t.going,
      in_next Q m c.loop-tracker.run.machine w i.turns c.next_hart-hart.result i.machine (hart.taker _ _ i.draws)
          (breaks_after w _ _ _ _ _ (i.prints w st) i.counts (t.fails _ (i.stands w st))),
    ))

pub returns-in_err-follow-clause-stops : goal.returns-in_err-follow-clause-stops
returns-in_err-follow-clause-stops g c =
    let m = c.args.run.now.machine in
    let i = c.loop-tracker.invariant in
    let t = c.in_ok-turned.ensures in
    let hart = c.next_hart-hart.ensures in
    let M : Machine → Type 0 = λ x. work_left c.loop-tracker.run ≤ most_turns x.setup in
    let bound : i.turns + work_left c.loop-tracker.run ≤ most_turns m.setup = few_at i.turns (work_left c.loop-tracker.run) (most_turns m.setup) i.few (subst M i.machine t.few) in
    let p = err_from_is_err_and c.from_residual-in_err-follow.result c.from_residual-in_err-follow.ensures.1 in
    rw (p.1, p.2) (λ w st.
    let Q : World → Type 0 = λ v. ArePrinted w v (g.H.Host.outside c.args.host.now) (g.H.Host.outside c.turn.new.host) in (
      i.turns + 1,
      omega (arith, bound, t.left),
      in_next Q m c.loop-tracker.run.machine w i.turns c.next_hart-hart.result i.machine (hart.taker _ _ i.draws) (printed_then w _ _ _ _ _ (i.prints w st) (t.prints _ (i.stands w st))),
    ))

pub returns-in-Ended-clause-stands : goal.returns-in-Ended-clause-stands
returns-in-Ended-clause-stands g c = λ w st.
    let m = c.args.run.now.machine in
    let i = c.loop-tracker.invariant in
    let t = c.in_ok-turned.ensures in
    let hart = c.next_hart-hart.ensures in
    let M : Machine → Type 0 = λ x. work_left c.loop-tracker.run ≤ most_turns x.setup in
    let bound : i.turns + work_left c.loop-tracker.run ≤ most_turns m.setup = few_at i.turns (work_left c.loop-tracker.run) (most_turns m.setup) i.few (subst M i.machine t.few) in
    let P : World → Type 0 = λ v. StandsFor v c.turn.new.self in
    let stands = in_next P m c.loop-tracker.run.machine w i.turns c.next_hart-hart.result i.machine (hart.taker _ _ i.draws) (t.stands _ (i.stands w st)) in
    in_last P m w c.turn.new.self (i.turns + 1) c.in-Ended.field-0 (omega (arith, bound, t.left)) ((t.answer c.in-Ended.field-0).0 c.in-Ended.is) stands stands

pub returns-in-Ended-clause-folds : goal.returns-in-Ended-clause-folds
returns-in-Ended-clause-folds g c = λ w st.
    let m = c.args.run.now.machine in
    let i = c.loop-tracker.invariant in
    let t = c.in_ok-turned.ensures in
    let hart = c.next_hart-hart.ensures in
    let M : Machine → Type 0 = λ x. work_left c.loop-tracker.run ≤ most_turns x.setup in
    let bound : i.turns + work_left c.loop-tracker.run ≤ most_turns m.setup = few_at i.turns (work_left c.loop-tracker.run) (most_turns m.setup) i.few (subst M i.machine t.few) in
    let f = c.in_ok-follow.ensures in
    let symbols = c.as_slice-symbols.result.now in
    let stands = in_next (λ v. StandsFor v c.turn.new.self) m c.loop-tracker.run.machine w i.turns c.next_hart-hart.result i.machine (hart.taker _ _ i.draws) (t.stands _ (i.stands w st)) in
    let follows = next_follows symbols m c.loop-tracker.run.machine w i.turns c.next_hart-hart.result c.last_turn.result c.follow.new.self i.machine (hart.taker _ _ i.draws)
    (c.last_turn.ensures ∙ t.note _ (i.stands w st)) (f.follows _ (i.follows w st)) in
    let ended = sym stands.ending ∙ (t.answer c.in-Ended.field-0).0 c.in-Ended.is in
    let told = c.in_ok-of-in-Ended.ensures.folds (stacks_of symbols (run_samples m w)) (folds_last symbols m w (i.turns + 1) c.follow.new.self c.in-Ended.field-0 (omega (arith, bound, t.left)) ended follows) in
    let S : List Symbol → Type 0 = λ x. Folds (length x) (stacks_of x (run_samples m w)) c.in_ok-of-in-Ended.field-0 in
    subst S c.as_slice-symbols.ensures (subst (λ (n : ℕ). Folds n (stacks_of symbols (run_samples m w)) c.in_ok-of-in-Ended.field-0) f.tracked.tree.functions told)

pub returns-in-Ended-clause-functions : goal.returns-in-Ended-clause-functions
returns-in-Ended-clause-functions g c = grind arith

pub returns-in_err-of-in-Ended-clause-stops : goal.returns-in_err-of-in-Ended-clause-stops
returns-in_err-of-in-Ended-clause-stops g c =
    let m = c.args.run.now.machine in
    let i = c.loop-tracker.invariant in
    let t = c.in_ok-turned.ensures in
    let hart = c.next_hart-hart.ensures in
    let M : Machine → Type 0 = λ x. work_left c.loop-tracker.run ≤ most_turns x.setup in
    let bound : i.turns + work_left c.loop-tracker.run ≤ most_turns m.setup = few_at i.turns (work_left c.loop-tracker.run) (most_turns m.setup) i.few (subst M i.machine t.few) in
    let p = err_from_is_err_and c.from_residual-in_err-of-in-Ended.result c.from_residual-in_err-of-in-Ended.ensures.1 in
    rw (p.1, p.2) (λ w st.
    let Q : World → Type 0 = λ v. ArePrinted w v (g.H.Host.outside c.args.host.now) (g.H.Host.outside c.turn.new.host) in (
      i.turns + 1,
      omega (arith, bound, t.left),
      in_next Q m c.loop-tracker.run.machine w i.turns c.next_hart-hart.result i.machine (hart.taker _ _ i.draws) (printed_then w _ _ _ _ _ (i.prints w st) (t.prints _ (i.stands w st))),
    ))

pub returns-in-Ended-clause-prints : goal.returns-in-Ended-clause-prints
returns-in-Ended-clause-prints g c = λ w st.
    let m = c.args.run.now.machine in
    let i = c.loop-tracker.invariant in
    let t = c.in_ok-turned.ensures in
    let hart = c.next_hart-hart.ensures in
    let M : Machine → Type 0 = λ x. work_left c.loop-tracker.run ≤ most_turns x.setup in
    let bound : i.turns + work_left c.loop-tracker.run ≤ most_turns m.setup = few_at i.turns (work_left c.loop-tracker.run) (most_turns m.setup) i.few (subst M i.machine t.few) in
    let P : World → Type 0 = λ v. StandsFor v c.turn.new.self in
    let Q : World → Type 0 = λ v. ArePrinted w v (g.H.Host.outside c.args.host.now) (g.H.Host.outside c.turn.new.host) in
    in_last Q m w c.turn.new.self (i.turns + 1) c.in-Ended.field-0 (omega (arith, bound, t.left)) ((t.answer c.in-Ended.field-0).0 c.in-Ended.is)
    (in_next P m c.loop-tracker.run.machine w i.turns c.next_hart-hart.result i.machine (hart.taker _ _ i.draws) (t.stands _ (i.stands w st)))
    (in_next Q m c.loop-tracker.run.machine w i.turns c.next_hart-hart.result i.machine (hart.taker _ _ i.draws) (printed_then w _ _ _ _ _ (i.prints w st) (t.prints _ (i.stands w st))))
