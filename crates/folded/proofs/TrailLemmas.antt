-- The shadows and the samples of turns one after the other.
use Rattle.std.proofs.Common.{◌≡◌, ◌∙◌, ◌+◌, ◌≤◌, ℕ, List, [], ◌∷◌, ◌++◌, Some, None, Option, if◌then◌else◌, append-nil, append_assoc, ap, drop, map, refl, sym}
use Rattle.std.specs.List.{cons_option}
use Rattle.std.proofs.lemmas.List.{map-append}
use Rattle.mcount_arcs.specs.Samples.{counted_samples}
use Rattle.prof_machine.proofs.NotedLemmas.{samples_noted}
use Rattle.prof_machine.specs.Laws.{noted_samples}
use Rattle.prof_machine.proofs.PlanLemmas.{plan_front, plan_more}
use Rattle.prof_machine.proofs.WorldLemmas.{ended_turn}
use Rattle.prof_machine.specs.Notes.{look_note, note_by, note_of}
use Rattle.prof_machine.specs.Plan.{most_turns, plan_of, world_at, taker_of}
use Rattle.prof_machine.specs.Turn.{turn_of, world_after}
use Rattle.prof_machine.specs.World.{World, looks_of_hart}
use Rattle.prof_machine.specs.declared.summary.End.{End}
use Rattle.prof_machine.specs.declared.machine.Machine.{Machine}
use Rattle.prof_machine.specs.declared.notes.TurnNote.{TurnNote}
use Rattle.std.specs.Prelude.{is_some}
use Rattle.folded.specs.Shadow.{after_ran}
use Rattle.folded.proofs.FollowLemmas.{nothing_followed}
use Rattle.folded.specs.Trail.{StackSample, Trail, first_trail, trail_with, run_samples, samples_after, stack_samples, shadow_of, trail_after, trail_from}

pub trail_from-append : (m : Machine) (w : World) (t : Trail) (front back : List ℕ) → trail_from m w t (front ++ back) ≡ trail_from m (world_after m w front) (trail_from m w t front) back
trail_from-append m w t [] back = refl
trail_from-append m w t (h ∷ front) back = trail_from-append m (turn_of m w h) (trail_with h (note_of m w h) t) front back

-- one more turn of the plan
pub trail_next : (m v : Machine) (w : World) (n h : ℕ) → v ≡ m → h ≡ taker_of m.setup.plan m.setup.harts n
    → trail_with h (note_of v (world_at m w n) h) (trail_after m w (plan_of m.setup n)) ≡ trail_after m w (plan_of m.setup (n + 1))
trail_next m v w n h same taker =
    let t = trail_after m w (plan_of m.setup n) in
    ap (λ (x : Machine). trail_with h (note_of x (world_at m w n) h) t) same
    ∙ ap (λ (k : ℕ). trail_with k (note_of m (world_at m w n) k) t) taker
    ∙ sym (ap (λ (turns : List ℕ). trail_after m w turns) (plan_more m.setup n) ∙ trail_from-append m w (first_trail m.setup.harts) (plan_of m.setup n) (taker_of m.setup.plan m.setup.harts n ∷ []))

-- a turn of a run that has ended tells nothing
ended_note : (m : Machine) (w : World) (h : ℕ) (end : End) → w.ending ≡ Some end → note_of m w h ≡ look_note None
unfolding note_of
ended_note m w h end is = ap (λ (o : Option End). if is_some o then look_note None else note_by m h (looks_of_hart w.left h) w) is

trail_ended : (m : Machine) (w : World) (t : Trail) (turns : List ℕ) (end : End) → w.ending ≡ Some end → trail_from m w t turns ≡ t
trail_ended m w t [] end is = refl
trail_ended m w t (h ∷ turns) end is =
    ap (λ (v : World). trail_from m v (trail_with h (note_of m w h) t) turns) (ended_turn m w h end is)
    ∙ ap (λ (note : TurnNote). trail_from m w (trail_with h note t) turns) (ended_note m w h end is)
    ∙ ap (λ (x : Trail). trail_from m w x turns) (nothing_followed h t)
    ∙ trail_ended m w t turns end is

-- the turn in which the run ends is the last
pub run_samples_at : (m : Machine) (w : World) (n : ℕ) (end : End) → n ≤ most_turns m.setup → (world_at m w n).ending ≡ Some end → samples_after m w (plan_of m.setup n) ≡ run_samples m w
unfolding run_samples
run_samples_at m w n end enough is =
    ap (λ (t : Trail). t.samples) (sym (
    ap (λ (turns : List ℕ). trail_after m w turns) (sym (plan_front m.setup n (most_turns m.setup) enough))
    ∙ trail_from-append m w (first_trail m.setup.harts) (plan_of m.setup n) (drop n (plan_of m.setup (most_turns m.setup)))
    ∙ trail_ended m (world_at m w n) (trail_after m w (plan_of m.setup n)) (drop n (plan_of m.setup (most_turns m.setup))) end is))

-- ---- the samples that are followed are those that notes tell

pcs_by : (samples : List StackSample) (frames : List ℕ) (o : Option ℕ) → map (λ (s : StackSample). s.pc) (samples ++ stack_samples o frames) ≡ map (λ (s : StackSample). s.pc) samples ++ cons_option o []
pcs_by samples frames None = map-append (λ (s : StackSample). s.pc) samples []
pcs_by samples frames (Some pc) = map-append (λ (s : StackSample). s.pc) samples (record { frames = frames; pc = pc } ∷ [])

pcs_more : (h : ℕ) (note : TurnNote) (t : Trail) → map (λ (s : StackSample). s.pc) (trail_with h note t).samples ≡ map (λ (s : StackSample). s.pc) t.samples ++ cons_option note.sample []
unfolding trail_with
pcs_more h note t = pcs_by t.samples (after_ran note.ran (shadow_of t.shadows h)).frames note.sample

behind : (front : List ℕ) (o : Option ℕ) (rest : List ℕ) → (front ++ cons_option o []) ++ rest ≡ front ++ cons_option o rest
behind front None rest = ap (λ (x : List ℕ). x ++ rest) (append-nil front)
behind front (Some n) rest = append_assoc front (n ∷ []) rest

pcs_from : (m : Machine) (w : World) (t : Trail) (turns : List ℕ) → map (λ (s : StackSample). s.pc) (trail_from m w t turns).samples ≡ map (λ (s : StackSample). s.pc) t.samples ++ noted_samples m w turns
pcs_from m w t [] = sym (append-nil (map (λ (s : StackSample). s.pc) t.samples))
pcs_from m w t (h ∷ turns) =
    pcs_from m (turn_of m w h) (trail_with h (note_of m w h) t) turns
    ∙ ap (λ (x : List ℕ). x ++ noted_samples m (turn_of m w h) turns) (pcs_more h (note_of m w h) t)
    ∙ behind (map (λ (s : StackSample). s.pc) t.samples) (note_of m w h).sample (noted_samples m (turn_of m w h) turns)

pub samples_counted : (m : Machine) (w : World) (turns : List ℕ) → counted_samples m.sizes (world_after m w turns).log ≡ counted_samples m.sizes w.log ++ map (λ (s : StackSample). s.pc) (samples_after m w turns)
samples_counted m w turns = search (samples_noted, pcs_from)
