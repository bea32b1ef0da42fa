-- One more turn, in the shadows and samples that are kept.
use Rattle.std.proofs.Common.{◌≡◌, ◌∙◌, ◌+◌, ◌-◌, ◌<◌, ◌≤◌, ◌++◌, ℕ, zero, suc, Bool, true, List, [], ◌∷◌, length, append-nil, map, arith, get_or, set, refl, sym, Option, Some, None, nat_lt, if◌then◌else◌, not, ◌&&◌}
use Rattle.std.specs.List.{cons_option}
use Rattle.std.specs.Option.{option_map}
use Rattle.std.proofs.lemmas.List.{get_or_default, set-get_or}
use Rattle.std.proofs.lemmas.List.Elements.{filter_map-append}
use Rattle.elf32_syms.specs.declared.image.Symbol.{Symbol}
use Rattle.elf32_syms.specs.Owners.{owner_of}
use Rattle.rv_step.specs.Step.{next_of}
use Rattle.prof_machine.specs.Notes.{look_note}
use Rattle.prof_machine.specs.declared.notes.Ran.{Ran}
use Rattle.prof_machine.specs.declared.notes.TurnNote.{TurnNote}
use Rattle.folded.specs.Folding.{Follows, HasRoom}
use Rattle.folded.specs.Shadow.{Shadow, after_hook, after_instruction, after_ran, empty_shadow, frames_before, is_call, is_return, keeps_shadow, with_call, with_return}
use Rattle.folded.specs.Nodes.{IsTreeOf}
use Rattle.folded.specs.Stacks.{caller_in, stack_at, stack_of, stacks_of}
use Rattle.folded.specs.Trail.{StackSample, Trail, trail_with, stack_samples, shadow_of}
use Rattle.folded.specs.declared.tracker.Tracker.{Tracker}

pub shadow_read : (shadows : List Shadow) (h : ℕ) (s : Shadow) → h < length shadows → s ≡ get_or shadows h s → shadow_of shadows h ≡ s
shadow_read shadows h s inside is = get_or_default shadows h empty_shadow s inside ∙ sym is

pub followed_follows : (symbols : List Symbol) (h : ℕ) (note : TurnNote) (t : Trail) (s : Shadow) (v : Tracker) → after_ran note.ran (shadow_of t.shadows h) ≡ s → v.shadows.items ≡ set t.shadows h (after_hook note.returned s)
    → IsTreeOf (stacks_of symbols (t.samples ++ stack_samples note.sample s.frames)) v.tree → Follows symbols (trail_with h note t) v
unfolding trail_with
followed_follows symbols h note t s v was shadows samples = grind arith

-- ---- an instruction that is neither a call nor a return

pub still_ran : (ran : Option Ran) (s : Shadow) → keeps_shadow ran ≡ true → after_ran ran s ≡ s
unfolding after_instruction
still_ran None s is = refl
still_ran (Some r) s is = by_case (is_call r.instr) (is_return r.instr) is
  where
    by_case : (b c : Bool) → (not b && not c) ≡ true → (if b then with_call (next_of r.pc) s else (if c then with_return r.next s else s)) ≡ s
    by_case b c is = grind arith

-- ---- a turn that tells nothing

pub nothing_followed : (h : ℕ) (t : Trail) → trail_with h (look_note None) t ≡ t
unfolding trail_with
nothing_followed h t = search (set-get_or, append-nil)

-- ---- calls without room

call_room : (to : ℕ) (s : Shadow) → (with_call to s).over ≤ s.over + 1
unfolding with_call
call_room to s = by_case (nat_lt (length s.frames) 128)
  where
    by_case : (b : Bool) → (if b then record s { frames = s.frames ++ to ∷ [] } else record s { over = s.over + 1 }).over ≤ s.over + 1
    by_case b = grind arith

return_room : (to : ℕ) (s : Shadow) → (with_return to s).over ≤ s.over
unfolding with_return
return_room to s = by_case (nat_lt 0 s.over)
  where
    by_case : (b : Bool) → (if b then record s { over = s.over - 1 } else record s { frames = frames_before to s.frames }).over ≤ s.over
    by_case b = grind arith

instruction_room : (r : Ran) (s : Shadow) → (after_instruction r s).over ≤ s.over + 1
unfolding after_instruction
instruction_room r s = by_case (is_call r.instr) (is_return r.instr)
  where
    by_case : (b c : Bool) → (if b then with_call (next_of r.pc) s else (if c then with_return r.next s else s)).over ≤ s.over + 1
    by_case b c = grind (arith, call_room, return_room)

pub ran_room : (ran : Option Ran) (s : Shadow) → (after_ran ran s).over ≤ s.over + 1
ran_room ran s = grind (arith, instruction_room)

pub hook_room : (to : Option ℕ) (s : Shadow) → (after_hook to s).over ≤ s.over
hook_room to s = grind (arith, return_room)

pub room_set : (n : ℕ) (xs : List Shadow) (h : ℕ) (y : Shadow) → HasRoom n xs → y.over ≤ n + 1 → HasRoom (n + 1) (set xs h y)
room_set n [] h y room le = λ k d inside. absurd (omega (arith, inside))
room_set n (x ∷ xs) zero y room le = λ k d inside. by_place k d inside
  where
    by_place : (k : ℕ) (d : Shadow) → k < length (y ∷ xs) → (get_or (y ∷ xs) k d).over ≤ n + 1
    by_place zero d inside = le
    by_place (suc k) d inside = omega (arith, room (suc k) d inside)
room_set n (x ∷ xs) (suc h) y room le = by_place (room_set n xs h y (λ j e within. room (suc j) e (omega (arith, within))) le)
  where
    by_place : HasRoom (n + 1) (set xs h y) → (k : ℕ) (d : Shadow) → k < length (x ∷ set xs h y) → (get_or (x ∷ set xs h y) k d).over ≤ n + 1
    by_place later k d inside = grind arith

-- ---- one more sample

pub stacks-more : (symbols : List Symbol) (samples : List StackSample) (s : StackSample) → stacks_of symbols (samples ++ s ∷ []) ≡ stacks_of symbols samples ++ cons_option (stack_of symbols s) []
stacks-more symbols samples s = filter_map-append (stack_of symbols) samples (s ∷ [])

pub stacks-none : (symbols : List Symbol) (samples : List StackSample) (frames : List ℕ) (pc : ℕ) → owner_of symbols pc ≡ None → stacks_of symbols (samples ++ stack_samples (Some pc) frames) ≡ stacks_of symbols samples
stacks-none symbols samples frames pc is = grind (arith, stacks-more, append-nil)

pub stacks-some : (symbols : List Symbol) (samples : List StackSample) (frames : List ℕ) (pc f : ℕ) → owner_of symbols pc ≡ Some f → stacks_of symbols (samples ++ stack_samples (Some pc) frames) ≡ stacks_of symbols samples ++ stack_at symbols frames f ∷ []
stacks-some symbols samples frames pc f is = grind (arith, stacks-more)

-- ---- a stack

stack_ends_by : (symbols : List Symbol) (frames : List ℕ) (o : Option ℕ) (stack : List (Option ℕ)) → option_map (stack_at symbols frames) o ≡ Some stack → (f : ℕ) × (o ≡ Some f) × (stack ≡ map (caller_in symbols) frames ++ Some f ∷ [])
stack_ends_by symbols frames o stack is = grind arith

pub stack_ends : (symbols : List Symbol) (s : StackSample) (stack : List (Option ℕ)) → stack_of symbols s ≡ Some stack → (f : ℕ) × (owner_of symbols s.pc ≡ Some f) × (stack ≡ map (caller_in symbols) s.frames ++ Some f ∷ [])
stack_ends symbols s stack is = stack_ends_by symbols s.frames (owner_of symbols s.pc) stack is
