-- When a run starts, and with what.
use Rattle.std.proofs.Common.{◌%◌, ◌+◌, ◌<◌, All, Bool, List, None, Option, Some, [], ap, arith, false, get_or, length, map, refl, replicate, subst, suc, sym, true, zero, ℕ, ◌∙◌, ◌∷◌, ◌≡◌, ◌≤◌, if◌then◌else◌}
use Rattle.std.specs.Prelude.{IfSome, option_map}
use Rattle.std.specs.List.{range_with_len}
use Rattle.elf32_syms.specs.Sections.{least_of}
use Rattle.elf32_syms.specs.declared.image.Image.{Image}
use Rattle.elf32_syms.specs.declared.image.Segment.{Segment}
use Rattle.settings.specs.Setup.{IsSetup}
use Rattle.settings.specs.declared.setup.Setup.{Setup}
use Rattle.mcount_arcs.proofs.CallLemmas.{pending_call-idle}
use Rattle.mcount_arcs.proofs.EmptyLogLemmas.{kept_calls-nil}
use Rattle.mcount_arcs.specs.Samples.{counted_samples}
use Rattle.mcount_arcs.specs.Sizes.{AreSizes}
use Rattle.mcount_arcs.specs.Value.{StandsFor as RuntimeStandsFor}
use Rattle.rv_step.specs.Loading.{CanLoad, with_segments}
use Rattle.rv_step.specs.Memory.{Memory}
use Rattle.prof_machine.proofs.ClockLemmas.{first}
use Rattle.prof_machine.proofs.ExecutionLemmas.{exec_counts_of-nil, first_counts}
use Rattle.prof_machine.proofs.WalkLemmas.{no_walk}
use Rattle.prof_machine.specs.Executions.{instructions_of}
use Rattle.prof_machine.specs.Start.{HasRoom, IsLayout, base_of, first_registers, is_outside_of, is_too_small_of, machine_of, program_end_in, program_end_of, memory_size, start_of, start_refusal}
use Rattle.prof_machine.specs.Value.{AreCounts, IsHeld, RunValue, StandsFor, calls_met, flights, value_of}
use Rattle.prof_machine.specs.declared.summary.StartRefusal.{StartRefusal}
use Rattle.prof_machine.specs.declared.summary.StartRefusal.TheVariants.{EntryOutside, ProgramTooLarge}
use Rattle.prof_machine.specs.declared.flight.Flight.{Flight}
use Rattle.prof_machine.specs.declared.layout.Layout.{Layout}
use Rattle.prof_machine.specs.declared.runs.Run.TheInside.{Inside}

abbrev judge : Bool → Bool → ℕ → ℕ → ℕ → Option StartRefusal
judge small outside need end entry = if small then Some (ProgramTooLarge need end) else (if outside then Some (EntryOutside entry) else None)

judged : (image : Image) (setup : Setup) (l : Layout) → IsLayout image setup l → start_refusal image setup ≡ judge (is_too_small_of l) (is_outside_of l image.entry) (l.program_end + 2097152) l.end image.entry
unfolding start_refusal
judged image setup l h = rw (h.end, h.base, h.program_end) refl

pub too_small : (image : Image) (setup : Setup) (l : Layout) (small : Bool) (need : ℕ) → IsLayout image setup l → small ≡ is_too_small_of l → small ≡ true → need ≡ l.program_end + 2097152 → start_refusal image setup ≡ Some (ProgramTooLarge need l.end)
too_small image setup l small need h is yes_it n =
    judged image setup l h ∙ ap (λ (b : Bool). judge b (is_outside_of l image.entry) (l.program_end + 2097152) l.end image.entry) (sym is ∙ yes_it) ∙ ap (λ (k : ℕ). Some (ProgramTooLarge k l.end)) (sym n)

pub outside : (image : Image) (setup : Setup) (l : Layout) (small out : Bool) → IsLayout image setup l → small ≡ is_too_small_of l → small ≡ false → out ≡ is_outside_of l image.entry → out ≡ true → start_refusal image setup ≡ Some (EntryOutside image.entry)
outside image setup l small out h is not_it is_out yes_it =
    judged image setup l h ∙ ap (λ (b : Bool). judge b (is_outside_of l image.entry) (l.program_end + 2097152) l.end image.entry) (sym is ∙ not_it)
    ∙ ap (λ (b : Bool). judge false b (l.program_end + 2097152) l.end image.entry) (sym is_out ∙ yes_it)

pub accepted : (image : Image) (setup : Setup) (l : Layout) (small out : Bool) → IsLayout image setup l → small ≡ is_too_small_of l → small ≡ false → out ≡ is_outside_of l image.entry → out ≡ false → start_refusal image setup ≡ None
accepted image setup l small out h is not_it is_out not_out =
    judged image setup l h ∙ ap (λ (b : Bool). judge b (is_outside_of l image.entry) (l.program_end + 2097152) l.end image.entry) (sym is ∙ not_it)
    ∙ ap (λ (b : Bool). judge false b (l.program_end + 2097152) l.end image.entry) (sym is_out ∙ not_out)

-- ---- segments lie in memory

lowest_least : (segments : List Segment) (k : ℕ) (d : Segment) → k < length segments → least_of (map (λ (s : Segment). s.addr) segments) ≤ (get_or segments k d).addr
lowest_least [] k d inside = absurd (omega arith)
lowest_least (s ∷ []) zero d inside = omega arith
lowest_least (s ∷ []) (suc k) d inside = absurd (omega arith)
lowest_least (s ∷ t ∷ ss) zero d inside = omega arith
lowest_least (s ∷ t ∷ ss) (suc k) d inside = let rest = lowest_least (t ∷ ss) k d (omega arith) in omega arith

highest_most : (segments : List Segment) (k : ℕ) (d : Segment) → k < length segments → (get_or segments k d).addr + (get_or segments k d).memsz ≤ program_end_in segments
highest_most [] k d inside = absurd (omega arith)
highest_most (s ∷ ss) zero d inside = omega arith
highest_most (s ∷ ss) (suc k) d inside = let rest = highest_most ss k d (omega arith) in omega arith

pub can_load : (image : Image) (setup : Setup) (bytes : List ℕ) (l : Layout) (m : Memory) → IsLayout image setup l → HasRoom l → m.base ≡ l.base → length m.bytes ≡ l.size → l.end ≡ l.base + l.size → All (λ (s : Segment). s.offset + s.filesz ≤ length bytes) image.segments
    → All (CanLoad m bytes) image.segments
unfolding base_of program_end_of
can_load image setup bytes l m h room base size end in_file = grind (arith, lowest_least, highest_most)

pub layout_end : (image : Image) (setup : Setup) (l : Layout) → IsLayout image setup l → l.end ≡ l.base + l.size
layout_end image setup l h = h.end ∙ ap (λ (b : ℕ). b + memory_size setup) (sym h.base) ∙ ap (λ (n : ℕ). l.base + n) (sym h.size)

-- the first world, as the code makes it
pub stands_at_start : (image : Image) (bytes : List ℕ) (setup : Setup) (l : Layout) (empty : Memory) (r : RunValue) → IsLayout image setup l → r.machine ≡ machine_of image setup
    → r.harts ≡ map (first_registers image.entry l.end setup.harts) (range_with_len 0 setup.harts) → r.flight ≡ None → empty.base ≡ l.base → empty.bytes ≡ replicate l.size 0 → r.memory ≡ with_segments image.segments bytes empty → r.break_at ≡ (machine_of image setup).first_break
    → r.retired ≡ 0 → r.samples ≡ 0 → r.lost ≡ 0 → r.counts ≡ (if setup.blocks then replicate (instructions_of r.machine.sizes) 0 else []) → r.ending ≡ None → RuntimeStandsFor [] r.gmon → StandsFor (start_of image bytes setup) r
unfolding start_of counted_samples machine_of
stands_at_start image bytes setup l empty r h machine harts flight base zeros memory break_at retired samples lost counts ending gmon =
    grind (arith, exec_counts_of-nil)

-- ---- what is true of a run at its start

pub held_at_start : (a : Inside) (setup : Setup) → IsSetup setup → AreSizes a.machine.sizes → a.machine.setup ≡ setup → a.gmon.sizes ≡ a.machine.sizes → length a.harts.items ≡ setup.harts → a.flight ≡ None → RuntimeStandsFor [] a.gmon
    → a.retired ≡ 0 → a.due ≡ setup.every → a.samples ≡ 0 → a.lost ≡ 0 → a.counts.items ≡ (if setup.blocks then replicate (instructions_of a.machine.sizes) 0 else []) → a.ending ≡ None → IsHeld a
held_at_start a setup h are same sizes harts flight gmon retired due samples lost counts ending =
    let none : a.gmon.walk ≡ None = no_walk a.gmon.walk (gmon.walk ∙ pending_call-idle a.gmon.sizes [] refl) in
    let calls : a.gmon.calls ≡ 0 = gmon.calls ∙ ap length (kept_calls-nil a.gmon.sizes) in
    let every : a.due ≡ a.machine.setup.every = due ∙ ap (λ (s : Setup). s.every) (sym same) in
    let met : calls_met (value_of a) ≡ 0 = ap (λ (o : Option Flight). a.lost + a.gmon.calls + flights o) flight ∙ omega (arith, lost, calls) in
    let some : 1 ≤ a.machine.setup.every = subst (λ (s : Setup). 1 ≤ s.every) (sym same) h.some_every in
    let budget : 1 ≤ a.machine.setup.budget = subst (λ (s : Setup). 1 ≤ s.budget) (sym same) h.some_budget in
    record {
      setup = subst IsSetup (sym same) h;
      sizes = sizes;
      harts = harts ∙ ap (λ (s : Setup). s.harts) (sym same);
      walk = none ∙ ap (λ (o : Option Flight). option_map (λ (f : Flight). f.walk) o) (sym flight);
      holder = subst (λ (o : Option Flight). IfSome o (λ f. f.hart < a.machine.setup.harts)) (sym flight) tt;
      place = subst (λ (o : Option Flight). IfSome o (λ f. (1 ≤ f.walk.place) × (f.walk.place ≤ 65534))) (sym flight) tt;
      retired = omega (arith, retired);
      due = omega (arith, every);
      clock = ap (λ (n : ℕ). (n + a.due) % a.machine.setup.every) retired ∙ ap (λ (n : ℕ). (0 + n) % a.machine.setup.every) every ∙ first a.machine.setup.every;
      samples = omega (arith, samples);
      calls = omega (arith, met);
      counts = subst (AreCounts a.machine.sizes.low a.retired) (sym counts) (first_counts a.machine.sizes a.retired setup.blocks are);
      going = λ live. ending;
      left = λ live. omega (arith, retired, budget);
      some_due = λ live. omega (arith, every, some);
    }
