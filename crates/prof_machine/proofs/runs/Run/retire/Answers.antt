use Rattle.std.proofs.Common.{◌≡◌, ◌+◌, ◌-◌, ◌<◌, ◌≤◌, ◌%◌, ℕ, true, false, arith, ap, sym, subst, ◌∙◌}
use Rattle.std.proofs.lemmas.List.{with_items_is}
use Rattle.prof_machine.proofs.ExecutionLemmas.{more_counts}
use Rattle.prof_machine.specs.Executions.{with_execution}
use Rattle.prof_machine.specs.Value.{AreCounts, RunValue}
use Rattle.prof_machine.proofs.runs.Run.retire.Goals as goal

pub invariant_of-self : goal.invariant_of-self
invariant_of-self c =
    let a = c.self.inside in
    let held = c.self.invariant in
    let dead : a.live ≡ false = ap (λ (v : RunValue). v.live) c.self.view_is ∙ c.requires.dead in
    let left : a.retired < a.machine.setup.budget = subst (λ (v : RunValue). v.retired < v.machine.setup.budget) (sym c.self.view_is) c.requires.left in
    let due : 1 ≤ a.due = subst (λ (v : RunValue). 1 ≤ v.due) (sym c.self.view_is) c.requires.due in
    let same : a.retired + 1 + (a.due - 1) ≡ a.retired + a.due = omega arith in
    record {
      setup = held.setup;
      sizes = held.sizes;
      harts = held.harts;
      walk = held.walk;
      holder = held.holder;
      place = held.place;
      retired = omega arith;
      due = omega (arith, held.due);
      clock = ap (λ (n : ℕ). n % a.machine.setup.every) same ∙ held.clock;
      samples = omega (arith, held.samples);
      calls = omega (arith, held.calls);
      counts = subst (AreCounts a.machine.sizes.low (a.retired + 1)) (sym (with_items_is a.counts c.count_execution.new.counts (omega (arith, c.count_execution.auto.counts, c.deref_mut.ensures.len)) ∙ c.count_execution.ensures ∙ ap (with_execution a.machine.sizes.low c.args.pc) c.deref_mut.ensures.value)) (more_counts a.machine.sizes.low c.args.pc a.retired a.counts.items held.counts);
      going = λ live. let e : true ≡ false = sym live ∙ dead in cc;
      left = λ live. let e : true ≡ false = sym live ∙ dead in cc;
      some_due = λ live. let e : true ≡ false = sym live ∙ dead in cc;
    }
