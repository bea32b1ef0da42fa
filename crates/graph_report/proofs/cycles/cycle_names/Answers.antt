use Rattle.std.proofs.Common.{◌≡◌, ℕ, true, slice_index, sym, ap, ◌∙◌, arith}
use Rattle.std.specs.Global.{Vec}
use Rattle.std.proofs.lemmas.Bool.{false≢true}
use Rattle.call_cycles.specs.Graph.{is_cycle}
use Rattle.graph_report.specs.Cycles.{cycle_name}
use Rattle.graph_report.proofs.CycleLemmas.{name_added, name_is}
use Rattle.graph_report.proofs.cycles.cycle_names.Goals as goal
use Rattle.graph_report.proofs.cycles.cycle_names.Goals.{then-is_cycle+in_ok-name, else-is_cycle}

pub loop-c-preserved : goal.loop-c-preserved
loop-c-preserved c =
    let g = c.args.graph.now in
    let k = c.loop-c.c in
    let name : is_cycle g k ≡ true → c.if-is_cycle.name.items ≡ cycle_name g k = λ cycle.
    elim c.if-is_cycle.branch [
      | then-is_cycle+in_ok-name w ↦
          let low = c.loop-c-test.true in
          ap (λ (v : Vec ℕ). v.items) w.name-is ∙ name_is g k (slice_index c.args.numbers.now k) _ (c.requires.numbers k (omega arith) cycle) w.in_ok-name.ensures
      | else-is_cycle w ↦ absurd (false≢true (sym w.if-is_cycle.false ∙ c.is_cycle.ensures ∙ cycle))
    ] in
    rw c.in_ok-push.ensures.items (name_added g k c.loop-c.names.items c.if-is_cycle.name c.loop-c.invariant name)
