use Rattle.std.proofs.Common.{◌≡◌, ℕ, ◌+◌, suc, List, ◌++◌, length, ap, subst, ◌∙◌, arith}
use Rattle.call_cycles.specs.Sums.{list_of}
use Rattle.graph_report.specs.Entries.{number_in, graph_order}
use Rattle.flat_report.specs.Sources.{name_of}
use Rattle.graph_report.specs.Inputs.{sources_in}
use Rattle.graph_report.specs.Labels.{label_of}
use Rattle.graph_report.specs.Lists.{lists_below, start_of}
use Rattle.graph_report.proofs.ListLemmas.{list_added, start_added}
use Rattle.graph_report.proofs.TextLemmas.{name_whole}
use Rattle.graph_report.proofs.labels.function_labels.Goals as goal

pub loop-f-preserved : goal.loop-f-preserved
loop-f-preserved c =
    let s = sources_in c.args.inputs.now in
    let number = number_in (graph_order s) in
    let of = label_of s number in
    let f = c.loop-f.f in
    let text = c.loop-f.text in
    let so = c.loop-f.invariant.text in
    let tail = c.bytes.ensures.bytes ∙ c.function_tail.ensures in
    let whole = ap (λ (t : List ℕ). t ++ c.bytes.result.now) c.name.ensures ∙ ap (λ (t : List ℕ). name_of s f ++ t) tail ∙ name_whole s number f in
    grind (arith, name_whole, list_added, start_added)

pub returns : goal.returns
returns c =
    let s = sources_in c.args.inputs.now in
    let of = label_of s (number_in (graph_order s)) in
    let n = s.graph.functions in
    let text = c.loop-f.text in
    let at : c.loop-f.f ≡ n = omega (arith, c.function_count-f-end.ensures.value) in
    let on : c.loop-f.f + 1 ≡ suc n = omega (arith, at) in
    let so = c.loop-f.invariant.text in
    let len : c.len-2.result ≡ length text.items = omega (arith, c.len-2.ensures, text.ok.0) in
    record {
      whole = so ∙ ap (lists_below of) at;
      each = c.in_ok-push-2.ensures.items ∙ start_added of c.loop-f.f c.len-2.result text.items c.loop-f.starts.items so c.loop-f.invariant.starts len ∙ ap (λ (m : ℕ). list_of m (start_of of)) on;
    }
