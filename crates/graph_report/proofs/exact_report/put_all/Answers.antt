use Rattle.std.specs.Prelude.{codes}
use Rattle.std.proofs.lemmas.Result.{err_from_is_err_and}
use Rattle.host_port.specs.declared.side.Side.TheVariants.{Output}
use Rattle.host_port.proofs.BufferLemmas.{adds_then, adds_front}
use Rattle.std.proofs.Common.{◌++◌}
use Rattle.graph_report.specs.ExactText.{exact_text, components_text, total_line}
use Rattle.graph_report.proofs.exact_report.put_all.Goals as goal

pub returns-in_err-put : goal.returns-in_err-put
unfolding exact_text
returns-in_err-put g c =
    let p = err_from_is_err_and c.from_residual.result c.from_residual.ensures.1 in
    let all = components_text c.args.symbols.now c.args.graph.now c.args.exact.now in
    rw p.1 (adds_front Output (codes "exact flow\n" ++ all) (total_line c.args.attributed) _ _ _ _ _ (adds_front Output (codes "exact flow\n") all _ _ _ _ _ c.in_err-put.ensures.adds))

pub returns-in_err-put_components : goal.returns-in_err-put_components
unfolding exact_text
returns-in_err-put_components g c =
    let p = err_from_is_err_and c.from_residual-in_err-put_components.result c.from_residual-in_err-put_components.ensures.1 in
    let all = components_text c.args.symbols.now c.args.graph.now c.args.exact.now in
    rw p.1 (adds_front Output (codes "exact flow\n" ++ all) (total_line c.args.attributed) _ _ _ _ _ (adds_then Output (codes "exact flow\n") all _ _ _ _ _ _ _ _ c.in_ok-put.ensures.adds c.in_err-put_components.ensures))

pub returns : goal.returns
unfolding exact_text
returns g c =
    let all = components_text c.args.symbols.now c.args.graph.now c.args.exact.now in
    let line = rw (c.bytes.ensures.bytes, c.total.ensures) at c.put-2.ensures.adds in
    adds_then Output (codes "exact flow\n" ++ all) (total_line c.args.attributed) _ _ _ _ _ _ _ _ (adds_then Output (codes "exact flow\n") all _ _ _ _ _ _ _ _ c.in_ok-put.ensures.adds c.in_ok-put_components.ensures) line
