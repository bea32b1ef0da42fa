use Rattle.std.proofs.Common.{get_or, sym}
use Rattle.std.proofs.lemmas.List.{get_or_default}
use Rattle.std.proofs.lemmas.Result.{err_from_is_err_and}
use Rattle.host_port.specs.declared.side.Side.TheVariants.{Output}
use Rattle.host_port.proofs.BufferLemmas.{adds_all, adds_more, adds_nothing, adds_stop}
use Rattle.folded.proofs.PathLemmas.{path_first}
use Rattle.folded.proofs.PrefixLemmas.{lines_whole, node_line}
use Rattle.folded.proofs.writer.put_lines.Goals as goal

pub loop-node-init : goal.loop-node-init
loop-node-init g c = search (path_first, adds_nothing, c.new-prefix.result.path, c.new-prefix.ensures.path, c.new-prefix.ensures.prefix)

pub returns-in_err-put_line : goal.returns-in_err-put_line
returns-in_err-put_line g c =
    let p = err_from_is_err_and c.from_residual.result c.from_residual.ensures.1 in
    let symbols = c.args.symbols.now in
    let t = c.nodes.result.0.now in
    let order = c.nodes.result.1.now in
    let k = c.loop-node.node-index in
    let n = get_or order k 0 in
    let line = rw (c.go_to.ensures.stack, c.samples.ensures) at c.in_err-put_line.ensures in
    rw (p.1, ← lines_whole symbols t order c.args.folded.now.lines c.nodes.ensures.lines) (adds_stop Output (node_line symbols t) order k n _ _ _ _ _ _ tt _ c.loop-node-test.true (sym (get_or_default order k n 0 c.loop-node-test.true)) c.loop-node.invariant.lines line)

pub loop-node-preserved : goal.loop-node-preserved
loop-node-preserved g c =
    let symbols = c.args.symbols.now in
    let t = c.nodes.result.0.now in
    let order = c.nodes.result.1.now in
    let k = c.loop-node.node-index in
    let n = get_or order k 0 in
    let line = rw (c.go_to.ensures.stack, c.samples.ensures) at c.in_ok-put_line.ensures in
    record {
      path = c.go_to.ensures.path;
      prefix = c.go_to.ensures.prefix;
      lines = adds_more Output (node_line symbols t) order k n _ _ _ _ _ _ tt _ c.loop-node-test.true (sym (get_or_default order k n 0 c.loop-node-test.true)) c.loop-node.invariant.lines line;
    }

pub returns : goal.returns
returns g c =
    let symbols = c.args.symbols.now in
    let t = c.nodes.result.0.now in
    let order = c.nodes.result.1.now in
    rw (← lines_whole symbols t order c.args.folded.now.lines c.nodes.ensures.lines) (adds_all Output (node_line symbols t) order c.loop-node.node-index _ _ _ _ _ c.loop-node-test.false c.loop-node.invariant.lines)
