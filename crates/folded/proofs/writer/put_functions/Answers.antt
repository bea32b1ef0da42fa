use Rattle.std.proofs.lemmas.Result.{err_from_is_err_and}
use Rattle.host_port.specs.declared.side.Side.TheVariants.{Output}
use Rattle.std.proofs.Common.{◌≡◌, ◌<◌, ◌≤◌, arith, get_or, length}
use Rattle.std.specs.List.{range_with_len}
use Rattle.std.proofs.lemmas.List.FromFn.{length-range_with_len, get_or-range_with_len}
use Rattle.host_port.proofs.BufferLemmas.{adds_all, adds_more, adds_stop}
use Rattle.folded.specs.Text.{function_line}
use Rattle.folded.proofs.writer.put_functions.Goals as goal

pub returns-in_err-put_function : goal.returns-in_err-put_function
returns-in_err-put_function g c =
    let p = err_from_is_err_and c.from_residual.result c.from_residual.ensures.1 in
    let n = length c.args.folded.now.inclusive in
    let k = c.loop-f.f in
    let f = function_line c.args.symbols.now c.args.folded.now.inclusive in
    let below : k < n = omega (arith, c.loop-f-test.true, c.function_count-f-end.ensures) in
    let inside : k < length (range_with_len 0 n) = omega (arith, below, length-range_with_len 0 n) in
    let item : k ≡ get_or (range_with_len 0 n) k k = omega (arith, get_or-range_with_len 0 n k k below) in
    let line = rw c.inclusive.ensures at c.in_err-put_function.ensures in
    rw p.1 (adds_stop Output f (range_with_len 0 n) k k _ _ _ _ _ _ tt _ inside item c.loop-f.invariant line)

pub loop-f-preserved : goal.loop-f-preserved
loop-f-preserved g c =
    let n = length c.args.folded.now.inclusive in
    let k = c.loop-f.f in
    let f = function_line c.args.symbols.now c.args.folded.now.inclusive in
    let below : k < n = omega (arith, c.loop-f-test.true, c.function_count-f-end.ensures) in
    let inside : k < length (range_with_len 0 n) = omega (arith, below, length-range_with_len 0 n) in
    let item : k ≡ get_or (range_with_len 0 n) k k = omega (arith, get_or-range_with_len 0 n k k below) in
    let line = rw c.inclusive.ensures at c.in_ok-put_function.ensures in
    adds_more Output f (range_with_len 0 n) k k _ _ _ _ _ _ tt _ inside item c.loop-f.invariant line

pub returns : goal.returns
returns g c =
    let n = length c.args.folded.now.inclusive in
    let all : length (range_with_len 0 n) ≤ c.loop-f.f = omega (arith, c.loop-f-test.false, c.function_count-f-end.ensures, length-range_with_len 0 n) in
    adds_all Output (function_line c.args.symbols.now c.args.folded.now.inclusive) (range_with_len 0 n) c.loop-f.f _ _ _ _ _ all c.loop-f.invariant
