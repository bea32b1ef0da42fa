use Rattle.std.proofs.lemmas.Result.{err_from_is_err_and}
use Rattle.host_port.specs.declared.side.Side.TheVariants.{Output}
use Rattle.std.proofs.Common.{[], ap, Some, Bool, ◌++◌, if◌then◌else◌}
use Rattle.std.proofs.lemmas.Bool.{eq-eqb, ne_eqb}
use Rattle.host_port.proofs.BufferLemmas.{adds_front, adds_nothing, adds_then}
use Rattle.folded.specs.Text.{count_text, inclusive_line, name_in}
use Rattle.folded.proofs.writer.put_function.Goals as goal

pub returns-then-count-eq0 : goal.returns-then-count-eq0
unfolding inclusive_line
returns-then-count-eq0 g c = search (eq-eqb, adds_nothing)

pub returns-in_err-put_name : goal.returns-in_err-put_name
unfolding inclusive_line
returns-in_err-put_name g c =
    let p = err_from_is_err_and c.from_residual.result c.from_residual.ensures.1 in
    let name = name_in c.args.symbols.now (Some c.args.f) in
    let some = ap (λ (b : Bool). if b then [] else name ++ count_text c.args.count) (ne_eqb c.args.count 0 c.if-count-eq0.false) in
    rw (p.1, some) (adds_front Output name (count_text c.args.count) _ _ _ _ _ c.in_err-put_name.ensures)

pub returns : goal.returns
unfolding inclusive_line
returns g c = search (ne_eqb, adds_then, c.if-count-eq0.false, c.in_ok-put_name.ensures, c.put_count.ensures)
