use Rattle.std.specs.Prelude.{codes}
use Rattle.std.proofs.lemmas.Result.{err_from_is_err_and}
use Rattle.host_port.specs.declared.side.Side.TheVariants.{Output}
use Rattle.host_port.proofs.BufferLemmas.{adds_then, adds_front}
use Rattle.annotate.specs.Listing.{annotated_text}
use Rattle.annotate.proofs.report.put_listing.Goals as goal

pub returns-in_err-put : goal.returns-in_err-put
unfolding annotated_text
returns-in_err-put g c =
    let p = err_from_is_err_and c.from_residual.result c.from_residual.ensures.1 in
    rw p.1 (adds_front Output (codes "annotated listing\n") _ _ _ _ _ _ c.in_err-put.ensures.adds)

pub returns : goal.returns
unfolding annotated_text
returns g c =
    let symbols = rw (c.as_slice-segments.ensures, c.as_slice-symbols.ensures) at c.put_symbols.ensures in
    adds_then Output (codes "annotated listing\n") _ _ _ _ _ _ _ _ _ c.in_ok-put.ensures.adds symbols
