use Rattle.std.proofs.Common.{◌++◌}
use Rattle.std.specs.Prelude.{codes}
use Rattle.std.specs.List.{flat_map}
use Rattle.std.proofs.lemmas.Result.{err_from_is_err_and}
use Rattle.host_port.specs.declared.side.Side.TheVariants.{Output}
use Rattle.host_port.proofs.BufferLemmas.{adds_then, adds_front}
use Rattle.annotate.specs.Cells.{cells_of}
use Rattle.annotate.specs.Listing.{cell_line, symbol_listing}
use Rattle.annotate.proofs.report.put_symbol.Goals as goal

pub returns-in_err-put : goal.returns-in_err-put
unfolding symbol_listing
returns-in_err-put g c =
    let p = err_from_is_err_and c.from_residual.result c.from_residual.ensures.1 in
    let s = c.args.symbol.now in
    let cells = flat_map (cell_line c.args.segments.now c.args.bytes.now c.args.profile.now) (cells_of s) in
    let name = rw c.as_slice.ensures at c.in_err-put.ensures.adds in
    rw p.1 (adds_front Output (s.name ++ codes ":\n") cells _ _ _ _ _ (adds_front Output s.name (codes ":\n") _ _ _ _ _ name))

pub returns-in_err-put-2 : goal.returns-in_err-put-2
unfolding symbol_listing
returns-in_err-put-2 g c =
    let p = err_from_is_err_and c.from_residual-in_err-put-2.result c.from_residual-in_err-put-2.ensures.1 in
    let s = c.args.symbol.now in
    let cells = flat_map (cell_line c.args.segments.now c.args.bytes.now c.args.profile.now) (cells_of s) in
    let name = rw c.as_slice.ensures at c.in_ok-put.ensures.adds in
    rw p.1 (adds_front Output (s.name ++ codes ":\n") cells _ _ _ _ _ (adds_then Output s.name (codes ":\n") _ _ _ _ _ _ _ _ name c.in_err-put-2.ensures.adds))

pub returns : goal.returns
unfolding symbol_listing
returns g c =
    let s = c.args.symbol.now in
    let name = rw c.as_slice.ensures at c.in_ok-put.ensures.adds in
    adds_then Output (s.name ++ codes ":\n") _ _ _ _ _ _ _ _ _ (adds_then Output s.name (codes ":\n") _ _ _ _ _ _ _ _ name c.in_ok-put-2.ensures.adds) c.put_cells.ensures
