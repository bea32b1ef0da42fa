use Rattle.annotate.proofs.CellLemmas.{symbol-cells, listing-cells}
use Rattle.annotate.proofs.laws.cells_add_up.Goals as goal

pub returns-clause-symbol : goal.returns-clause-symbol
returns-clause-symbol c = symbol-cells

pub returns-clause-listing : goal.returns-clause-listing
returns-clause-listing c = listing-cells
