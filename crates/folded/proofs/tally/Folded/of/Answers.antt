use Rattle.folded.proofs.TallyLemmas.{folds_of}
use Rattle.folded.proofs.tally.Folded.of.Goals as goal

pub returns-clause-folds : goal.returns-clause-folds
returns-clause-folds c = λ stacks have.
    folds_of _ c.in_ok-order.order.items c.in_ok-marks.marks.items stacks c.in_ok-order.ensures have c.in_ok-marks.ensures.functions (rw c.as_slice.ensures.value at c.in_ok-marks.ensures.counts)
