use Rattle.std.proofs.Common.{rules, sym, subst}
use Rattle.mcount_arcs.specs.Sizes.{AreSizes}
use Rattle.mcount_arcs.proofs.SizeLemmas.{AreSizes-of}
use Rattle.mcount_arcs.proofs.sizes.Sizes.of.Goals as goal

pub returns-clause-value : goal.returns-clause-value
returns-clause-value c = search rules

pub returns-clause-within : goal.returns-clause-within
returns-clause-within c =
    subst AreSizes (sym (returns-clause-value c)) (AreSizes-of c.args.text c.args.hist c.args.hash c.requires.text c.requires.hist c.requires.hash)
