use Rattle.std.proofs.Common.{◌∙◌}
use Rattle.fraction128.proofs.OrderLemmas.{same_values}
use Rattle.fraction128.proofs.fracs.FracPartialEq.eq.Goals as goal

pub returns : goal.returns
returns c =
    let a = c.args.self.now in
    let b = c.args.other.now in
    c.have_same_numbers.ensures ∙ same_values a.num a.den b.num b.den a.some b.some a.lowest b.lowest
