use Rattle.std.proofs.Common.{refl, ap, ◌∙◌}
use Rattle.std.proofs.lemmas.Result.{err_from_is_err_and}
use Rattle.profile_sum.specs.Sum.{sum_of}
use Rattle.profile_sum.proofs.addition.add_all.Goals as goal

pub returns-in_err-add_parts-clause-unchanged : goal.returns-in_err-add_parts-clause-unchanged
returns-in_err-add_parts-clause-unchanged c =
    let p = err_from_is_err_and c.from_residual-in_err-add_parts.result c.from_residual-in_err-add_parts.ensures.1 in
    rw p.1 refl

pub returns-clause-added : goal.returns-clause-added
returns-clause-added c = c.in_ok-add_parts.ensures.added ∙ ap (λ total. sum_of total c.args.more.now) c.in_ok-sum.ensures
