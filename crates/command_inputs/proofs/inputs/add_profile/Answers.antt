use Rattle.std.proofs.Common.{◌+◌, ◌-◌, ◌∙◌, sym, ap, subst, arith}
use Rattle.std.proofs.lemmas.Result.{err_from_is_err_and}
use Rattle.gp_base.specs.declared.limits.TheConstants.{MAX_PROFILE_BYTES}
use Rattle.gmon_data.specs.Content.{Content, empty_content}
use Rattle.gmon_data.specs.Sizes.{IsOfBytes}
use Rattle.gmon_data.proofs.SizeLemmas.{within_limits}
use Rattle.profile_sum.specs.Sum.{clash_of, sum_of}
use Rattle.profile_sum.proofs.SizeLemmas.{of_sum}
use Rattle.profile_sum.proofs.ClashLemmas.{no_clash}
use Rattle.command_inputs.proofs.Summing.{first_sum, read_weaker, may_stop_summed, not_summed, summed, summed_up}
use Rattle.command_inputs.proofs.inputs.add_profile.Goals as goal

pub add_into-requires : goal.add_into-requires
add_into-requires g c =
    let more = c.in_ok-more.more in
    let len = c.in_ok-more.len in
    rw c.replace-before.ensures.value (record {
      within = λ none. within_limits (MAX_PROFILE_BYTES - c.args.left + len) _ (of_sum (MAX_PROFILE_BYTES - c.args.left) len c.args.total.now more c.requires.size c.in_ok-more.ensures.size)
          (omega (arith, c.in_ok-more.ensures.within, c.requires.limit));
    })

pub returns-in_err-more-clause-adds : goal.returns-in_err-more-clause-adds
returns-in_err-more-clause-adds g c = λ start below more next may later s.
    let p = err_from_is_err_and c.from_residual.result c.from_residual.ensures.1 in
    rw (p.1, p.2) (c.in_err-more.ensures.reads start below (summed_up c.args.word c.args.left c.args.total.now more next) (may_stop_summed c.args.word c.args.left c.args.total.now more next may) later s)

pub returns-then-is_empty-clause-adds : goal.returns-then-is_empty-clause-adds
returns-then-is_empty-clause-adds g c = λ start below more next may later s.
    let words = c.args.words.now in
    let word = c.args.word in
    let total = c.args.total.now in
    let profile = c.in_ok-more.more in
    let stands = c.in_ok-more.ensures.reads start below (summed_up word c.args.left total more next) (may_stop_summed word c.args.left total more next may) later s in
    let empty = c.is_empty.ensures c.if-is_empty.true in
    let records = c.in_ok-more.ensures.records in
    let none = ap (λ (p : Content). clash_of p profile) empty ∙ no_clash profile in
    let sum = records.1 ∙ sym (first_sum records.0) ∙ ap (sum_of empty_content) (sym records.1) ∙ ap (λ (p : Content). sum_of p profile) (sym empty) in
    summed words start _ (word + 1) word c.args.left total more next c.in_ok-more.len profile may stands profile none sum

pub returns-in-Ok-clause-adds : goal.returns-in-Ok-clause-adds
returns-in-Ok-clause-adds g c = λ start below more next may later s.
    let words = c.args.words.now in
    let word = c.args.word in
    let total = c.args.total.now in
    let stands = c.in_ok-more.ensures.reads start below (summed_up word c.args.left total more next) (may_stop_summed word c.args.left total more next may) later s in
    let accepted = rw c.replace-before.ensures.value at c.in-Ok.ensures.accepted in
    let sum = rw c.replace-before.ensures.value at c.in-Ok.ensures.added in
    summed words start _ (word + 1) word c.args.left total more next c.in_ok-more.len c.in_ok-more.more may stands c.in-Ok.sum accepted sum

pub returns-in-Ok-clause-size : goal.returns-in-Ok-clause-size
returns-in-Ok-clause-size g c =
    let len = c.in_ok-more.len in
    let sum = rw c.replace-before.ensures.value at c.in-Ok.ensures.added in
    subst (λ (p : Content). IsOfBytes (MAX_PROFILE_BYTES - c.args.left + len) p) (sym sum)
    (of_sum (MAX_PROFILE_BYTES - c.args.left) len c.args.total.now c.in_ok-more.more c.requires.size c.in_ok-more.ensures.size)

pub returns-clause-adds : goal.returns-clause-adds
returns-clause-adds g c = λ start below more next may later s.
    let words = c.args.words.now in
    let word = c.args.word in
    let total = c.args.total.now in
    let stands = c.in_ok-more.ensures.reads start below (summed_up word c.args.left total more next) (may_stop_summed word c.args.left total more next may) later s in
    let clash = rw c.replace-before.ensures.value at c.in-Err.ensures.refusal in
    rw c.sum_fault.ensures (not_summed words start _ (word + 1) word c.args.left total more next c.in_ok-more.len c.in_ok-more.more may stands c.in-Err.refusal clash)

pub returns-then-is_empty-clause-told : goal.returns-then-is_empty-clause-told
returns-then-is_empty-clause-told g c = grind (arith, first_sum)

pub returns-in-Ok-clause-told : goal.returns-in-Ok-clause-told
returns-in-Ok-clause-told g c = grind (arith, read_weaker)
