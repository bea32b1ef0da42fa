use Rattle.std.proofs.Common.{◌≡◌, None, Option, IfErr, OnOk, sym, subst}
use Rattle.gmon_data.specs.declared.refusal.Unlike.{Unlike}
use Rattle.gmon_data.specs.Hists.{IsUnlike}
use Rattle.profile_sum.proofs.ClashLemmas.{clash_in_turn}
use Rattle.profile_sum.proofs.addition.add_hists.Goals as goal

pub returns-in-Some-clause-refusal : goal.returns-in-Some-clause-refusal
returns-in-Some-clause-refusal c =
    let same = clash_in_turn c.args.total.now c.args.more.now c.in-Some.«unit» c.requires.total c.requires.more (sym c.in-Some.ensures.«unit») in
    subst (λ (o : Option Unlike). IfErr c.add_hists_of.result (λ refusal. IsUnlike refusal o)) same c.add_hists_of.ensures.refusal

pub returns-in-Some-clause-accepted : goal.returns-in-Some-clause-accepted
returns-in-Some-clause-accepted c =
    let same = clash_in_turn c.args.total.now c.args.more.now c.in-Some.«unit» c.requires.total c.requires.more (sym c.in-Some.ensures.«unit») in
    subst (λ (o : Option Unlike). OnOk c.add_hists_of.result (o ≡ None)) same c.add_hists_of.ensures.accepted
