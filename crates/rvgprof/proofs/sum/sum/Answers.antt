use Rattle.std.proofs.Common.{◌≡◌, [], None, inl, refl, subst}
use Rattle.std.proofs.lemmas.Result.{err_from_is_err_and}
use Rattle.gmon_gnu.specs.ProfileText.{profile_text}
use Rattle.gmon_data.specs.Content.{IsProfile}
use Rattle.command_inputs.specs.Totals.{total_of}
use Rattle.courses.specs.Answer.{contents_of, end_course, file_acts, sum_file}
use Rattle.command_words.specs.Items.{nth_word}
use Rattle.courses.proofs.Standing.{last_acts, fails, weaker}
use Rattle.rvgprof.proofs.ToldLemmas.{acts_tell, later_told}
use Rattle.command_inputs.proofs.Summing.{all_from_0}
use Rattle.rvgprof.proofs.sum.sum.Goals as goal

pub returns-in_err-total-clause-acted : goal.returns-in_err-total-clause-acted
returns-in_err-total-clause-acted g c =
    let words = c.args.words.now in
    let p = err_from_is_err_and c.from_residual.result c.from_residual.ensures.1 in
    rw (p.1, p.2) (c.in_err-total.ensures.reads _ 0 (sum_file (nth_word words c.args.out)) (λ contents total. (inl refl, refl)) (all_from_0 c.args.gmons.now) c.requires.stands)

pub returns-in-Ok-clause-acted : goal.returns-in-Ok-clause-acted
returns-in-Ok-clause-acted g c =
    let words = c.args.words.now in
    let s = c.in_ok-total.ensures.reads _ 0 (sum_file (nth_word words c.args.out)) (λ contents total. (inl refl, refl)) (all_from_0 c.args.gmons.now) c.requires.stands in
    let performs = rw c.name.ensures at c.in-Ok.ensures in
    last_acts words _ _ _ s.0 [] (file_acts (nth_word words c.args.out) (profile_text c.in_ok-total.total)) (record { run = None }) tt s.1 performs refl

pub returns-clause-acted : goal.returns-clause-acted
returns-clause-acted g c =
    let words = c.args.words.now in
    let s = c.in_ok-total.ensures.reads _ 0 (sum_file (nth_word words c.args.out)) (λ contents total. (inl refl, refl)) (all_from_0 c.args.gmons.now) c.requires.stands in
    let performs = rw c.name.ensures at c.in-Err.ensures in
    fails words _ _ _ s.0 [] (file_acts (nth_word words c.args.out) (profile_text c.in_ok-total.total)) end_course c.in-Err.field-0 s.1 performs

pub returns-in-Ok-clause-fits : goal.returns-in-Ok-clause-fits
returns-in-Ok-clause-fits g c =
    let words = c.args.words.now in
    let old = g.H.Host.outside c.args.host.now in
    let mid = g.H.Host.outside c.read_profiles.new.host in
    let new = g.H.Host.outside c.write_profile.new.host in
    let total = c.in_ok-total.total in
    let told = weaker old.disk mid.disk (λ files. total ≡ total_of (contents_of words files) c.args.gmons.now) (λ files. IsProfile (total_of (contents_of words files) c.args.gmons.now))
    (λ files is. subst IsProfile is c.holds.ensures) c.in_ok-total.ensures.told.told in
    later_told old mid new (λ files. IsProfile (total_of (contents_of words files) c.args.gmons.now)) (acts_tell _ mid new c.in-Ok.ensures.done) told
