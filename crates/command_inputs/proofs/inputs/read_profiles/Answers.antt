use Rattle.std.proofs.Common.{◌≡◌, ℕ, ◌+◌, ◌-◌, ◌≤◌, List, [], ◌∷◌, ◌∙◌, ap, drop, take, get_or, sym, subst, arith}
use Rattle.std.proofs.lemmas.Result.{err_from_is_err_and}
use Rattle.std.specs.List.{AllByRecursion}
use Rattle.std.proofs.lemmas.List.{drop_more, drop_all, take_all, take_more}
use Rattle.gmon_data.specs.Content.{content_of}
use Rattle.profile_sum.specs.Sum.{sum_of}
use Rattle.gp_base.specs.declared.limits.TheConstants.{MAX_PROFILE_BYTES}
use Rattle.command_inputs.specs.Totals.{records_of, total_of}
use Rattle.courses.specs.Answer.{contents_of, profiles}
use Rattle.gmon_data.specs.Sizes.{IsOfBytes}
use Rattle.courses.specs.Standing.{Stands}
use Rattle.command_words.specs.Words.{AreRising}
use Rattle.command_words.proofs.PlaceLemmas.{rising_drop}
use Rattle.command_inputs.proofs.Summing.{all_behind, read_both, total_more}
use Rattle.command_inputs.proofs.inputs.read_profiles.Goals as goal

pub loop-i-init : goal.loop-i-init
loop-i-init g c = grind arith

pub loop-i-preserved : goal.loop-i-preserved
loop-i-preserved g c =
    let words = c.args.words.now in
    let gmons = c.args.gmons.now in
    let i = c.loop-i.i in
    let word = get_or gmons i 0 in
    let more = drop (i + 1) gmons in
    let front : drop i gmons ≡ word ∷ more = drop_more gmons i 0 c.loop-i-test.true in
    let rising : AreRising (word ∷ more) = subst (λ (ws : List ℕ). AreRising ws) front (rising_drop i gmons c.requires.rising) in
    let was = c.loop-i.invariant in
    let one = c.in_ok-left.ensures in
    let less : MAX_PROFILE_BYTES - c.loop-i.left + c.in_ok-left.field-0 ≡ MAX_PROFILE_BYTES - (c.loop-i.left - c.in_ok-left.field-0) = omega (arith, one.within, was.limit) in
    record {
      reads = λ start below next may all s.
          let before = was.reads start below next may all s in
          let behind : AllByRecursion (λ w. before.0 ≤ w) (word ∷ more) = subst (λ (ws : List ℕ). AllByRecursion (λ w. before.0 ≤ w) ws) front before.1 in
          let stands = subst (λ (ws : List ℕ). Stands words start (g.H.Host.outside c.loop-i.host) before.0 [] (profiles ws c.loop-i.left c.loop-i.total next)) front before.2 in
          (word + 1, all_behind word more rising.0, one.adds start before.0 more next may behind.0 stands);
      idle = one.still_idle;
      size = subst (λ (n : ℕ). IsOfBytes n c.add_profile.new.total) less one.size;
      limit = omega (arith, was.limit);
      told = read_both (g.H.Host.outside c.args.host.now) (g.H.Host.outside c.loop-i.host) (g.H.Host.outside c.add_profile.new.host) (λ files. c.loop-i.total ≡ total_of (contents_of words files) (take i gmons))
          (λ files. c.add_profile.new.total ≡ sum_of c.loop-i.total (content_of (records_of (contents_of words files word)))) (λ files. c.add_profile.new.total ≡ total_of (contents_of words files) (take (i + 1) gmons))
          (λ files is sum. sum ∙ total_more (contents_of words files) (take i gmons) word c.loop-i.total is ∙ ap (total_of (contents_of words files)) (sym (take_more gmons i 0 c.loop-i-test.true)))
          was.told one.told;
    }

pub returns-in_err-left-clause-reads : goal.returns-in_err-left-clause-reads
returns-in_err-left-clause-reads g c = λ start below next may all s.
    let words = c.args.words.now in
    let gmons = c.args.gmons.now in
    let i = c.loop-i.i in
    let word = get_or gmons i 0 in
    let more = drop (i + 1) gmons in
    let front : drop i gmons ≡ word ∷ more = drop_more gmons i 0 c.loop-i-test.true in
    let before = c.loop-i.invariant.reads start below next may all s in
    let behind : AllByRecursion (λ w. before.0 ≤ w) (word ∷ more) = subst (λ (ws : List ℕ). AllByRecursion (λ w. before.0 ≤ w) ws) front before.1 in
    let stands = subst (λ (ws : List ℕ). Stands words start (g.H.Host.outside c.loop-i.host) before.0 [] (profiles ws c.loop-i.left c.loop-i.total next)) front before.2 in
    let p = err_from_is_err_and c.from_residual.result c.from_residual.ensures.1 in
    rw (p.1, p.2) (c.in_err-left.ensures.adds start before.0 more next may behind.0 stands)

pub returns-clause-reads : goal.returns-clause-reads
returns-clause-reads g c = λ start below next may all s.
    let words = c.args.words.now in
    let gmons = c.args.gmons.now in
    let none : drop c.loop-i.i gmons ≡ [] = drop_all c.loop-i.i gmons c.loop-i-test.false in
    let before = c.loop-i.invariant.reads start below next may all s in
    (before.0, subst (λ (ws : List ℕ). Stands words start (g.H.Host.outside c.loop-i.host) before.0 [] (profiles ws c.loop-i.left c.loop-i.total next)) none before.2)

pub returns-clause-told : goal.returns-clause-told
returns-clause-told g c = grind (arith, take_all)
