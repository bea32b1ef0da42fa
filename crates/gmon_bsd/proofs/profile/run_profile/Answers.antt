use Rattle.std.proofs.Common.{◌≡◌, ◌+◌, List, map, length, sym, subst, ◌∙◌, arith}
use Rattle.gp_base.specs.declared.records.RawArc.{RawArc}
use Rattle.gmon_data.specs.Content.{Content, IsWithin, wide_arc, with_records}
use Rattle.gmon_bsd.proofs.ProfileLemmas.{many_arcs, of_its_file, within_bounds}
use Rattle.gmon_bsd.proofs.profile.run_profile.Goals as goal

pub add_arcs-requires : goal.add_arcs-requires
add_arcs-requires c =
    let arcs = c.args.gmon.now.arcs in
    let those : c.deref-2.result.now ≡ arcs = c.deref-2.ensures.value ∙ c.in_ok-arcs.ensures.those in
    let small = many_arcs arcs c.in_ok-profile.profile 0 c.in_ok-arcs.ensures.fits c.in_ok-profile.ensures.bounds in
    let few = within_bounds (0 + length arcs) _ (omega (arith, c.in_ok-profile.ensures.sizes.most, c.in_ok-arcs.ensures.few)) small in
    subst (λ (xs : List RawArc). IsWithin (with_records (map wide_arc xs) c.expect_records.new.self)) (sym those) (subst (λ (p : Content). IsWithin (with_records (map wide_arc arcs) p)) (sym c.expect_records.ensures) few)

pub returns-clause-records : goal.returns-clause-records
returns-clause-records c = grind arith

pub returns-clause-log : goal.returns-clause-log
returns-clause-log c = search (returns-clause-records, of_its_file)

pub returns-clause-fits : goal.returns-clause-fits
returns-clause-fits c = (c.in_ok-profile.ensures.sizes, c.in_ok-arcs.ensures.fits)
