use Rattle.std.proofs.Common.{◌*◌, subst, sym}
use Rattle.gmon_data.specs.Content.{Content}
use Rattle.gmon_data.specs.Sizes.{IsOfBytes}
use Rattle.gmon_data.proofs.SizeLemmas.{of_nothing}
use Rattle.test_profiles.proofs.tests.contents.add_side_by_side.Goals as goal

pub loop-k-init : goal.loop-k-init
loop-k-init c = subst (λ (p : Content). IsOfBytes (2 * 0) p) (sym c.requires.empty) of_nothing
