use native.Mathlib.Omega.{arith}
use Rattle.std.proofs.Common.{◌≡◌, false, Some, inr, sym, ap, ◌∙◌}
use Rattle.std.specs.IoError.{error_kind}
use Rattle.folder_system.specs.Events.{Made}
use Rattle.folder_system.specs.Kinds.{is_barring, is_taken}
use Rattle.folder_system.specs.Place.{AreTaken}
use Rattle.folder_system.proofs.Causes.{failed_then, untried}
use Rattle.folder_system.proofs.Making.{made_it, barred_it, gave_up_making, one_more, all_taken, none_taken, on_err}
use Rattle.folder_system.proofs.place.make.Goals as goal

pub returns-in-Ok-clause-begun : goal.returns-in-Ok-clause-begun
returns-in-Ok-clause-begun g c = grind (arith, made_it)

pub returns-in-Err-clause-barred : goal.returns-in-Err-clause-barred
returns-in-Err-clause-barred g c = grind (arith, barred_it)

pub returns-in-Err-3-clause-given_up : goal.returns-in-Err-3-clause-given_up
returns-in-Err-3-clause-given_up g c = grind (arith, gave_up_making)

pub returns-in_err-own-clause-given_up : goal.returns-in_err-own-clause-given_up
returns-in_err-own-clause-given_up g c = search (on_err, none_taken)

pub returns-in-Err-3-clause-cause : goal.returns-in-Err-3-clause-cause
returns-in-Err-3-clause-cause g c =
    let told = g.F.Folder.history in
    let kind = error_kind c.in-Err.e in
    let own = c.as_str.result.now in
    let clear : is_barring kind ≡ false = ap is_barring (sym c.kind.ensures) ∙ sym c.bars.ensures ∙ c.if-bars.false in
    let other : is_taken kind ≡ false = ap is_taken (sym c.kind-in-Err-1.ensures) ∙ sym c.is_taken.ensures ∙ c.if-is_taken.false in
    inr (failed_then kind (AreTaken c.args.name.now c.args.mode c.loop-n.n) (Made own c.args.mode (Some kind)) (told c.args.folder.now) (told c.loop-n.folder) (told c.create_new.new.self) (untried own c.args.mode kind clear other) c.loop-n.invariant c.in-Err.ensures.done)

pub loop-n-preserved : goal.loop-n-preserved
loop-n-preserved g c = grind (arith, one_more)

pub returns-clause-barred : goal.returns-clause-barred
returns-clause-barred g c = grind (arith, all_taken)
