use Rattle.std.proofs.Common.{◌≡◌, true, false, eqb, List, sym, subst, arith}
use Rattle.std.proofs.lemmas.Bool.Decides.{nat_tests}
use Rattle.host_port.specs.Act.{Act}
use Rattle.rv_step.specs.Memory.{IsInside}
use Rattle.prof_machine.proofs.ActLemmas.{cut_short, write_acts_are}
use Rattle.prof_machine.proofs.ResultLemmas.{on_err_any}
use Rattle.prof_machine.specs.Ecalls.{is_output}
use Rattle.prof_machine.specs.Prints.{IsCutShort}
use Rattle.prof_machine.proofs.ecalls.write.Goals as goal
use Rattle.prof_machine.proofs.ecalls.write.Goals.{else-descriptor-ne-OUT-via-then-descriptor-ne-OUT+else-descriptor-ne-ERR, else-descriptor-ne-OUT-via-else-descriptor-ne-OUT}

pub returns-in_err-print-in-Some-clause-fails : goal.returns-in_err-print-in-Some-clause-fails
returns-in_err-print-in-Some-clause-fails g c = on_err_any _ _ c.from_residual.result _ (
    let d = c.args.descriptor in
    let m = c.args.ram.now in
    let from = c.args.from in
    let n = c.args.count in
    let bytes = c.in-Some.bytes.now in
    let known : is_output d ≡ true = elim c.else-descriptor-ne-OUT.branch [
      | else-descriptor-ne-OUT-via-then-descriptor-ne-OUT+else-descriptor-ne-ERR b ↦ grind (arith, nat_tests, b.if-descriptor-ne-ERR)
      | else-descriptor-ne-OUT-via-else-descriptor-ne-OUT b ↦ grind (arith, nat_tests, b.if-descriptor-ne-OUT)
    ] in
    let some : eqb n 0 ≡ false = grind (arith, nat_tests, c.if-count-eq0.false) in
    let inside : IsInside m from n = c.in-Some.ensures.inside.0 cc in
    let P : List Act → Type 0 = λ acts. IsCutShort acts (g.H.Host.outside c.args.host.now) (g.H.Host.outside c.print.new.host) in
    subst P (sym (write_acts_are m d from n bytes known some inside c.in-Some.ensures.bytes))
    (cut_short c.print.result _ d bytes _ _ c.in_err-print-in-Some.was c.print.ensures))
