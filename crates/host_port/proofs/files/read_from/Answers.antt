use Rattle.std.proofs.lemmas.Grind.{common_steps}
use Rattle.std.proofs.Common.{length, ap, arith, length-drop}
use Rattle.std.proofs.lemmas.List.{take_at}
use Rattle.host_port.proofs.EntryLemmas.{rest_is, nothing_left}
use Rattle.host_port.proofs.files.read_from.Goals as goal

pub returns-then-place-entries-clause-number : goal.returns-then-place-entries-clause-number
returns-then-place-entries-clause-number c = grind (arith, nothing_left)

pub returns-then-place-bytes-clause-number : goal.returns-then-place-bytes-clause-number
returns-then-place-bytes-clause-number c =
    let place = c.args.place.now in
    let left = rest_is c.args.entries.now place.file place.at c.index-entries-place.result c.as_slice-bytes.result.now c.if-place-entries.false c.index-entries-place.is c.as_slice-bytes.ensures.value in
    omega (arith, length-drop place.at c.as_slice-bytes.result.now, ap length left)

pub returns-clause-number : goal.returns-clause-number
returns-clause-number c = grind (arith, rest_is)

pub returns-clause-bytes : goal.returns-clause-bytes
returns-clause-bytes c = grind (arith, rest_is, take_at)

pub returns-clause-rest : goal.returns-clause-rest
returns-clause-rest c = grind (arith, common_steps)
