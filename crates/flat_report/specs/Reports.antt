-- What a report leaves on the output.
use Rattle.std.specs.Prelude.{ℕ, List, Result, Ok, Err, ⊤}
use Rattle.host_port.specs.Outside.{Outside}
use Rattle.host_port.specs.Host.{Puts}
use Rattle.host_port.specs.declared.side.Side.TheVariants.{Output}
use Rattle.flat_report.specs.declared.refusal.ReportRefusal.{ReportRefusal}
use Rattle.flat_report.specs.declared.refusal.ReportRefusal.TheVariants.{WriteFault, OutOfMemory}

-- The text was printed; where a call on the host failed, a prefix of it that isn't the whole. Of running out of
-- memory nothing is said here.
abbrev pub Reports : List ℕ → Outside → Outside → Result (Unit {0}) ReportRefusal → Type 0
Reports text old new (Ok u) = Puts {T = Unit {0}} {E = ReportRefusal} Output text old new (Ok u)
Reports text old new (Err WriteFault) = Puts {T = Unit {0}} {E = ReportRefusal} Output text old new (Err WriteFault)
Reports text old new (Err OutOfMemory) = ⊤
