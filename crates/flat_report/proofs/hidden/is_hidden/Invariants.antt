use Rattle.std.proofs.Common.{◌≡◌, false, string_bytes, take}
use Rattle.std.specs.List.{list_any}
use Rattle.std.specs.Str.{bytes_eq}
use Rattle.flat_report.proofs.hidden.is_hidden.Given as goal

abbrev pub invariant-loop-other : goal.invariant-loop-other
invariant-loop-other l = list_any (λ other. bytes_eq (string_bytes other) l.name) (take l.other-index l.hidden) ≡ false
