-- How reading ends.
-- Only private functions and invariants speak of it.
use Rattle.std.specs.Prelude.{List, [], Option, Some, None, Result, Ok, Err}
use Rattle.gp_base.specs.declared.records.Rec.{Rec}
use Rattle.gp_base.specs.declared.refusal.GmonRefusal.{GmonRefusal}

-- by a refusal, or with no record more
abbrev pub ending_result : Option GmonRefusal → Result (List Rec) GmonRefusal
ending_result None = Ok []
ending_result (Some refusal) = Err refusal
