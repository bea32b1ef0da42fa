-- Why there is no profile of what was read of a file.
use Rattle.std.specs.Prelude.{◌≡◌, Option, Some, None}
use Rattle.gp_base.specs.declared.refusal.GmonRefusal.{GmonRefusal}
use Rattle.gmon_data.specs.declared.refusal.ReadRefusal.{ReadRefusal}
use Rattle.gmon_data.specs.declared.refusal.ReadRefusal.TheVariants as answers
use Rattle.gmon_data.specs.declared.refusal.Unlike.{Unlike}
use Rattle.gmon_data.specs.Hists.{IsUnlike}

-- A fault of the file is answered before anything else. Where it has none, the answer is the conflict that is given,
-- unless memory ran out before.
abbrev pub IsReadRefusal : ReadRefusal → Option GmonRefusal → Option Unlike → Type 0
IsReadRefusal (answers.File refusal) fault conflict = fault ≡ Some refusal
IsReadRefusal (answers.Profile refusal) fault conflict = (fault ≡ None) × IsUnlike refusal conflict
