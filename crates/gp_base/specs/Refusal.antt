-- A refusal, seen apart from running out of memory.
use Rattle.std.specs.Prelude.{◌≡◌, Option, Some, ⊤}
use Rattle.gp_base.specs.declared.refusal.GmonRefusal.{GmonRefusal}
use Rattle.gp_base.specs.declared.refusal.GmonRefusal.TheVariants.{OutOfMemory}

-- the refusal is the one that the form gives; running out of memory is free
abbrev pub IsRefusal : GmonRefusal → Option GmonRefusal → Type 0
IsRefusal OutOfMemory given = ⊤
IsRefusal refusal given = given ≡ Some refusal
