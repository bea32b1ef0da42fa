-- What is known of the file that a command writes: that its numbers have room in it.
-- Only private functions speak of it.
use Rattle.std.specs.Prelude.{◌≡◌, ℕ, true, List, Option, Some, is_some, ⊤}
use Rattle.gmon_data.specs.Content.{IsProfile}
use Rattle.host_port.specs.Outside.{Outside}
use Rattle.command_words.specs.declared.words.Command.{Command}
use Rattle.command_words.specs.declared.words.Command.TheVariants.{Run, Profile, Sum}
use Rattle.command_words.specs.Words.{IsRunSetup}
use Rattle.courses.specs.Answer.{contents_of}
use Rattle.courses.specs.Contract.{WhereTold}
use Rattle.command_inputs.specs.Totals.{total_of}

-- where the files are told, what they add up to is a profile
abbrev pub SumIsProfile : List (List ℕ) → Outside → Outside → List ℕ → Type 0
SumIsProfile words old new gmons = WhereTold old new (λ files. IsProfile (total_of (contents_of words files) gmons))

-- of the commands that write a file
abbrev pub FileFits : List (List ℕ) → Outside → Outside → Option Command → Type 0
FileFits words old new (Some (Run elf gmon form memory setup)) = IsRunSetup form setup
FileFits words old new (Some (Profile elf gmon form memory setup selection)) = IsRunSetup form setup
FileFits words old new (Some (Sum out gmons)) = SumIsProfile words old new gmons
FileFits words old new command = ⊤

-- the files are told still only where they were told before
abbrev pub TellsNoMore : Outside → Outside → Type 0
TellsNoMore old new = is_some new.disk ≡ true → is_some old.disk ≡ true
