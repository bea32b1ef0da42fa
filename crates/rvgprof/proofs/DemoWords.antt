-- The numbers of a demo that words say.
use Rattle.std.proofs.Common.{◌≡◌, ◌≤◌, ℕ, List, Option, Some, subst}
use Rattle.std.specs.Option.{IfSome}
use Rattle.settings.specs.declared.setup.Setup.{Setup}
use Rattle.command_words.specs.declared.words.Command.{Command}
use Rattle.command_words.specs.declared.words.Command.TheVariants.{Demo}
use Rattle.command_words.specs.Words.{command_of, IsCommandOf}
use Rattle.command_words.proofs.PlaceLemmas.{commands_hold}

-- a demo has at most 2,000 functions, and 4 to 256 MiB of memory
pub demo_words : (words : List (List ℕ)) (functions : ℕ) (elf : Option ℕ) (setup : Setup) → command_of words ≡ Some (Demo functions elf setup) → (functions ≤ 2000) × (4 ≤ setup.ram_mib) × (setup.ram_mib ≤ 256)
demo_words words functions elf setup is =
    let holds = subst (λ (o : Option Command). IfSome o (IsCommandOf words)) is (commands_hold words) in
    (holds.1, holds.2.least_ram, holds.2.most_ram)
