-- The text of a run's folded stacks.
use Rattle.std.specs.Prelude.{ℕ, Bool, true, false, List, Option, map, length}
use Rattle.std.specs.List.{range_with_len}
use Rattle.elf32_syms.specs.declared.image.Image.{Image}
use Rattle.elf32_syms.specs.declared.image.Symbol.{Symbol}
use Rattle.settings.specs.declared.setup.Setup.{Setup}
use Rattle.folded.specs.Stacks.{inclusive_of, lines_of, stacks_of}
use Rattle.folded.specs.Text.{functions_text, lines_text}
use Rattle.folded.specs.Trail.{run_samples}
use Rattle.prof_machine.specs.Start.{machine_of, start_of}

-- the stacks of the samples of a program's run
abbrev pub run_stacks : Image → List ℕ → Setup → List (List (Option ℕ))
run_stacks image bytes setup = stacks_of image.symbols (run_samples (machine_of image setup) (start_of image bytes setup))

-- a line for each function that has samples, or one for each stack
abbrev pub stacks_text : Bool → List Symbol → List (List (Option ℕ)) → List ℕ
stacks_text true symbols stacks = functions_text symbols (map (inclusive_of stacks) (range_with_len 0 (length symbols)))
stacks_text false symbols stacks = lines_text symbols (lines_of stacks)

unfoldable pub folded_report : Bool → Image → List ℕ → Setup → List ℕ
folded_report inclusive image bytes setup = stacks_text inclusive image.symbols (run_stacks image bytes setup)
