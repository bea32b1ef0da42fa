-- How a command goes on once the samples of a run were folded, or ends.
use Rattle.std.specs.Prelude.{ℕ, Bool, List, length, Result, Err, MatchResult}
use Rattle.elf32_syms.specs.declared.image.Image.{Image}
use Rattle.host_port.specs.Act.{Act}
use Rattle.host_port.specs.Outside.{Outside}
use Rattle.settings.specs.declared.setup.Setup.{Setup}
use Rattle.courses.specs.declared.outcome.Fault.{Fault}
use Rattle.prof_machine.specs.Value.{RunValue}
use Rattle.folded.specs.Tally.{Folds, FoldedValue}
use Rattle.courses.specs.FoldedReport.{run_stacks}
use Rattle.courses.specs.Answer.{fold_program, stacks_told}
use Rattle.courses.specs.Contract.{Acted}
use Rattle.courses.specs.Standing.{Stands}

-- A program was run and its samples folded, and the command goes on by the text of its stacks; or it ended.
abbrev pub FoldsProgram : Image → List ℕ → Setup → Outside → Outside → Result (RunValue × FoldedValue) Fault → Type 0
FoldsProgram image bytes setup old new result =
    (words : List (List ℕ)) (start : Outside) (below : ℕ) (done : List Act) (inclusive : Bool) → Stands words start old below done (fold_program inclusive setup bytes image)
    → MatchResult result (λ ran. (all : List Act) × Stands words start new below all (stacks_told inclusive image bytes setup) × Folds (length image.symbols) (run_stacks image bytes setup) ran.1) (λ fault. Acted words start new (Err fault))
