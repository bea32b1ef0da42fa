-- The text of what was folded is that of the stacks.
use Rattle.std.proofs.Common.{◌≡◌, ℕ, suc, ◌+◌, ◌<◌, Bool, true, false, List, [], ◌∷◌, length, map, refl, ap, ◌∙◌, arith}
use Rattle.std.specs.Prelude.{slice_index, if◌then◌else◌}
use Rattle.std.specs.List.{range_with_len}
use Rattle.elf32_syms.specs.declared.image.Image.{Image}
use Rattle.settings.specs.declared.setup.Setup.{Setup}
use Rattle.folded.specs.Stacks.{inclusive_of}
use Rattle.folded.specs.Tally.{Folds, FoldedValue}
use Rattle.folded.specs.Text.{folded_text, functions_text, inclusive_text, lines_text}
use Rattle.courses.specs.FoldedReport.{folded_report, run_stacks}

-- the numbers of functions, one after the other
all_inclusive : (xs : List ℕ) (f : ℕ → ℕ) (a : ℕ) → ((g : ℕ) → g < length xs → slice_index xs g ≡ f (a + g)) → xs ≡ map f (range_with_len a (length xs))
all_inclusive [] f a each = refl
all_inclusive (x ∷ xs) f a each =
    let first : x ≡ f a = each 0 (omega arith) ∙ ap f (omega arith) in
    let others = all_inclusive xs f (a + 1) (λ g less. each (suc g) (omega arith) ∙ ap f (omega arith)) in
    ap (λ (y : ℕ). y ∷ xs) first ∙ ap (λ (ys : List ℕ). f a ∷ ys) others

-- the text of what was folded is that of the run's stacks
pub text_is : (inclusive : Bool) (image : Image) (bytes : List ℕ) (setup : Setup) (f : FoldedValue) → Folds (length image.symbols) (run_stacks image bytes setup) f
    → (if inclusive then inclusive_text image.symbols f else folded_text image.symbols f) ≡ folded_report inclusive image bytes setup
unfolding folded_report
text_is false image bytes setup f folds = ap (lines_text image.symbols) folds.lines
text_is true image bytes setup f folds =
    let stacks = run_stacks image bytes setup in
    let each : (g : ℕ) → g < length f.inclusive → slice_index f.inclusive g ≡ inclusive_of stacks (0 + g) = λ g less. (let same : g ≡ 0 + g = omega arith in
    folds.inclusive g (omega (arith, less, folds.functions_are)) ∙ ap (inclusive_of stacks) same) in
    ap (functions_text image.symbols) (all_inclusive f.inclusive (inclusive_of stacks) 0 each ∙ ap (λ (n : ℕ). map (inclusive_of stacks) (range_with_len 0 n)) folds.functions_are)
