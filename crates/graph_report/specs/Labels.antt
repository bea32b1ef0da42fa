-- The ends of lines that name functions, all in one text: only private functions speak of it.
use Rattle.std.specs.Prelude.{◌<◌, ◌++◌, ℕ, List, codes}
use Rattle.flat_report.specs.Sources.{Sources}
use Rattle.graph_report.specs.GraphText.{function_name}
use Rattle.graph_report.specs.Lists.{AreLists}
use Rattle.graph_report.specs.declared.labels.Labels.{Labels}
use Rattle.graph_report.specs.declared.subjects.Subject.{Subject}

-- the end of a line that names a function: its name with its cycle and the number of its entry
abbrev pub label_of : Sources → (Subject → ℕ) → ℕ → List ℕ
label_of s number f = function_name s number f ++ codes "\n"

-- so many labels
abbrev pub AreLabels : ℕ → (ℕ → List ℕ) → Labels → Type 0
AreLabels count of l = AreLists count of l.text.items l.starts.items

-- the function is one of those that have labels
pub record HasLabel (l : Labels) (f : ℕ) : Type 0 where
  pub count : ℕ
  pub of : ℕ → List ℕ
  pub labels : AreLabels count of l
  pub below : f < count
