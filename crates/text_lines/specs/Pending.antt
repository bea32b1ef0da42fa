-- What is on its way to the output.
-- Only private functions speak of it.
use Rattle.std.specs.Prelude.{ℕ, List, ◌++◌}
use Rattle.text_lines.specs.declared.lines.Lines.{Lines}

abbrev pub pending : Lines → List ℕ
pending lines = lines.before ++ lines.last
