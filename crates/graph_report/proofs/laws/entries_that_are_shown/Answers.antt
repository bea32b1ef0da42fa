use Rattle.std.proofs.Common.{◌++◌, List, ap, refl}
use Rattle.std.specs.List.{flat_map}
use Rattle.graph_report.specs.Entries.{GraphEntry, graph_order}
use Rattle.graph_report.specs.GraphText.{graph_text, graph_header}
use Rattle.graph_report.specs.Subjects.{entry_text}
use Rattle.graph_report.proofs.ReportLemmas.{all_shown}
use Rattle.graph_report.proofs.laws.entries_that_are_shown.Goals as goal

pub returns-clause-whole : goal.returns-clause-whole
unfolding graph_text
returns-clause-whole c = λ s. ap (λ (es : List GraphEntry). graph_header ++ flat_map (entry_text s) es) (all_shown (graph_order s))

pub returns-clause-less : goal.returns-clause-less
unfolding graph_text
returns-clause-less c = λ s hidden. refl
