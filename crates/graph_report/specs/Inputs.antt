-- What a report is made from, as the code has it.
use Rattle.flat_report.specs.Rows as Rows
use Rattle.flat_report.specs.Sources.{Sources}
use Rattle.graph_report.specs.declared.inputs.Inputs.{Inputs}

abbrev pub sources_in : Inputs → Sources
sources_in i = Rows.sources_of i.sources
