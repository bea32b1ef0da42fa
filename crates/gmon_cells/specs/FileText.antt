-- The file of a run: a header of its form, the counters, and the arcs, each behind the form's tag of an arc.
use Rattle.std.specs.Prelude.{ℕ, List, ◌++◌}
use Rattle.std.specs.List.{flat_map}
use Rattle.gp_base.specs.declared.records.RawArc.{RawArc}
use Rattle.gp_base.specs.Fields.{arc_bytes, counters_text}

abbrev pub tagged_by : List ℕ → RawArc → List ℕ
tagged_by tag arc = tag ++ arc_bytes arc

abbrev pub file_text : List ℕ → List ℕ → List ℕ → List RawArc → List ℕ
file_text header tag counters arcs = header ++ (counters_text counters ++ flat_map (tagged_by tag) arcs)
