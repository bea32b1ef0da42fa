-- The records of a reader that views have left.
-- Only private functions and invariants speak of it.
use Rattle.std.specs.Prelude.{List, [], ◌∷◌, ◌++◌, map, Option, Some, None}
use Rattle.gp_base.specs.declared.records.Rec.{Rec}
use Rattle.gp_base.specs.declared.records.Rec.TheVariants.{Hist, Arc}
use Rattle.gmon_cells.specs.declared.views.HistView.{HistView}
use Rattle.gmon_cells.specs.Views.{hist_viewed}
use Rattle.gmon_bsd.specs.declared.views.RecordViews.TheInside.{Inside}

-- the histogram, while it wasn't given
abbrev pub hist_left : Option HistView → List Rec
hist_left None = []
hist_left (Some hist) = Hist (hist_viewed hist) ∷ []

abbrev pub recs_left : Inside → List Rec
recs_left views = hist_left views.hist ++ map Arc views.arcs.now
