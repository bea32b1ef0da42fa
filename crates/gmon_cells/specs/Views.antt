-- The records that views stand for.
use Rattle.gp_base.specs.declared.records.RawHist.{RawHist}
use Rattle.gp_base.specs.declared.records.Rec.{Rec}
use Rattle.gp_base.specs.declared.records.Rec.TheVariants as raw
use Rattle.gmon_cells.specs.declared.views.HistView.{HistView}
use Rattle.gmon_cells.specs.declared.views.RecView.{RecView}
use Rattle.gmon_cells.specs.declared.views.RecView.TheVariants.{Hist, Arc, Blocks}

abbrev pub hist_viewed : HistView → RawHist
hist_viewed view = record { low = view.low; high = view.high; «unit» = view.«unit»; counters = view.counters.now }

abbrev pub rec_viewed : RecView → Rec
rec_viewed (Hist view) = raw.Hist (hist_viewed view)
rec_viewed (Arc arc) = raw.Arc arc
rec_viewed (Blocks blocks) = raw.Blocks blocks.now
