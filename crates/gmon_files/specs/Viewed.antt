-- The records of a file that views have left.
use Rattle.std.specs.Prelude.{List}
use Rattle.gp_base.specs.declared.records.Form.{Form}
use Rattle.gp_base.specs.declared.records.Form.TheVariants as form
use Rattle.gp_base.specs.declared.records.Rec.{Rec}
use Rattle.gp_base.specs.declared.records.Records.{Records}
use Rattle.gmon_files.specs.declared.views.RecordViews.{RecordViews}
use Rattle.gmon_files.specs.declared.views.RecordViews.TheVariants.{Bsd, Gnu}

abbrev pub form_viewed : RecordViews → Form
form_viewed (Bsd recs) = form.Bsd
form_viewed (Gnu recs) = form.Gnu

abbrev pub recs_left : RecordViews → List Rec
recs_left (Bsd recs) = recs
recs_left (Gnu recs) = recs

-- they and the form of the file
abbrev pub records_left : RecordViews → Records
records_left views = record { form = form_viewed views; recs = recs_left views }
