use Rattle.std.proofs.Common.{◌≡◌, ℕ, List, length, None, Some, sym, ap, subst, ◌∙◌}
use Rattle.gp_base.specs.declared.records.Form.{Form}
use Rattle.gp_base.specs.declared.records.Form.TheVariants.{Bsd, Gnu}
use Rattle.gp_base.specs.declared.records.Rec.{Rec}
use Rattle.gp_base.specs.declared.records.Records.{Records}
use Rattle.gp_base.specs.declared.refusal.GmonRefusal.TheVariants.{Short}
use Rattle.gmon_files.specs.declared.file_reader.FileReader.{FileReader}
use Rattle.gmon_files.specs.Forms.{refusal_in, records_in}
use Rattle.gmon_files.specs.FileRead.{StandsFor}
use Rattle.gmon_files.proofs.FileReading.{of_bsd, of_gnu, short_refused}
use Rattle.gmon_files.proofs.file_reader.FileReader.records.Goals as goal

abbrev viewed : Form → List Rec → Records
viewed form recs = record { form = form; recs = recs }

pub returns-in-Front-clause-refused : goal.returns-in-Front-clause-refused
returns-in-Front-clause-refused c = λ bytes stands.
    let p = subst (λ (r : FileReader). StandsFor bytes r) c.in-Front.is stands in
    short_refused bytes p.1 ∙ ap (λ (n : ℕ). Some (Short n)) (sym (c.len.ensures.len ∙ ap length p.0))

pub returns-in-Err-clause-refused : goal.returns-in-Err-clause-refused
returns-in-Err-clause-refused c = of_bsd c.in-Bsd.is (λ bytes f. refusal_in f bytes ≡ Some c.in-Err.refusal) c.in-Err.ensures.refused

pub returns-in-Ok-clause-accepted : goal.returns-in-Ok-clause-accepted
returns-in-Ok-clause-accepted c = of_bsd c.in-Bsd.is (λ bytes f. refusal_in f bytes ≡ None) c.in-Ok.ensures.accepted

pub returns-in-Ok-clause-records : goal.returns-in-Ok-clause-records
returns-in-Ok-clause-records c = of_bsd c.in-Bsd.is (λ bytes f. viewed Bsd c.in-Ok.views ≡ records_in f bytes) (λ bytes stands. ap (viewed Bsd) (c.in-Ok.ensures.records bytes stands))

pub returns-in-Err-records-clause-refused : goal.returns-in-Err-records-clause-refused
returns-in-Err-records-clause-refused c = of_gnu c.in-Gnu.is (λ bytes f. refusal_in f bytes ≡ Some c.in-Err-records.refusal) c.in-Err-records.ensures.refused

pub returns-in-Ok-records-clause-accepted : goal.returns-in-Ok-records-clause-accepted
returns-in-Ok-records-clause-accepted c = of_gnu c.in-Gnu.is (λ bytes f. refusal_in f bytes ≡ None) c.in-Ok-records.ensures.accepted

pub returns-in-Ok-records-clause-records : goal.returns-in-Ok-records-clause-records
returns-in-Ok-records-clause-records c = of_gnu c.in-Gnu.is (λ bytes f. viewed Gnu c.in-Ok-records.views ≡ records_in f bytes) (λ bytes stands. ap (viewed Gnu) (c.in-Ok-records.ensures.records bytes stands))
