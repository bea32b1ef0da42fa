use Rattle.std.proofs.Common.{◌≡◌, ℕ, length, Option, None, Some, Result, Err, OnOk, IfOk, sym, ap, subst, ◌∙◌}
use Rattle.std.specs.Prelude.{IfSome}
use Rattle.gp_base.specs.declared.records.Records.{Records}
use Rattle.gp_base.specs.declared.refusal.GmonRefusal.{GmonRefusal}
use Rattle.gp_base.specs.declared.refusal.GmonRefusal.TheVariants.{Short}
use Rattle.gmon_files.specs.declared.file_reader.FileReader.{FileReader}
use Rattle.gmon_files.specs.Forms.{refusal_in, records_in}
use Rattle.gmon_files.specs.FileRead.{StandsFor}
use Rattle.gmon_files.proofs.FileReading.{of_bsd, of_gnu, short_refused}
use Rattle.gmon_files.proofs.file_reader.FileReader.finish.Goals as goal

abbrev refused : GmonRefusal → Result Records GmonRefusal
refused refusal = Err refusal

pub returns-in-Front-clause-refused : goal.returns-in-Front-clause-refused
returns-in-Front-clause-refused c = λ bytes stands.
    let p = subst (λ (r : FileReader). StandsFor bytes r) c.in-Front.is stands in
    let due = short_refused bytes p.1 in
    let answered : Short c.len.result ≡ Short (length bytes) = ap (λ (n : ℕ). Short n) (c.len.ensures.len ∙ ap length p.0) in
    subst (λ (o : Option GmonRefusal). IfSome o (λ refusal. refused (Short c.len.result) ≡ refused refusal)) (sym due) (ap refused answered)

pub returns-in-Front-clause-refusal : goal.returns-in-Front-clause-refusal
returns-in-Front-clause-refusal c = λ bytes stands.
    let p = subst (λ (r : FileReader). StandsFor bytes r) c.in-Front.is stands in
    short_refused bytes p.1 ∙ ap (λ (n : ℕ). Some (Short n)) (sym (c.len.ensures.len ∙ ap length p.0))

pub returns-in-Bsd-clause-accepted : goal.returns-in-Bsd-clause-accepted
returns-in-Bsd-clause-accepted c = of_bsd c.in-Bsd.is (λ bytes f. OnOk c.finish.result (refusal_in f bytes ≡ None)) c.finish.ensures.accepted

pub returns-in-Bsd-clause-records : goal.returns-in-Bsd-clause-records
returns-in-Bsd-clause-records c = of_bsd c.in-Bsd.is (λ bytes f. IfOk c.finish.result (λ r. r ≡ records_in f bytes)) c.finish.ensures.records

pub returns-in-Bsd-clause-refused : goal.returns-in-Bsd-clause-refused
returns-in-Bsd-clause-refused c = of_bsd c.in-Bsd.is (λ bytes f. IfSome (refusal_in f bytes) (λ refusal. c.finish.result ≡ Err refusal)) c.finish.ensures.refused

pub returns-in-Gnu-clause-refused : goal.returns-in-Gnu-clause-refused
returns-in-Gnu-clause-refused c = of_gnu c.in-Gnu.is (λ bytes f. IfSome (refusal_in f bytes) (λ refusal. c.finish-in-Gnu.result ≡ Err refusal)) c.finish-in-Gnu.ensures.refused
