use Rattle.std.proofs.Common.{◌≡◌, ℕ, List, None, Some, Result, Err, length, sym, ap, subst, ◌∙◌}
use Rattle.std.specs.Prelude.{IfErr, IfOk, IfSome, OnOk}
use Rattle.gp_base.specs.declared.records.Form.{Form}
use Rattle.gp_base.specs.declared.records.Form.TheVariants.{Bsd}
use Rattle.gp_base.specs.declared.refusal.GmonRefusal.TheVariants.{Short}
use Rattle.gmon_data.specs.declared.refusal.AddRefusal.TheVariants as answers
use Rattle.gmon_data.specs.declared.refusal.ReadRefusal.{ReadRefusal}
use Rattle.gmon_data.specs.declared.refusal.ReadRefusal.TheVariants.{Profile}
use Rattle.gmon_data.specs.Content.{Content, conflict_of, content_of, empty_content, wide_records}
use Rattle.gmon_data.specs.Refusals.{IsReadRefusal}
use Rattle.gmon_data.proofs.RecordLemmas.{arcs_widened}
use Rattle.gmon_gnu.specs.FirstHists.{conflict_among_first}
use Rattle.gmon_gnu.proofs.FirstHistsLemmas.{nothing_told, one_alone}
use Rattle.gmon_files.specs.declared.file_reader.FileReader.{FileReader}
use Rattle.gmon_files.specs.Forms.{records_in, refusal_in}
use Rattle.gmon_files.specs.FileRead.{StandsFor}
use Rattle.gmon_files.proofs.FileReading.{fits_bsd, fits_gnu, of_bsd, of_gnu, short_refused}
use Rattle.gmon_files.proofs.file_reader.FileReader.into_profile.Goals as goal

module _ (answer : Result Content ReadRefusal) (bytes : List ℕ) (f : Form) where
  abbrev Accepted : Type 0
  Accepted = OnOk answer (refusal_in f bytes ≡ None)

  abbrev Like : Type 0
  Like = OnOk answer (conflict_of empty_content (wide_records (records_in f bytes).recs) ≡ None)

  abbrev HasContent : Type 0
  HasContent = IfOk answer (λ profile. profile ≡ content_of (wide_records (records_in f bytes).recs))

  abbrev Refused : Type 0
  Refused = IfErr answer (λ refusal. IsReadRefusal refusal (refusal_in f bytes) (conflict_of empty_content (wide_records (records_in f bytes).recs)))

  abbrev Told : Type 0
  Told = refusal_in f bytes ≡ None → IfSome (conflict_among_first 64 (wide_records (records_in f bytes).recs)) (λ u. answer ≡ Err (Profile (answers.Unlike u)))

-- a file of the 4.4BSD form has one histogram
none_told : (answer : Result Content ReadRefusal) (bytes : List ℕ) → Told answer bytes Bsd
none_told answer bytes accepted = search (arcs_widened, one_alone, nothing_told)

pub returns-in-Front-clause-refusal : goal.returns-in-Front-clause-refusal
returns-in-Front-clause-refusal c = λ bytes stands.
    let p = subst (λ (r : FileReader). StandsFor bytes r) c.in-Front.is stands in
    short_refused bytes p.1 ∙ ap (λ (n : ℕ). Some (Short n)) (sym (c.len.ensures.len ∙ ap length p.0))

pub into_profile-requires : goal.into_profile-requires
into_profile-requires c = fits_bsd c.in-Bsd.is c.requires.fits

pub returns-in-Bsd-clause-accepted : goal.returns-in-Bsd-clause-accepted
returns-in-Bsd-clause-accepted c = of_bsd c.in-Bsd.is (Accepted c.into_profile.result) c.into_profile.ensures.accepted

pub returns-in-Bsd-clause-like : goal.returns-in-Bsd-clause-like
returns-in-Bsd-clause-like c = of_bsd c.in-Bsd.is (Like c.into_profile.result) c.into_profile.ensures.like

pub returns-in-Bsd-clause-content : goal.returns-in-Bsd-clause-content
returns-in-Bsd-clause-content c = of_bsd c.in-Bsd.is (HasContent c.into_profile.result) c.into_profile.ensures.content

pub returns-in-Bsd-clause-refusal : goal.returns-in-Bsd-clause-refusal
returns-in-Bsd-clause-refusal c = of_bsd c.in-Bsd.is (Refused c.into_profile.result) c.into_profile.ensures.refusal

pub into_profile-requires-in-Gnu : goal.into_profile-requires-in-Gnu
into_profile-requires-in-Gnu c = fits_gnu c.in-Gnu.is c.requires.fits

pub returns-in-Gnu-clause-accepted : goal.returns-in-Gnu-clause-accepted
returns-in-Gnu-clause-accepted c = of_gnu c.in-Gnu.is (Accepted c.into_profile-in-Gnu.result) c.into_profile-in-Gnu.ensures.accepted

pub returns-in-Gnu-clause-like : goal.returns-in-Gnu-clause-like
returns-in-Gnu-clause-like c = of_gnu c.in-Gnu.is (Like c.into_profile-in-Gnu.result) c.into_profile-in-Gnu.ensures.like

pub returns-in-Gnu-clause-content : goal.returns-in-Gnu-clause-content
returns-in-Gnu-clause-content c = of_gnu c.in-Gnu.is (HasContent c.into_profile-in-Gnu.result) c.into_profile-in-Gnu.ensures.content

pub returns-in-Gnu-clause-refusal : goal.returns-in-Gnu-clause-refusal
returns-in-Gnu-clause-refusal c = of_gnu c.in-Gnu.is (Refused c.into_profile-in-Gnu.result) c.into_profile-in-Gnu.ensures.refusal

pub returns-in-Front-clause-told : goal.returns-in-Front-clause-told
returns-in-Front-clause-told c = λ bytes stands accepted.
    let p = subst (λ (r : FileReader). StandsFor bytes r) c.in-Front.is stands in
    let same : Some (Short (length bytes)) ≡ None = sym (short_refused bytes p.1) ∙ accepted in
    absurd (cc)

pub returns-in-Bsd-clause-told : goal.returns-in-Bsd-clause-told
returns-in-Bsd-clause-told c = of_bsd c.in-Bsd.is (Told c.into_profile.result) (λ bytes stands. none_told c.into_profile.result bytes)

pub returns-in-Gnu-clause-told : goal.returns-in-Gnu-clause-told
returns-in-Gnu-clause-told c = of_gnu c.in-Gnu.is (Told c.into_profile-in-Gnu.result) c.into_profile-in-Gnu.ensures.told
