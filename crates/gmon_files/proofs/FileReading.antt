-- A profile file's form, and its bytes as they come.
use Rattle.std.proofs.Common.{◌≡◌, ℕ, ◌<◌, ◌≤◌, List, ◌++◌, length, Some, None, Result, Ok, Err, sym, ap, subst, ◌∙◌, if◌then◌else◌, arith}
use Rattle.std.specs.Prelude.{bytes_eq, codes, IfOk}
use Rattle.std.proofs.lemmas.List.{take-append-le}
use Rattle.gp_base.specs.Bytes.{IsBytes}
use Rattle.gp_base.specs.declared.records.Form.{Form}
use Rattle.gp_base.specs.declared.records.Form.TheVariants.{Bsd, Gnu}
use Rattle.host_port.specs.Outside.{Outside}
use Rattle.host_port.specs.declared.whole_file.LoadRefusal.{LoadRefusal}
use Rattle.gp_base.specs.declared.refusal.GmonRefusal.TheVariants.{Short}
use Rattle.gmon_bsd.proofs.FieldLemmas.{spelled_of as bsd_spelled}
use Rattle.gmon_gnu.proofs.MeaningLemmas.{spelled_of as gnu_spelled}
use Rattle.gmon_files.specs.declared.file_reader.FileReader.{FileReader}
use Rattle.gmon_files.specs.declared.file_reader.FileReader.TheVariants as reader
use Rattle.gmon_bsd.specs.Fed as bsd
use Rattle.gmon_gnu.specs.Fed as gnu
use Rattle.gmon_bsd.specs.Adding as adding_bsd
use Rattle.gmon_gnu.specs.Adding as adding_gnu
use Rattle.gmon_data.specs.Content.{IsWithin, empty_content, wide_records, with_records}
use Rattle.gmon_files.specs.FileRead.{FitsProfile, StandsFor, len_of, IsFed, IsReadFrom}
use Rattle.gmon_files.specs.Forms.{form_of, file_records, file_refusal, records_in, refusal_in, SpellsIn, FileSpells}

pub form_goes_on : (bytes piece : List ℕ) → 4 ≤ length bytes → form_of (bytes ++ piece) ≡ form_of bytes
unfolding form_of
form_goes_on bytes piece long = ap (λ (v : List ℕ). if bytes_eq v (codes "gmon") then Gnu else Bsd) (take-append-le 4 bytes piece long)

-- a file that ends before its first four bytes
pub short_refused : (bytes : List ℕ) → length bytes < 4 → refusal_in (form_of bytes) bytes ≡ Some (Short (length bytes))
short_refused bytes few = grind arith

-- a file that isn't refused spells what its form reads
pub accepted_spelled : (bytes : List ℕ) → IsBytes bytes → file_refusal bytes ≡ None → FileSpells bytes (file_records bytes)
accepted_spelled bytes are none = by (form_of bytes) none
  where
    by : (form : Form) → refusal_in form bytes ≡ None → SpellsIn form bytes (records_in form bytes)
    by Bsd none = bsd_spelled bytes are none
    by Gnu none = gnu_spelled bytes are none

pub file_spelled : (bytes : List ℕ) (r : FileReader) → StandsFor bytes r → file_refusal bytes ≡ None → FileSpells bytes (file_records bytes)
file_spelled bytes (reader.Front front) s none = absurd (let e : Some (Short (length bytes)) ≡ None = sym (short_refused bytes s.1) ∙ none in cc)
file_spelled bytes (reader.Bsd r) s none = accepted_spelled bytes s.0.are_bytes none
file_spelled bytes (reader.Gnu r) s none = accepted_spelled bytes s.0.are_bytes none

-- ---- what holds of what a form's reader stands for holds of the file

pub of_bsd : {r : FileReader} {b : bsd.Kept} → r ≡ reader.Bsd b → (P : List ℕ → Form → Type 0) → ((bytes : List ℕ) → bsd.StandsFor bytes b → P bytes Bsd)
    → (bytes : List ℕ) → StandsFor bytes r → P bytes (form_of bytes)
of_bsd is P known bytes stands = let p = subst (λ (x : FileReader). StandsFor bytes x) is stands in subst (P bytes) (sym p.1) (known bytes p.0)

pub of_gnu : {r : FileReader} {g : gnu.Kept} → r ≡ reader.Gnu g → (P : List ℕ → Form → Type 0) → ((bytes : List ℕ) → gnu.StandsFor bytes g → P bytes Gnu)
    → (bytes : List ℕ) → StandsFor bytes r → P bytes (form_of bytes)
of_gnu is P known bytes stands = let p = subst (λ (x : FileReader). StandsFor bytes x) is stands in subst (P bytes) (sym p.1) (known bytes p.0)

abbrev Fits : List ℕ → Form → Type 0
Fits bytes f = refusal_in f bytes ≡ None → IsWithin (with_records (wide_records (records_in f bytes).recs) empty_content)

pub fits_bsd : {r : FileReader} {b : bsd.Kept} → r ≡ reader.Bsd b → FitsProfile r → adding_bsd.FitsProfile b
fits_bsd is fits = let p = subst (λ (x : FileReader). StandsFor fits.0 x) is fits.1 in (fits.0, p.0, subst (Fits fits.0) p.1 fits.2)

pub fits_gnu : {r : FileReader} {g : gnu.Kept} → r ≡ reader.Gnu g → FitsProfile r → adding_gnu.FitsProfile g
fits_gnu is fits = let p = subst (λ (x : FileReader). StandsFor fits.0 x) is fits.1 in (fits.0, p.0, subst (Fits fits.0) p.1 fits.2)

-- ---- what a reader that stands for bytes keeps of them

pub len_fed : (bytes : List ℕ) (r : FileReader) → StandsFor bytes r → len_of r ≡ length bytes
len_fed bytes (reader.Front front) s = ap length s.0
len_fed bytes (reader.Bsd r) s = s.0.len
len_fed bytes (reader.Gnu r) s = s.0.len

pub is_fed : (bytes : List ℕ) (r : FileReader) → StandsFor bytes r → IsFed r
is_fed bytes (reader.Front front) s = subst (λ (v : List ℕ). length v < 4) (sym s.0) s.1
is_fed bytes (reader.Bsd r) s = tt
is_fed bytes (reader.Gnu r) s = tt

pub all_fed : (name : List ℕ) (limit : ℕ) (old new : Outside) (read : Result (FileReader × ℕ) LoadRefusal) → IsReadFrom name limit old new read → IfOk read (λ pair. IsFed pair.0)
all_fed name limit old new (Ok pair) r = is_fed r.0 pair.0 r.2
all_fed name limit old new (Err refusal) r = tt
