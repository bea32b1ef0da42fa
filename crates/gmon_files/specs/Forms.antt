-- The two forms of a profile file: which one its bytes are of, and which records they spell.
use Rattle.std.specs.Prelude.{◌≡◌, ℕ, None, List, Option, take, bytes_eq, codes, if◌then◌else◌}
use Rattle.std.specs.List.{All}
use Rattle.gp_base.specs.Bytes.{IsBytes}
use Rattle.gp_base.specs.declared.records.Form.{Form}
use Rattle.gp_base.specs.declared.records.Form.TheVariants.{Bsd, Gnu}
use Rattle.gp_base.specs.declared.records.Records.{Records}
use Rattle.gp_base.specs.declared.refusal.GmonRefusal.{GmonRefusal}
use Rattle.gmon_data.specs.Content.{HasSpan, wide_records}
use Rattle.gmon_bsd.specs.Grammar.{BsdSpells}
use Rattle.gmon_bsd.specs.Reading.{bsd_refusal, bsd_records}
use Rattle.gmon_gnu.specs.Grammar.{GnuSpells}
use Rattle.gmon_gnu.specs.Reading.{gnu_refusal, gnu_records}

-- the form of a profile file: one of the GNU form begins with `gmon`
unfoldable pub form_of : List ℕ → Form
form_of bytes = if bytes_eq (take 4 bytes) (codes "gmon") then Gnu else Bsd

-- the first fault of a file of a form
abbrev pub refusal_in : Form → List ℕ → Option GmonRefusal
refusal_in Bsd bytes = bsd_refusal bytes
refusal_in Gnu bytes = gnu_refusal bytes

-- the records of a file of a form
abbrev pub records_in : Form → List ℕ → Records
records_in Bsd bytes = bsd_records bytes
records_in Gnu bytes = gnu_records bytes

abbrev pub file_refusal : List ℕ → Option GmonRefusal
file_refusal bytes = refusal_in (form_of bytes) bytes

abbrev pub file_records : List ℕ → Records
file_records bytes = records_in (form_of bytes) bytes

-- the bytes spell the records in a form
abbrev pub SpellsIn : Form → List ℕ → Records → Type 0
SpellsIn Bsd bytes r = BsdSpells bytes r
SpellsIn Gnu bytes r = GnuSpells bytes r

-- or in the form that they tell
abbrev pub FileSpells : List ℕ → Records → Type 0
FileSpells bytes r = SpellsIn (form_of bytes) bytes r

-- in a file that isn't refused, the counters of each histogram that has any share a range that isn't empty
abbrev pub RecordsHaveSpans : Type 0
RecordsHaveSpans = (bytes : List ℕ) → IsBytes bytes → file_refusal bytes ≡ None → All HasSpan (wide_records (file_records bytes).recs)
