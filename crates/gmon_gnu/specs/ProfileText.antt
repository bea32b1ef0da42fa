-- The file of a profile.
use Rattle.std.specs.Prelude.{◌≡◌, ℕ, List, None}
use Rattle.gp_base.specs.declared.records.Records.{Records}
use Rattle.gp_base.specs.declared.records.Form.TheVariants.{Gnu}
use Rattle.gmon_data.specs.Content.{Content, IsProfile, content_of, wide_records}
use Rattle.gmon_gnu.specs.Fields.{magic, spare_bytes}
use Rattle.gmon_gnu.specs.Grammar.{gnu_spelling, GnuSpells}
use Rattle.gmon_gnu.specs.Reading.{gnu_refusal, gnu_records}
use Rattle.gmon_gnu.specs.Splitting.{profile_recs}

-- its histograms, its arcs and its block counts, each in the profile's order
unfoldable pub profile_text : Content → List ℕ
profile_text p = gnu_spelling magic spare_bytes (profile_recs p)

-- what that file says
abbrev pub profile_records : Content → Records
profile_records p = record { form = Gnu; recs = profile_recs p }

-- the file of every profile spells its pieces
abbrev pub ProfilesAreSpelled : Type 0
ProfilesAreSpelled = (p : Content) → IsProfile p → GnuSpells (profile_text p) (profile_records p)

-- the file is accepted, and what is read of it has the profile's content
abbrev pub IsReadBack : Content → Type 0
IsReadBack p = (gnu_refusal (profile_text p) ≡ None) × (content_of (wide_records (gnu_records (profile_text p)).recs) ≡ p)

-- so is that of every profile
abbrev pub ProfilesAreReadBack : Type 0
ProfilesAreReadBack = (p : Content) → IsProfile p → IsReadBack p
