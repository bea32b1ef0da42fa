-- The records of profile files, and what these add up to.
use Rattle.std.specs.Prelude.{ℕ, List}
use Rattle.std.specs.List.{flat_map}
use Rattle.gmon_data.specs.Content.{Content, WideRec, content_of, wide_records}
use Rattle.gmon_files.specs.Forms.{file_records}

-- the records of a profile file
abbrev pub records_of : List ℕ → List WideRec
records_of bytes = wide_records (file_records bytes).recs

-- the profile that files add up to
abbrev pub total_of : (ℕ → List ℕ) → List ℕ → Content
total_of contents words = content_of (flat_map (λ word. records_of (contents word)) words)
