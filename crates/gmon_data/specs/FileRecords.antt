-- What a reader of a profile file makes a profile of, in whatever form the file is.
use Rattle.std.specs.Prelude.{◌≡◌, ℕ, List, Option, None}
use Rattle.gp_base.specs.declared.records.Records.{Records}
use Rattle.gp_base.specs.declared.refusal.GmonRefusal.{GmonRefusal}
use Rattle.gmon_data.specs.Content.{WideRec, IsWithin, empty_content, wide_records, with_records}

-- what bytes spell in a form, as records of a profile
abbrev pub spelled_in : (List ℕ → Records) → List ℕ → List WideRec
spelled_in records bytes = wide_records (records bytes).recs

-- There are bytes of which something holds, that are refused, or spell records whose profile stays within its limits.
abbrev pub FitsForSome : (List ℕ → Type 0) → (List ℕ → Option GmonRefusal) → (List ℕ → List WideRec) → Type 0
FitsForSome holds refusal spelled = (bytes : List ℕ) × holds bytes × (refusal bytes ≡ None → IsWithin (with_records (spelled bytes) empty_content))
