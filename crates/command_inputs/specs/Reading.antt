-- How a command goes on once an input was read, or ends.
use Rattle.std.specs.Prelude.{◌≡◌, ℕ, ◌+◌, ◌-◌, ◌≤◌, List, [], ◌∷◌, Result, Err, MatchResult}
use Rattle.std.specs.List.{AllByRecursion}
use Rattle.std.specs.Global.{Vec}
use Rattle.gp_base.specs.declared.records.Records.{Records}
use Rattle.elf32_syms.specs.declared.image.Image.{Image}
use Rattle.host_port.specs.Act.{File}
use Rattle.host_port.specs.Outside.{Becomes, Outside}
use Rattle.courses.specs.declared.outcome.Fault.{Fault}
use Rattle.courses.specs.declared.outcome.Fault.TheVariants.{Unlike}
use Rattle.courses.specs.Course.{Course, unless}
use Rattle.gmon_data.specs.Content.{Content, WideRec, conflict_of, empty_content, wide_records, with_records}
use Rattle.gp_base.specs.declared.limits.TheConstants.{MAX_PROFILE_BYTES}
use Rattle.courses.specs.Answer.{program, profile_file, profile_in, profiles}
use Rattle.courses.specs.Contract.{WhereTold, Acted}
use Rattle.courses.specs.Standing.{MayStopHere, Stands}

-- The files stayed as they were, as far as they are told, and this holds of those that are told before and after.
pub record HasRead (old new : Outside) (P : List File → Type 0) : Type 0 where
  pub same : Becomes (λ d. d) old.disk new.disk
  pub told : WhereTold old new P

-- some records add up to the profile
abbrev pub IsAddedUp : Content → Type 0
IsAddedUp profile = (recs : List WideRec) × (profile ≡ with_records recs empty_content)

-- The program's file that a word names was read, and the command goes on with it; or it ended.
abbrev pub ReadsProgram : List (List ℕ) → ℕ → Outside → Outside → Result (Vec ℕ × Image) Fault → Type 0
ReadsProgram words word old new result =
    (start : Outside) (below : ℕ) (next : List ℕ → Image → Course) → below ≤ word → Stands words start old below [] (program word next)
    → MatchResult result (λ read. Stands words start new (word + 1) [] (next read.0.items read.1))
    (λ fault. ((contents : ℕ → List ℕ) (bytes : List ℕ) (image : Image) → MayStopHere contents (next bytes image)) → Acted words start new (Err fault))

-- before it does anything the command may still run out of memory
abbrev pub MayYetStop : (Content → Course) → Type 0
MayYetStop next = (contents : ℕ → List ℕ) (total : Content) → MayStopHere contents (next total)

-- what the command does with a file's records, by their profile
abbrev pub added_up : ℕ → (ℕ → Content → Course) → ℕ → Records → Course
added_up word next len records = unless (λ unlike. Unlike unlike word) (conflict_of empty_content (wide_records records.recs)) (next len (profile_in records))

-- A profile file was read and its records added up, and the command goes on with their profile; or it ended.
abbrev pub ReadsOne : List (List ℕ) → ℕ → ℕ → Outside → Outside → Result (Content × ℕ) Fault → Type 0
ReadsOne words word limit old new result =
    (start : Outside) (below : ℕ) (next : ℕ → Content → Course) → ((len : ℕ) → MayYetStop (next len)) → below ≤ word → Stands words start old below [] (profile_file word limit (added_up word next))
    → MatchResult result (λ read. Stands words start new (word + 1) [] (next read.1 read.0)) (λ fault. Acted words start new (Err fault))

-- One profile file more was read and added to the total, and the command goes on with those that are left.
abbrev pub AddsProfile : List (List ℕ) → ℕ → ℕ → Content → Content → Outside → Outside → Result ℕ Fault → Type 0
AddsProfile words word left total sum old new result =
    (start : Outside) (below : ℕ) (more : List ℕ) (next : Content → Course) → MayYetStop next → below ≤ word → Stands words start old below [] (profiles (word ∷ more) left total next)
    → MatchResult result (λ len. Stands words start new (word + 1) [] (profiles more (left - len) sum next)) (λ fault. Acted words start new (Err fault))

-- Profile files were read and added up, and the command goes on with their sum.
abbrev pub ReadsProfiles : List (List ℕ) → List ℕ → Outside → Outside → Result Content Fault → Type 0
ReadsProfiles words gmons old new result =
    (start : Outside) (below : ℕ) (next : Content → Course) → MayYetStop next → AllByRecursion (λ word. below ≤ word) gmons → Stands words start old below [] (profiles gmons MAX_PROFILE_BYTES empty_content next)
    → MatchResult result (λ total. (behind : ℕ) × Stands words start new behind [] (next total)) (λ fault. Acted words start new (Err fault))
