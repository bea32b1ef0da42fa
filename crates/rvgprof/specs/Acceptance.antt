-- What is accepted: where a command is carried out, unless memory runs out or the host fails.
use Rattle.std.specs.Prelude.{◌≡◌, ℕ, ◌≤◌, List, ◌∷◌, ◌++◌, length, Bool, true, false, Option, Some, None, ⊤}
use Rattle.std.specs.List.{AllByRecursion, flat_map, sum_by}
use Rattle.gp_base.specs.declared.limits.TheConstants.{MAX_PROFILE_BYTES, MAX_ELF_BYTES}
use Rattle.elf32_syms.specs.Refusals.{elf_refusal}
use Rattle.elf32_syms.specs.Image.{image_of}
use Rattle.settings.specs.declared.setup.Setup.{Setup}
use Rattle.gmon_data.specs.Content.{Content, WideRec, content_of, conflict_of, empty_content}
use Rattle.profile_sum.specs.Sum.{clash_of}
use Rattle.demo_elf.specs.Elf.{demo_program}
use Rattle.prof_machine.specs.Start.{start_refusal}
use Rattle.command_words.specs.declared.words.Command.{Command}
use Rattle.command_words.specs.declared.words.Command.TheVariants.{Show, Syms, Run, Sum, Report, Profile, Demo, Annotate, Folded, Help, Version}
use Rattle.gmon_files.specs.Forms.{file_refusal}
use Rattle.courses.specs.Answer.{Chosen, chosen_by, chosen_sources, wide_step}
use Rattle.rvgprof.specs.RunFile.{reported_profile}
use Rattle.command_inputs.specs.Totals.{records_of, total_of}

-- a program's file is within its limit and isn't refused
pub record IsProgramFile (bytes : List ℕ) : Type 0 where
  pub limit : length bytes ≤ MAX_ELF_BYTES
  pub accepted : elf_refusal bytes ≡ None

-- and so is a profile file
pub record IsProfileFile (bytes : List ℕ) : Type 0 where
  pub limit : length bytes ≤ MAX_PROFILE_BYTES
  pub accepted : file_refusal bytes ≡ None

-- A file's histograms can be added up, and then added to those of the files before it.
pub record IsLike (before : List WideRec) (file : List WideRec) : Type 0 where
  pub itself : conflict_of empty_content file ≡ None
  pub others : clash_of (content_of before) (content_of file) ≡ None

-- files by the words that name them: they are small enough together, none is refused, and each is like those before it
pub record AreProfileFiles (contents : ℕ → List ℕ) (words : List ℕ) : Type 0 where
  pub limit : sum_by (λ word. length (contents word)) words ≤ MAX_PROFILE_BYTES
  pub accepted : AllByRecursion (λ word. file_refusal (contents word) ≡ None) words
  pub alike : (before : List ℕ) (word : ℕ) (after : List ℕ) → words ≡ before ++ word ∷ after
      → IsLike (flat_map (λ earlier. records_of (contents earlier)) before) (records_of (contents word))

-- a run of a program isn't refused
abbrev pub Starts : List ℕ → Setup → Type 0
Starts bytes setup = start_refusal (image_of bytes) setup ≡ None

-- with `--exact`, no step of the exact times is too wide
abbrev pub AreNarrow : Chosen → List ℕ → Content → Type 0
AreNarrow chosen program total = wide_step chosen.exact (chosen_sources chosen (image_of program) total) ≡ None

-- The words have a reading, and what its command needs of its inputs holds.
abbrev pub IsAccepted : List (List ℕ) → (ℕ → List ℕ) → Option Command → Type 0
IsAccepted words contents None = ⊥
IsAccepted words contents (Some (Show gmon)) = IsProfileFile (contents gmon)
IsAccepted words contents (Some (Syms elf)) = IsProgramFile (contents elf)
IsAccepted words contents (Some (Sum out gmons)) = AreProfileFiles contents gmons
IsAccepted words contents (Some (Report elf gmons selection)) = IsProgramFile (contents elf) × AreProfileFiles contents gmons × AreNarrow (chosen_by words selection) (contents elf) (total_of contents gmons)
IsAccepted words contents (Some (Run elf gmon form memory setup)) = IsProgramFile (contents elf) × Starts (contents elf) setup
IsAccepted words contents (Some (Profile elf gmon form memory setup selection)) = IsProgramFile (contents elf) × Starts (contents elf) setup × AreNarrow (chosen_by words selection) (contents elf) (reported_profile (contents elf) setup)
IsAccepted words contents (Some (Demo functions elf setup)) = (elf_refusal (demo_program functions) ≡ None) × Starts (demo_program functions) setup
IsAccepted words contents (Some (Annotate elf gmons)) = IsProgramFile (contents elf) × AreProfileFiles contents gmons
IsAccepted words contents (Some (Folded elf inclusive setup)) = IsProgramFile (contents elf) × Starts (contents elf) setup
IsAccepted words contents (Some Help) = ⊤
IsAccepted words contents (Some Version) = ⊤

-- whether a command starts a run
abbrev pub starts_run : Option Command → Bool
starts_run (Some (Run elf gmon form memory setup)) = true
starts_run (Some (Profile elf gmon form memory setup selection)) = true
starts_run (Some (Demo functions elf setup)) = true
starts_run (Some (Folded elf inclusive setup)) = true
starts_run command = false

-- whether a command does all its acts at once, so that memory runs out before the first of them
abbrev pub acts_at_once : Option Command → Bool
acts_at_once (Some (Show gmon)) = true
acts_at_once (Some (Syms elf)) = true
acts_at_once (Some (Run elf gmon form memory setup)) = true
acts_at_once (Some (Sum out gmons)) = true
acts_at_once (Some (Annotate elf gmons)) = true
acts_at_once (Some Help) = true
acts_at_once (Some Version) = true
acts_at_once command = false

-- whether it may answer want of memory
abbrev pub may_want_memory : Option Command → Bool
may_want_memory None = false
may_want_memory (Some Help) = false
may_want_memory (Some Version) = false
may_want_memory command = true
