-- An input was loaded, and what it holds is accepted or not.
use Rattle.std.proofs.Common.{◌≡◌, ℕ, ◌+◌, ◌≤◌, false, List, [], length, Option, Some, None, Ok, Err, inl, refl, sym, subst}
use Rattle.std.specs.Prelude.{IfSome}
use Rattle.std.specs.Global.{Vec}
use Rattle.gp_base.specs.declared.limits.TheConstants.{MAX_ELF_BYTES}
use Rattle.gp_base.specs.declared.records.Records.{Records}
use Rattle.gp_base.specs.declared.refusal.GmonRefusal.{GmonRefusal}
use Rattle.gp_base.specs.declared.refusal.GmonRefusal.TheVariants as refusals
use Rattle.elf32_syms.specs.declared.image.Image.{Image}
use Rattle.elf32_syms.specs.declared.refusal.ElfRefusal.{ElfRefusal}
use Rattle.elf32_syms.specs.declared.refusal.ElfRefusal.TheVariants as elf
use Rattle.elf32_syms.specs.Image.{image_of}
use Rattle.elf32_syms.specs.Refusals.{elf_refusal, header_refusal, IsRefusal as IsElfRefusal}
use Rattle.host_port.specs.Outside.{Outside}
use Rattle.host_port.specs.Load.{IsContent, Loads}
use Rattle.gmon_data.specs.Content.{Content, conflict_of, empty_content, with_records}
use Rattle.gmon_data.specs.Refusals.{IsReadRefusal}
use Rattle.gmon_data.specs.declared.refusal.ReadRefusal.{ReadRefusal}
use Rattle.gmon_data.specs.declared.refusal.ReadRefusal.TheVariants as reading
use Rattle.gmon_files.specs.FileRead.{spelled_records}
use Rattle.courses.specs.declared.outcome.Fault.TheVariants.{BadElf, BadProfile}
use Rattle.command_words.specs.Items.{nth_word}
use Rattle.host_port.specs.Act.{Act}
use Rattle.courses.specs.Course.{Course, Does, takes_no_memory, unless}
use Rattle.gmon_files.specs.Forms.{file_records, file_refusal}
use Rattle.courses.specs.Answer.{program, profile_file, elf_fault_of, profile_fault_of, read_fault_of}
use Rattle.courses.specs.Contract.{Acted}
use Rattle.courses.specs.Standing.{Stands, MayStopHere}
use Rattle.command_inputs.specs.Reading.{MayYetStop, added_up}
use Rattle.elf32_syms.proofs.HeaderLemmas.{behind_header}
use Rattle.command_inputs.proofs.Summing.{not_added, one_added}
use Rattle.courses.proofs.Standing.{loaded, may_stop_unless, no_memory, refuses, goes_on}

-- the program's file is refused
pub no_program : (words : List (List ℕ)) (start old new : Outside) (below word : ℕ) (next : List ℕ → Image → Course) (bytes : Vec ℕ) (refusal : ElfRefusal) → Stands words start old below [] (program word next) → below ≤ word
    → Loads (nth_word words word) MAX_ELF_BYTES old new (Ok bytes) → IsElfRefusal refusal (elf_refusal bytes.items) → IfSome (header_refusal bytes.items) (λ first. first ≡ refusal) → ((contents : ℕ → List ℕ) (bs : List ℕ) (image : Image) → MayStopHere contents (next bs image))
    → Acted words start new (Err (elf_fault_of refusal))
no_program words start old new below word next bytes elf.OutOfMemory s later loads due header may =
    let rest = next bytes.items (image_of bytes.items) in
    no_memory words start new (word + 1) [] (unless BadElf (elf_refusal bytes.items) rest)
    (loaded words start old new below word MAX_ELF_BYTES (λ bs. unless BadElf (elf_refusal bs) (next bs (image_of bs))) bytes.items s later loads)
    (λ contents. may_stop_unless BadElf (elf_refusal bytes.items) rest contents (behind_header bytes.items header) (may contents bytes.items (image_of bytes.items)))
no_program words start old new below word next bytes refusal s later loads due header may =
    refuses words start new (word + 1) [] BadElf (elf_refusal bytes.items) (next bytes.items (image_of bytes.items)) refusal
    (loaded words start old new below word MAX_ELF_BYTES (λ bs. unless BadElf (elf_refusal bs) (next bs (image_of bs))) bytes.items s later loads) due tt

-- it is accepted
pub a_program : (words : List (List ℕ)) (start old new : Outside) (below word : ℕ) (next : List ℕ → Image → Course) (bytes : Vec ℕ) (image : Image) → Stands words start old below [] (program word next) → below ≤ word
    → Loads (nth_word words word) MAX_ELF_BYTES old new (Ok bytes) → elf_refusal bytes.items ≡ None → image ≡ image_of bytes.items → Stands words start new (word + 1) [] (next bytes.items image)
a_program words start old new below word next bytes image s later loads accepted is =
    subst (λ (i : Image). Stands words start new (word + 1) [] (next bytes.items i)) (sym is)
    (goes_on words start new (word + 1) [] BadElf (elf_refusal bytes.items) (next bytes.items (image_of bytes.items))
    (loaded words start old new below word MAX_ELF_BYTES (λ bs. unless BadElf (elf_refusal bs) (next bs (image_of bs))) bytes.items s later loads) accepted)

-- the profile file is refused
pub no_profile : (words : List (List ℕ)) (start old new : Outside) (below word limit : ℕ) (next : ℕ → Records → Course) (bytes : List ℕ) (refusal : GmonRefusal) → Stands words start old below [] (profile_file word limit next) → below ≤ word
    → IsContent (nth_word words word) limit old new bytes → file_refusal bytes ≡ Some refusal → Acted words start new (Err (profile_fault_of refusal word))
no_profile words start old new below word limit next bytes refusals.OutOfMemory s later loads due =
    no_memory words start new (word + 1) [] (unless (λ r. BadProfile r word) (Some refusals.OutOfMemory) (next (length bytes) (file_records bytes)))
    (subst (λ (o : Option GmonRefusal). Stands words start new (word + 1) [] (unless (λ r. BadProfile r word) o (next (length bytes) (file_records bytes)))) due
    (loaded words start old new below word limit (λ bs. unless (λ r. BadProfile r word) (file_refusal bs) (next (length bs) (file_records bs))) bytes s later loads))
    (λ contents. (refl, refl))
no_profile words start old new below word limit next bytes refusal s later loads due =
    refuses words start new (word + 1) [] (λ r. BadProfile r word) (file_refusal bytes) (next (length bytes) (file_records bytes)) refusal
    (loaded words start old new below word limit (λ bs. unless (λ r. BadProfile r word) (file_refusal bs) (next (length bs) (file_records bs))) bytes s later loads) due tt

-- it is accepted
pub a_profile : (words : List (List ℕ)) (start old new : Outside) (below word limit : ℕ) (next : ℕ → Records → Course) (bytes : List ℕ) (records : Records) → Stands words start old below [] (profile_file word limit next) → below ≤ word
    → IsContent (nth_word words word) limit old new bytes → file_refusal bytes ≡ None → records ≡ file_records bytes → Stands words start new (word + 1) [] (next (length bytes) records)
a_profile words start old new below word limit next bytes records s later loads accepted is =
    subst (λ (r : Records). Stands words start new (word + 1) [] (next (length bytes) r)) (sym is)
    (goes_on words start new (word + 1) [] (λ r. BadProfile r word) (file_refusal bytes) (next (length bytes) (file_records bytes))
    (loaded words start old new below word limit (λ bs. unless (λ r. BadProfile r word) (file_refusal bs) (next (length bs) (file_records bs))) bytes s later loads) accepted)

-- what was read of it can't be added up
pub not_read : (words : List (List ℕ)) (start old new : Outside) (below word limit : ℕ) (next : ℕ → Content → Course) (bytes : List ℕ) (refusal : ReadRefusal) → ((len : ℕ) → MayYetStop (next len))
    → Stands words start old below [] (profile_file word limit (added_up word next)) → below ≤ word → IsContent (nth_word words word) limit old new bytes
    → IsReadRefusal refusal (file_refusal bytes) (conflict_of empty_content (spelled_records bytes)) → Acted words start new (Err (read_fault_of refusal word))
not_read words start old new below word limit next bytes (reading.File refusal) may s later loads due = search no_profile
not_read words start old new below word limit next bytes (reading.Profile refusal) may s later loads due =
    not_added words start new (word + 1) word next (length bytes) (file_records bytes) (may (length bytes))
    (a_profile words start old new below word limit (added_up word next) bytes (file_records bytes) s later loads due.0 refl) refusal due.1

-- it can
pub one_read : (words : List (List ℕ)) (start old new : Outside) (below word limit : ℕ) (next : ℕ → Content → Course) (bytes : List ℕ) (profile : Content) → ((len : ℕ) → MayYetStop (next len))
    → Stands words start old below [] (profile_file word limit (added_up word next)) → below ≤ word → IsContent (nth_word words word) limit old new bytes
    → file_refusal bytes ≡ None → conflict_of empty_content (spelled_records bytes) ≡ None → profile ≡ with_records (spelled_records bytes) empty_content → Stands words start new (word + 1) [] (next (length bytes) profile)
one_read words start old new below word limit next bytes profile may s later loads accepted like is =
    one_added words start new (word + 1) word next (length bytes) (file_records bytes) (may (length bytes))
    (a_profile words start old new below word limit (added_up word next) bytes (file_records bytes) s later loads accepted refl) profile like is

-- a program that is there couldn't be read
pub no_image : (words : List (List ℕ)) (old new : Outside) (bytes : List ℕ) (acts : List Act) (next : Course) (refusal : ElfRefusal) → Stands words old new 0 [] (unless BadElf (elf_refusal bytes) (Does acts next))
    → IsElfRefusal refusal (elf_refusal bytes) → elf_refusal bytes ≡ None → Acted words old new (Err (elf_fault_of refusal))
no_image words old new bytes acts next elf.OutOfMemory s due none =
    no_memory words old new 0 [] (unless BadElf (elf_refusal bytes) (Does acts next)) s
    (λ contents. may_stop_unless BadElf (elf_refusal bytes) (Does acts next) contents (subst (λ (o : Option ElfRefusal). IfSome o (λ r. takes_no_memory (BadElf r) ≡ false)) (sym none) tt) (inl refl, refl))
no_image words old new bytes acts next refusal s due none = refuses words old new 0 [] BadElf (elf_refusal bytes) (Does acts next) refusal s due tt
