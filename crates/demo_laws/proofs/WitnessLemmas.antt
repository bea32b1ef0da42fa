-- The file that is written out is read by evaluating its definitions.
use Rattle.std.proofs.Common.{◌≡◌, ◌≤◌, None, refl, ap, ◌∙◌, arith}
use Rattle.elf32_syms.specs.Header.{header_of}
use Rattle.elf32_syms.specs.Image.{candidates_of, image_of, symbols_of}
use Rattle.elf32_syms.specs.Names.{name_at, name_ends}
use Rattle.elf32_syms.specs.Refusals.{count_refusal, elf_refusal, header_refusal, kind_refusal, names_refusal, segments_refusal, symbols_refusal, table_refusal, tables_refusal, text_refusal}
use Rattle.elf32_syms.specs.Sections.{is_executable, section_at, sections_of, strings_of, table_of, text_high, text_low}
use Rattle.elf32_syms.specs.Segments.{segment_at, segments_of}
use Rattle.elf32_syms.specs.Symbols.{entry_at, fitting_entries, is_candidate, kept_at, kept_entries, ranks_before}
use Rattle.elf32_syms.specs.declared.image.Image.{Image}
use Rattle.settings.specs.declared.setup.Setup.{Setup}
use Rattle.prof_machine.specs.Start.{base_of, program_end_of, start_refusal}
use Rattle.demo_laws.specs.Witness.{WitnessHasImage, WitnessIsAccepted, WitnessStarts, witness_file, witness_image}

pub witness_accepted : WitnessIsAccepted
unfolding count_refusal elf_refusal header_of header_refusal kind_refusal names_refusal segments_refusal symbols_refusal table_refusal tables_refusal text_refusal is_executable section_at sections_of strings_of table_of text_high text_low segment_at segments_of entry_at fitting_entries is_candidate kept_at kept_entries ranks_before name_at name_ends witness_file
witness_accepted = refl

pub witness_read : WitnessHasImage
unfolding header_of image_of candidates_of symbols_of is_executable section_at sections_of strings_of table_of text_high text_low segment_at segments_of entry_at fitting_entries is_candidate kept_at kept_entries ranks_before name_at name_ends witness_file witness_image
witness_read = refl

image_starts : (setup : Setup) → 4 ≤ setup.ram_mib → setup.ram_mib ≤ 256 → start_refusal witness_image setup ≡ None
unfolding start_refusal base_of program_end_of witness_image
image_starts setup least most = grind arith

pub witness_starts : WitnessStarts
witness_starts setup least most = ap (λ (image : Image). start_refusal image setup) witness_read ∙ image_starts setup least most
