-- What is known of the demo program of every size: its file is accepted, what its image is, and that a run of it starts.
use Rattle.std.specs.Prelude.{◌≡◌, ℕ, ◌+◌, ◌*◌, ◌≤◌, [], ◌∷◌, length, None, Some}
use Rattle.gp_base.specs.declared.limits.TheConstants.{MAX_ELF_BYTES}
use Rattle.elf32_syms.specs.declared.image.Image.{Image}
use Rattle.elf32_syms.specs.Refusals.{elf_refusal}
use Rattle.elf32_syms.specs.Image.{image_of}
use Rattle.settings.specs.declared.setup.Setup.{Setup}
use Rattle.demo_elf.specs.Code.{demo_symbols}
use Rattle.demo_elf.specs.Elf.{demo_program}
use Rattle.prof_machine.specs.Start.{start_refusal}
use Rattle.demo_laws.specs.Programs.{symbols_in_row}

-- the file of the demo program is small enough, and isn't refused
pub record IsDemoFile (n : ℕ) : Type 0 where
  pub limit : length (demo_program n) ≤ MAX_ELF_BYTES
  pub accepted : elf_refusal (demo_program n) ≡ None

-- the bytes of the text of n functions: `_start` and `_mcount` have 32 each, and a function has 256
abbrev pub text_bytes : ℕ → ℕ
text_bytes n = 64 + 256 * n

-- The image of the demo program: it begins at the beginning of its text, which is the one segment; each of its symbols is
-- kept; and `_mcount` is the hook, at offset 32.
unfoldable pub demo_image : ℕ → Image
demo_image n = record {
  entry = 0x10000;
  segments = record { addr = 0x10000; offset = 4096; filesz = text_bytes n; memsz = text_bytes n } ∷ [];
  text = record { low = 0x10000; high = 0x10000 + text_bytes n };
  symbols = symbols_in_row (0x10000 + text_bytes n) (demo_symbols n);
  mcount = Some 0x10020;
  moncontrol = None;
}

-- it is accepted, of up to 2,000 functions
abbrev pub DemoIsAccepted : Type 0
DemoIsAccepted = (n : ℕ) → n ≤ 2000 → IsDemoFile n

-- it has this image
abbrev pub DemoHasImage : Type 0
DemoHasImage = (n : ℕ) → n ≤ 2000 → image_of (demo_program n) ≡ demo_image n

-- it has two symbols more than functions
abbrev pub DemoHasSymbols : Type 0
DemoHasSymbols = (n : ℕ) → n ≤ 2000 → length (image_of (demo_program n)).symbols ≡ n + 2

-- a run of it starts, with any memory of 4 to 256 MiB
abbrev pub DemoStarts : Type 0
DemoStarts = (n : ℕ) (setup : Setup) → n ≤ 2000 → 4 ≤ setup.ram_mib → setup.ram_mib ≤ 256 → start_refusal (image_of (demo_program n)) setup ≡ None
