-- What is known of every image that is accepted.
use Rattle.std.specs.Prelude.{◌≡◌, ℕ, List, length, None}
use Rattle.elf32_syms.specs.Image.{IsWithinLimits, image_of}
use Rattle.elf32_syms.specs.Refusals.{elf_refusal}

-- the image of a file that isn't refused is within the limits, and its symbols are in order and apart
abbrev pub AcceptedImagesAreWithinLimits : Type 0
AcceptedImagesAreWithinLimits = (bytes : List ℕ) → elf_refusal bytes ≡ None → IsWithinLimits (length bytes) (image_of bytes)
