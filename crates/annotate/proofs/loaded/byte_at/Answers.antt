use Rattle.std.proofs.Common.{◌+◌, ◌≤◌, length, sym, ◌∙◌}
use Rattle.elf32_syms.specs.declared.image.Segment.{Segment}
use Rattle.annotate.specs.Loaded.{fills}
use Rattle.annotate.proofs.LoadedLemmas.{last_is_one}
use Rattle.annotate.proofs.loaded.byte_at.Goals as goal

pub byte_of-requires-clause-inside : goal.byte_of-requires-clause-inside
byte_of-requires-clause-inside c =
    (last_is_one (λ (s : Segment). s.offset + s.filesz ≤ length c.args.bytes.now) (fills c.args.address) c.args.segments.now c.in-Some.segment c.requires (sym c.last_filled.ensures ∙ c.in-Some.is)).0

pub byte_of-requires-clause-filled : goal.byte_of-requires-clause-filled
byte_of-requires-clause-filled c =
    (last_is_one (λ (s : Segment). s.offset + s.filesz ≤ length c.args.bytes.now) (fills c.args.address) c.args.segments.now c.in-Some.segment c.requires (sym c.last_filled.ensures ∙ c.in-Some.is)).1
