use Rattle.std.proofs.Common.{ℕ, ◌+◌, ◌*◌, List, [], ◌∷◌, ◌++◌, map, sym, ap, ◌∙◌, arith}
use Rattle.std.specs.List.{range_with_len}
use Rattle.std.proofs.lemmas.List.FromFn.{map-range_with_len_more}
use Rattle.elf32_syms.specs.declared.sections.Section.{Section}
use Rattle.elf32_syms.specs.Sections.{section_at, sections_of}
use Rattle.elf32_syms.proofs.sections.read_sections.Goals as goal

pub loop-index-preserved : goal.loop-index-preserved
loop-index-preserved c =
    let i = c.loop-index.index in
    let at : ℕ → Section = λ k. section_at c.args.bytes.now (c.args.header.now.sections_at + 40 * k) in
    c.in_ok-push.ensures.items
    ∙ ap (λ (xs : List Section). xs ++ c.section_at.result ∷ []) c.loop-index.invariant
    ∙ ap (λ (s : Section). map at (range_with_len 0 i) ++ s ∷ []) c.section_at.ensures
    ∙ sym (map-range_with_len_more at 0 i i (omega arith))

pub returns : goal.returns
unfolding sections_of
returns c = grind arith
