use Rattle.std.proofs.Common.{◌+◌, ◌++◌, ℕ, replicate, ◌∙◌, ap}
use Rattle.demo_elf.specs.Elf.{back_text, names_text, padding_of, section_headers}
use Rattle.demo_elf.proofs.TextLemmas.{three_parts}
use Rattle.demo_elf.proofs.elf.put_back.Goals as goal

pub returns : goal.returns
unfolding back_text
returns c =
    let p = c.args.parts in
    let start = c.args.bytes.now.items in
    let headers = section_headers p.words p.symbols p.strings in
    let padding = c.padding_of.ensures ∙ ap (λ (n : ℕ). padding_of (n + 33)) c.names_at.ensures in
    three_parts start names_text (replicate c.padding_of.result 0) headers _ _ _ c.in_ok-put_names.ensures c.in_ok-put_zeros.ensures c.in_ok-put_section_headers.ensures
    ∙ ap (λ (n : ℕ). start ++ (names_text ++ replicate n 0 ++ headers)) padding
