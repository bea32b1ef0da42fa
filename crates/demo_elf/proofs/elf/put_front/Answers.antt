use Rattle.std.proofs.Common.{◌++◌, ℕ, replicate, length, ◌∙◌, ap}
use Rattle.demo_elf.specs.Elf.{front_text, file_header, program_header, words_text, headers_at}
use Rattle.demo_elf.proofs.TextLemmas.{four_parts}
use Rattle.demo_elf.proofs.elf.put_front.Goals as goal

pub returns : goal.returns
unfolding front_text
returns c =
    let p = c.args.parts in
    let start = c.args.bytes.now.items in
    let text = words_text c.args.words.now in
    let zeros = replicate 4012 0 in
    let headers = c.headers_at.ensures ∙ ap (λ (n : ℕ). headers_at n p.symbols p.strings) c.requires.text in
    four_parts start (file_header c.headers_at.result) (program_header p.words) zeros text _ _ _ _
    c.in_ok-put_file_header.ensures c.in_ok-put_program_header.ensures c.in_ok-put_zeros.ensures c.in_ok-put_words.ensures
    ∙ ap (λ (n : ℕ). start ++ (file_header n ++ program_header p.words ++ zeros ++ text)) headers
    ∙ ap (λ (n : ℕ). start ++ (file_header (headers_at (length c.args.words.now) p.symbols p.strings) ++ program_header n ++ zeros ++ text)) c.requires.text
