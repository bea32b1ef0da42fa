-- Symbols in a row: one after the other, each with its end.
use Rattle.std.proofs.Common.{◌≡◌, ◌<◌, ◌≤◌, ℕ, zero, suc, ◌+◌, List, [], ◌∷◌, ◌++◌, length, take, drop, get_or, refl, ap, sym, ◌∙◌, arith}
use Rattle.std.proofs.lemmas.List.{take_more, drop_more, drop_all, take_all}
use Rattle.elf32_syms.specs.declared.image.Symbol.{Symbol}
use Rattle.elf32_syms.specs.declared.symbols.Entry.{Entry}
use Rattle.elf32_syms.specs.Symbols.{symbol_name}
use Rattle.elf32_syms.specs.Image.{in_a_row, end_before}

module _ (strings : List ℕ) (high : ℕ) where
  length_row : (es : List Entry) → length (in_a_row strings high es) ≡ length es
  length_row [] = refl
  length_row (e ∷ es) = ap suc (length_row es)

  -- the symbol of an entry, with the entries behind it
  abbrev symbol : Entry → List Entry → Symbol
  symbol e behind = record { addr = e.addr; end = end_before high behind; name = symbol_name strings e }

  row_at : (es : List Entry) (i : ℕ) (d : Symbol) (d' : Entry) → i < length es → get_or (in_a_row strings high es) i d ≡ symbol (get_or es i d') (drop (suc i) es)
  row_at [] i d d' h = absurd (omega arith)
  row_at (e ∷ es) zero d d' h = refl
  row_at (e ∷ es) (suc i) d d' h = row_at es i d d' (omega arith)

  -- the next symbol, or the end of the text
  pub end_inside : (es : List Entry) (i : ℕ) (d : Entry) → i + 1 < length es → (get_or es (i + 1) d).addr ≡ end_before high (drop (suc i) es)
  end_inside es i d h = grind (arith, drop_more)

  pub end_last : (es : List Entry) (i : ℕ) → length es ≤ i + 1 → high ≡ end_before high (drop (suc i) es)
  end_last es i h = sym (ap (end_before high) (drop_all (suc i) es (omega arith)))

  -- one symbol more
  pub row_more : (es : List Entry) (i end : ℕ) (name : List ℕ) (d : Entry) → i < length es → end ≡ end_before high (drop (suc i) es) → name ≡ symbol_name strings (get_or es i d)
      → take i (in_a_row strings high es) ++ record { addr = (get_or es i d).addr; end = end; name = name } ∷ [] ≡ take (i + 1) (in_a_row strings high es)
  row_more es i end name d h end_is name_is =
      let s : Symbol = record { addr = (get_or es i d).addr; end = end; name = name } in
      let same : s ≡ symbol (get_or es i d) (drop (suc i) es) = λ j. record { addr = (get_or es i d).addr; end = end_is j; name = name_is j } in
      let long : i < length (in_a_row strings high es) = omega (arith, length_row es) in
      ap (λ (x : Symbol). take i (in_a_row strings high es) ++ x ∷ []) (same ∙ sym (row_at es i s d h)) ∙ sym (take_more (in_a_row strings high es) i s long)

  pub row_all : (es : List Entry) (i : ℕ) → length es ≤ i → take i (in_a_row strings high es) ≡ in_a_row strings high es
  row_all es i h = take_all i (in_a_row strings high es) (omega (arith, length_row es))
