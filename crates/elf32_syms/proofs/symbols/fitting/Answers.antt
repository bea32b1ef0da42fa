use Rattle.std.proofs.Common.{◌≡◌, ◌+◌, List, [], ◌∷◌, ◌++◌, map, sym, ap, ◌∙◌, arith, cond, Bool}
use Rattle.std.specs.List.{range_with_len, filter}
use Rattle.std.proofs.lemmas.List.{append-nil}
use Rattle.std.proofs.lemmas.List.FromFn.{filter_of_map_range_with_len_more}
use Rattle.elf32_syms.specs.declared.symbols.Entry.{Entry}
use Rattle.elf32_syms.specs.Symbols.{entry_at, is_candidate, fitting_entries}
use Rattle.elf32_syms.proofs.symbols.fitting.Goals as goal
use Rattle.elf32_syms.proofs.symbols.fitting.Goals.{then-fits+in_ok-push, else-fits}

pub loop-number-preserved : goal.loop-number-preserved
loop-number-preserved c =
    let i = c.loop-number.number in
    let e = c.entry_at-entry.result in
    let before : List Entry = filter (is_candidate c.args.sections.now) (map (entry_at c.args.table.now) (range_with_len 0 i)) in
    let more : before ++ cond c.fits.result (e ∷ []) [] ≡ filter (is_candidate c.args.sections.now) (map (entry_at c.args.table.now) (range_with_len 0 (i + 1))) =
    ap (λ (b : Bool). before ++ cond b (e ∷ []) []) c.fits.ensures
    ∙ ap (λ (x : Entry). before ++ cond (is_candidate c.args.sections.now x) (x ∷ []) []) c.entry_at-entry.ensures
    ∙ sym (filter_of_map_range_with_len_more (is_candidate c.args.sections.now) (entry_at c.args.table.now) 0 i i (omega arith)) in
    elim c.if-fits.branch [
      | then-fits+in_ok-push w ↦
          ap (λ v. v.items) w.entries-is ∙ w.in_ok-push.ensures.items ∙ ap (λ (xs : List Entry). xs ++ e ∷ []) c.loop-number.invariant
          ∙ ap (λ (b : Bool). before ++ cond b (e ∷ []) []) (sym w.if-fits.true) ∙ more
      | else-fits w ↦
          ap (λ v. v.items) w.entries-is ∙ c.loop-number.invariant ∙ sym (append-nil before)
          ∙ ap (λ (b : Bool). before ++ cond b (e ∷ []) []) (sym w.if-fits.false) ∙ more
    ]

pub returns : goal.returns
unfolding fitting_entries
returns c = grind arith
