-- What callers rely on in an accepted image.
use Rattle.std.proofs.Common.{◌≡◌, ◌<◌, ◌≤◌, ℕ, zero, suc, ◌+◌, ◌-◌, false, List, [], ◌∷◌, length, get_or, All, Option, Some, None, option_map, refl, arith}
use Rattle.std.specs.Option.{option_or}
use Rattle.std.specs.List.{find, filter_map, cons_option, range_with_len, AllAdjacentBelow}
use Rattle.std.proofs.lemmas.Bool.Decides.{nat_tests}
use Rattle.std.proofs.lemmas.List.Elements.{All-cons, All-nil}
use Rattle.gp_base.proofs.Searching.{find_none}
use Rattle.elf32_syms.specs.declared.refusal.ElfRefusal.TheVariants.{OutOfFile}
use Rattle.elf32_syms.specs.declared.image.Symbol.{Symbol}
use Rattle.elf32_syms.specs.declared.image.Segment.{Segment}
use Rattle.elf32_syms.specs.declared.image.Image.{Image}
use Rattle.elf32_syms.specs.declared.sections.Section.{Section}
use Rattle.elf32_syms.specs.declared.symbols.Entry.{Entry}
use Rattle.elf32_syms.specs.Sections.{sections_of, strings_of, table_of, text_low, text_high}
use Rattle.elf32_syms.specs.Segments.{segments_of, is_cut_off}
use Rattle.elf32_syms.specs.Symbols.{kept_at, kept_entries}
use Rattle.elf32_syms.specs.Refusals.{elf_refusal, header_refusal, segments_refusal, symbols_refusal, table_refusal, text_refusal}
use Rattle.elf32_syms.specs.Owners.{IsAscending}
use Rattle.elf32_syms.specs.Image.{candidates_of, image_of, in_a_row, symbols_of, IsWithinLimits}
use Rattle.elf32_syms.proofs.KeptLemmas.{kept_at_holds}
use Rattle.elf32_syms.proofs.TextLemmas.{text_limits}

-- the segments
segments_in_file : (bs : List ℕ) → segments_refusal bs ≡ None → All (λ (s : Segment). s.offset + s.filesz ≤ length bs) (segments_of bs)
unfolding segments_refusal
segments_in_file bs h k d below =
    let whole : is_cut_off (length bs) (get_or (segments_of bs) k d) ≡ false = find_none (is_cut_off (length bs)) (segments_of bs) (none_mapped (find (is_cut_off (length bs)) (segments_of bs)) h) k d below in
    grind (arith, nat_tests)
  where
    none_mapped : (o : Option Segment) → option_map (λ (s : Segment). OutOfFile s.offset) o ≡ None → o ≡ None
    none_mapped None h = refl
    none_mapped (Some s) h = cc

-- symbols in a row
abbrev InOrder : ℕ → ℕ → List Symbol → Type 0
InOrder low high [] = low ≤ high
InOrder low high (s ∷ ss) = (low ≤ s.addr) × (s.addr < s.end) × InOrder s.end high ss

lower : (low low' high : ℕ) (ss : List Symbol) → low' ≤ low → InOrder low high ss → InOrder low' high ss
lower low low' high [] h order = omega arith
lower low low' high (s ∷ ss) h order = let from = order.0 in (omega arith, order.1, order.2)

each_in_order : (low high : ℕ) (ss : List Symbol) → InOrder low high ss → All (λ (s : Symbol). s.addr < s.end) ss
each_in_order low high [] order = All-nil (λ (s : Symbol). s.addr < s.end)
each_in_order low high (s ∷ ss) order = All-cons (λ (s : Symbol). s.addr < s.end) s ss order.1 (each_in_order s.end high ss order.2)

apart_in_order : (low high : ℕ) (ss : List Symbol) → InOrder low high ss → AllAdjacentBelow (λ (s : Symbol) (next : Symbol). s.end ≤ next.addr) ss (length ss)
apart_in_order low high [] order = λ k d below. absurd (omega arith)
apart_in_order low high (s ∷ []) order = λ k d below. absurd (omega arith)
apart_in_order low high (s ∷ r ∷ rs) order = at (apart_in_order s.end high (r ∷ rs) order.2)
  where
    at : AllAdjacentBelow (λ (s : Symbol) (next : Symbol). s.end ≤ next.addr) (r ∷ rs) (suc (length rs)) → (k : ℕ) (d : Symbol) → k + 1 < suc (suc (length rs)) → (get_or (s ∷ r ∷ rs) k d).end ≤ (get_or (s ∷ r ∷ rs) (k + 1) d).addr
    at rest zero d below = order.2.0
    at rest (suc k) d below = grind arith

module _ (strings : List ℕ) (high : ℕ) where
  rows_in_order : (f : ℕ → Option Entry) → ((a : ℕ) (e : Entry) → f a ≡ Some e → e.addr ≡ a) → (n a : ℕ) → a + n ≤ high → InOrder a high (in_a_row strings high (filter_map f (range_with_len a n)))
  rows_in_order f there zero a inside = omega arith
  rows_in_order f there (suc n) a inside = by (f a) refl (rows_in_order f there n (a + 1) (omega arith))
    where
      by : (o : Option Entry) → f a ≡ o → InOrder (a + 1) high (in_a_row strings high (filter_map f (range_with_len (a + 1) n)))
          → InOrder a high (in_a_row strings high (cons_option o (filter_map f (range_with_len (a + 1) n))))
      by None e rest = lower (a + 1) a high _ (omega arith) rest
      by (Some c) e rest = grind arith

row_ascending : (sections : List Section) (strings : List ℕ) (cs : List Entry) → text_low sections < text_high sections → IsAscending (in_a_row strings (text_high sections) (kept_entries sections strings cs))
unfolding kept_entries
row_ascending sections strings cs some =
    let low = text_low sections in
    let high = text_high sections in
    let there : (a : ℕ) (c : Entry) → kept_at strings cs a ≡ Some c → c.addr ≡ a = λ a c e. (kept_at_holds strings (λ _. Unit {0}) cs a c (λ k d below. tt) e).1 in
    let order = rows_in_order strings high (kept_at strings cs) there (high - low) low (omega arith) in
    let ss = in_a_row strings high (kept_entries sections strings cs) in
    record { each = each_in_order low high ss order; apart = apart_in_order low high ss order }

pub within_limits : (bs : List ℕ) (sections : List Section) (strings : List ℕ) (cs : List Entry) (image : Image) → segments_refusal bs ≡ None → text_refusal sections ≡ None
    → image.segments ≡ segments_of bs → image.text.low ≡ text_low sections → image.text.high ≡ text_high sections
    → image.symbols ≡ in_a_row strings (text_high sections) (kept_entries sections strings cs) → IsWithinLimits (length bs) image
within_limits bs sections strings cs image segments text s l h f =
    let limits = text_limits sections text in
    let some = limits.0 in
    let end = limits.2 in
    record {
      text = rw (l, h) some;
      text_bytes = rw (l, h) (omega arith);
      text_end = rw h end;
      segments_in_file = rw s (segments_in_file bs segments);
      ascending = rw f (row_ascending sections strings cs some);
    }

-- where the first of two refusals doesn't come and the second neither, none comes
neither : {X : Type 0} (r s : Option X) → option_or r s ≡ None → (r ≡ None) × (s ≡ None)
neither None s none = (refl, none)
neither (Some e) s none = absurd cc

pub accepted_within : (bs : List ℕ) → elf_refusal bs ≡ None → IsWithinLimits (length bs) (image_of bs)
unfolding elf_refusal image_of symbols_of
accepted_within bs none =
    let sections = sections_of bs in
    let strings = strings_of bs sections in
    let symbols = symbols_refusal sections (table_of bs sections) strings in
    let later = option_or (text_refusal sections) (option_or (table_refusal (length bs) sections) symbols) in
    let behind_header = (neither (header_refusal bs) (option_or (segments_refusal bs) later) none).1 in
    let segments = neither (segments_refusal bs) later behind_header in
    let text = neither (text_refusal sections) (option_or (table_refusal (length bs) sections) symbols) segments.1 in
    within_limits bs sections strings (candidates_of bs) (image_of bs) segments.0 text.0 refl refl refl refl
