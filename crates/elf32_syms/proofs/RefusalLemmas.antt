-- The refusals of a file, from those of its parts.
use Rattle.std.proofs.Common.{◌≡◌, ◌<◌, ◌≤◌, ℕ, true, false, nat_lt, List, length, Option, Some, None, option_map, refl, ap, sym, subst, arith}
use Rattle.std.specs.Option.{option_or}
use Rattle.std.specs.List.{find}
use Rattle.std.proofs.lemmas.Bool.Decides.{nat_tests}
use Rattle.elf32_syms.specs.declared.image.Segment.{Segment}
use Rattle.elf32_syms.specs.declared.refusal.ElfRefusal.{ElfRefusal}
use Rattle.elf32_syms.specs.declared.refusal.ElfRefusal.TheVariants.{OutOfFile, TooManySymbols, OutOfMemory}
use Rattle.elf32_syms.specs.declared.sections.Section.{Section}
use Rattle.elf32_syms.specs.declared.symbols.Entry.{Entry}
use Rattle.elf32_syms.specs.Segments.{segments_of, is_cut_off}
use Rattle.elf32_syms.specs.declared.image.Image.{Image}
use Rattle.elf32_syms.specs.declared.kept.Functions.{Functions}
use Rattle.elf32_syms.specs.Header.{header_of}
use Rattle.elf32_syms.specs.Image.{AreFunctions, candidates_of, symbols_of, image_of}
use Rattle.elf32_syms.specs.Sections.{sections_of, text_low, text_high, table_of, strings_of}
use Rattle.elf32_syms.specs.Symbols.{fitting_entries, candidates, kept_entries}
use Rattle.elf32_syms.specs.Refusals.{IsRefusal, header_refusal, segments_refusal, text_refusal, table_refusal, names_refusal, count_refusal, symbols_refusal, elf_refusal}

-- an error that is the refusal
pub refusal_is : (e : ElfRefusal) (r : Option ElfRefusal) → r ≡ Some e → IsRefusal e r
refusal_is OutOfMemory r h = tt
refusal_is e r h = h

-- a refusal comes before those that are looked for later
pub first_refused : (e : ElfRefusal) (r s : Option ElfRefusal) → IsRefusal e r → IsRefusal e (option_or r s)
first_refused OutOfMemory r s h = tt
first_refused e r s h = rw h refl

-- and after those that do not come
pub then_refused : (e : ElfRefusal) (r s : Option ElfRefusal) → r ≡ None → IsRefusal e s → IsRefusal e (option_or r s)
then_refused e r s none h = rw none h

-- the refusal of the segments
pub segments_judged : (bs : List ℕ) (segments : List Segment) → segments ≡ segments_of bs → segments_refusal bs ≡ option_map (λ (s : Segment). OutOfFile s.offset) (find (is_cut_off (length bs)) segments)
unfolding segments_refusal
segments_judged bs segments same = ap (λ (xs : List Segment). option_map (λ (s : Segment). OutOfFile s.offset) (find (is_cut_off (length bs)) xs)) (sym same)

-- the refusal of the symbols, where each has a name
pub symbols_judged : (sections : List Section) (table strings : List ℕ) (entries cs ks : List Entry) → entries ≡ fitting_entries sections table
    → cs ≡ candidates strings entries → ks ≡ kept_entries sections strings cs → names_refusal strings entries ≡ None → symbols_refusal sections table strings ≡ count_refusal ks
unfolding symbols_refusal
symbols_judged sections table strings entries cs ks e f g none = grind arith

pub too_many : (ks : List Entry) → 65536 < length ks → count_refusal ks ≡ Some (TooManySymbols (length ks))
unfolding count_refusal
too_many ks h = let many : nat_lt 65536 (length ks) ≡ true = grind (arith, nat_tests) in rw many refl

pub few : (ks : List Entry) → length ks ≤ 65536 → count_refusal ks ≡ None
unfolding count_refusal
few ks h = let many : nat_lt 65536 (length ks) ≡ false = grind (arith, nat_tests) in rw many refl

-- each of the steps of reading is refused where those before it are not
module _ (bs : List ℕ) (e : ElfRefusal) where
  pub by_header : header_refusal bs ≡ Some e → IsRefusal e (elf_refusal bs)
  unfolding elf_refusal
  by_header h = first_refused e _ _ (refusal_is e _ h)

  pub by_segments : header_refusal bs ≡ None → IsRefusal e (segments_refusal bs) → IsRefusal e (elf_refusal bs)
  unfolding elf_refusal
  by_segments h r = then_refused e _ _ h (first_refused e _ _ r)

  module _ (sections : List Section) (same : sections ≡ sections_of bs) (h : header_refusal bs ≡ None) (s : segments_refusal bs ≡ None) where
    pub by_text : IsRefusal e (text_refusal sections) → IsRefusal e (elf_refusal bs)
    unfolding elf_refusal
    by_text r = then_refused e _ _ h (then_refused e _ _ s (first_refused e _ _ (subst (λ (ss : List Section). IsRefusal e (text_refusal ss)) same r)))

    module _ (t : text_refusal sections ≡ None) where
      pub by_table : table_refusal (length bs) sections ≡ Some e → IsRefusal e (elf_refusal bs)
      unfolding elf_refusal
      by_table r = grind arith

      pub by_symbols : (table strings : List ℕ) → table_refusal (length bs) sections ≡ None → table ≡ table_of bs sections → strings ≡ strings_of bs sections
          → IsRefusal e (symbols_refusal sections table strings) → IsRefusal e (elf_refusal bs)
      unfolding elf_refusal
      by_symbols table strings none table_is strings_is r = grind arith

pub all_accepted : (bs : List ℕ) (sections : List Section) (table strings : List ℕ) → sections ≡ sections_of bs → table ≡ table_of bs sections → strings ≡ strings_of bs sections
    → header_refusal bs ≡ None → segments_refusal bs ≡ None → text_refusal sections ≡ None → table_refusal (length bs) sections ≡ None → symbols_refusal sections table strings ≡ None
    → elf_refusal bs ≡ None
unfolding elf_refusal
all_accepted bs sections table strings same t r is also last more rest = grind arith

-- the image, by its parts
pub image_is : (bs : List ℕ) (sections : List Section) (table strings : List ℕ) (f : Functions) (image : Image) → sections ≡ sections_of bs → table ≡ table_of bs sections → strings ≡ strings_of bs sections
    → AreFunctions sections strings (candidates strings (fitting_entries sections table)) f
    → image.entry ≡ (header_of bs).entry → image.segments ≡ segments_of bs → image.text.low ≡ text_low sections → image.text.high ≡ text_high sections
    → image.symbols ≡ f.symbols → image.mcount ≡ f.mcount → image.moncontrol ≡ f.moncontrol → image ≡ image_of bs
unfolding image_of symbols_of candidates_of
image_is bs sections table strings f image same t r are entry segments low high symbols mcount moncontrol = grind arith
