-- What is refused behind the header.
use Rattle.std.proofs.Common.{◌≡◌, ℕ, Bool, true, false, cond, not, List, length, Option, Some, None, refl, subst, sym}
use Rattle.std.specs.Prelude.{IfSome, find, nat_lt, ◌+◌, ◌==◌, ◌||◌}
use Rattle.std.specs.Option.{option_and_then, option_map, option_or}
use Rattle.gp_base.specs.declared.limits.TheConstants.{MAX_SYMBOLS}
use Rattle.elf32_syms.specs.declared.refusal.ElfRefusal.{ElfRefusal}
use Rattle.elf32_syms.specs.declared.refusal.ElfRefusal.TheVariants.{Link, OutOfFile, OutOfMemory, TextRange, TooManySymbols}
use Rattle.elf32_syms.specs.declared.image.Segment.{Segment}
use Rattle.elf32_syms.specs.declared.sections.Section.{Section}
use Rattle.elf32_syms.specs.declared.symbols.Entry.{Entry}
use Rattle.elf32_syms.specs.Refusals.{count_refusal, elf_refusal, header_refusal, is_of_header, is_too_far, link_refusal, names_refusal, place_refusal, segments_refusal, symbols_refusal, table_refusal, text_refusal}
use Rattle.elf32_syms.specs.Sections.{executables, text_high, text_low}
use Rattle.elf32_syms.specs.Segments.{is_cut_off, segments_of}
use Rattle.elf32_syms.specs.Symbols.{has_endless_name}

-- where there is a refusal, it isn't one of the header alone
abbrev pub IsBehind : Option ElfRefusal → Type 0
IsBehind due = IfSome due (λ refusal. is_of_header refusal ≡ false)

either : (a b : Option ElfRefusal) → IsBehind a → IsBehind b → IsBehind (option_or a b)
either None b p q = q
either (Some r) b p q = p

mapped : {A : Type 0} (f : A → ElfRefusal) (o : Option A) → ((a : A) → is_of_header (f a) ≡ false) → IsBehind (option_map f o)
mapped f None takes = tt
mapped f (Some a) takes = takes a

chained : {A : Type 0} (f : A → Option ElfRefusal) (o : Option A) → ((a : A) → IsBehind (f a)) → IsBehind (option_and_then f o)
chained f None takes = tt
chained f (Some a) takes = takes a

chosen : (b : Bool) (r : ElfRefusal) (o : Option ElfRefusal) → is_of_header r ≡ false → IsBehind o → IsBehind (cond b (Some r) o)
chosen true r o p q = p
chosen false r o p q = q

segments : (bs : List ℕ) → IsBehind (segments_refusal bs)
unfolding segments_refusal
segments bs = mapped (λ (s : Segment). OutOfFile s.offset) (find (is_cut_off (length bs)) (segments_of bs)) (λ s. refl)

text : (sections : List Section) → IsBehind (text_refusal sections)
unfolding text_refusal
text sections = chosen ((length (executables sections) == 0) || is_too_far (text_low sections) (text_high sections)) (TextRange (text_low sections) (text_high sections)) None refl tt

place : (len : ℕ) (s : Section) → IsBehind (place_refusal len s)
place len s = chosen (nat_lt len (s.offset + s.size)) (OutOfFile s.offset) None refl tt

link : (len : ℕ) (table : Section) (o : Option Section) → IsBehind (link_refusal len table o)
link len table None = refl
link len table (Some s) = chosen (not (s.kind == 3)) (Link table.link) (place_refusal len s) refl (place len s)

table : (len : ℕ) (sections : List Section) → IsBehind (table_refusal len sections)
unfolding table_refusal
table len sections = search (chained, either, place, link)

names : (strings : List ℕ) (entries : List Entry) → IsBehind (names_refusal strings entries)
unfolding names_refusal
names strings entries = mapped (λ (e : Entry). Link e.number) (find (has_endless_name strings) entries) (λ e. refl)

count : (kept : List Entry) → IsBehind (count_refusal kept)
unfolding count_refusal
count kept = chosen (nat_lt MAX_SYMBOLS (length kept)) (TooManySymbols (length kept)) None refl tt

symbols : (sections : List Section) (table strings : List ℕ) → IsBehind (symbols_refusal sections table strings)
unfolding symbols_refusal
symbols sections table strings = search (table, either, names, count)

no_header : (due : Option ElfRefusal) → IfSome due (λ first. first ≡ OutOfMemory) → IsBehind due
no_header None is = tt
no_header (Some first) is = subst (λ (r : ElfRefusal). is_of_header r ≡ false) (sym is) refl

-- where nothing is wrong with the header, the file is refused for something else
pub behind_header : (bs : List ℕ) → IfSome (header_refusal bs) (λ first. first ≡ OutOfMemory) → IsBehind (elf_refusal bs)
unfolding elf_refusal
behind_header bs is = search (either, no_header, segments, text, table, symbols)
