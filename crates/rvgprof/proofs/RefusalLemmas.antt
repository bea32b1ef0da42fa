-- No file is refused for want of memory.
use Rattle.std.proofs.Common.{ℕ, zero, suc, ◌-◌, Bool, true, false, ◌||◌, ◌&&◌, List, [], ◌∷◌, drop, length, Option, Some, None, Result, Ok, Err, if◌then◌else◌}
use Rattle.std.specs.Prelude.{not, nat_lt, nat_le, ◌==◌, ◌+◌, ◌*◌, ◌%◌, slice_get, ⊤}
use Rattle.std.specs.Option.{option_and_then, option_map, option_or}
use Rattle.elf32_syms.specs.declared.refusal.ElfRefusal.{ElfRefusal}
use Rattle.elf32_syms.specs.declared.refusal.ElfRefusal.TheVariants as elf
use Rattle.elf32_syms.specs.Header.{has_flag}
use Rattle.gp_base.specs.declared.limits.TheConstants.{MAX_PROGRAM_HEADERS}
use Rattle.gp_base.specs.Bytes.{word_at}
use Rattle.elf32_syms.specs.Refusals.{count_refusal, elf_refusal, header_refusal, kind_refusal, link_refusal, names_refusal, place_refusal, segments_refusal, symbols_refusal, table_refusal, tables_refusal, text_refusal}
use Rattle.elf32_syms.specs.Sections.{symbol_table}
use Rattle.gp_base.specs.declared.records.Form.{Form}
use Rattle.gp_base.specs.declared.records.Form.TheVariants.{Bsd, Gnu}
use Rattle.gp_base.specs.declared.records.Rec.{Rec}
use Rattle.gp_base.specs.declared.refusal.GmonRefusal.{GmonRefusal}
use Rattle.gp_base.specs.declared.refusal.GmonRefusal.TheVariants as gmons
use Rattle.gmon_bsd.specs.Reading.{whole_arcs, bsd_refusal, counter_count, high_of, low_of, size_of, version_of}
use Rattle.gmon_bsd.specs.Fields.{bsd_version}
use Rattle.gmon_gnu.specs.Reading.{Front, Refused, Found, after_front, behind_records, body_front, gnu_refusal, hist_of_fields, pairs_front, recs_from, refusal_read as found_in}
use Rattle.gmon_files.specs.Forms.{file_refusal, form_of, refusal_in}

abbrev pub ElfNamed : Option ElfRefusal → Type 0
ElfNamed (Some elf.OutOfMemory) = ⊥
ElfNamed refusal = ⊤

abbrev pub GmonNamed : Option GmonRefusal → Type 0
GmonNamed (Some gmons.OutOfMemory) = ⊥
GmonNamed refusal = ⊤

-- the same, as records, by which an option is found that a choice is made of
record ElfIs (refusal : Option ElfRefusal) : Type 0 where
  named : ElfNamed refusal

record GmonIs (refusal : Option GmonRefusal) : Type 0 where
  named : GmonNamed refusal

-- ---- programs

either : (b : Bool) (x y : Option ElfRefusal) → ElfIs x → ElfIs y → ElfIs (if b then x else y)
either true x y p q = p
either false x y p q = q

or_else : (x y : Option ElfRefusal) → ElfIs x → ElfIs y → ElfIs (option_or x y)
or_else None y p q = q
or_else (Some r) y p q = p

of_each : {T : Type 0} (f : T → ElfRefusal) → ((t : T) → ElfIs (Some (f t))) → (o : Option T) → ElfIs (option_map f o)
of_each f named None = record { named = tt {0} }
of_each f named (Some t) = named t

kind_named : (h : _) → ElfIs (kind_refusal h)
unfolding kind_refusal
kind_named h =
    either (not (h.class == 1)) (Some (elf.Class h.class)) _ (record { named = tt {0} })
    (either (not (h.order == 1)) (Some (elf.Order h.order)) _ (record { named = tt {0} })
    (either (not (h.kind == 2)) (Some (elf.Kind h.kind)) _ (record { named = tt {0} })
    (either (not (h.machine == 243)) (Some (elf.Machine h.machine)) _ (record { named = tt {0} })
    (either (has_flag h.flags 1 || has_flag h.flags 8) (Some (elf.Flags h.flags)) _ (record { named = tt {0} }) (record { named = tt {0} })))))

tables_named : (len : ℕ) (h : _) → ElfIs (tables_refusal len h)
unfolding tables_refusal
tables_named len h =
    either (not (h.programs == 0) && not (h.program_bytes == 32)) (Some (elf.TableSize h.program_bytes)) _ (record { named = tt {0} })
    (either (nat_lt MAX_PROGRAM_HEADERS h.programs) (Some (elf.TableSize h.programs)) _ (record { named = tt {0} })
    (either (not (h.sections == 0) && not (h.section_bytes == 40)) (Some (elf.TableSize h.section_bytes)) _ (record { named = tt {0} })
    (either (not (h.programs == 0) && nat_lt len (h.programs_at + 32 * h.programs)) (Some (elf.OutOfFile h.programs_at)) _ (record { named = tt {0} })
    (either (not (h.sections == 0) && nat_lt len (h.sections_at + 40 * h.sections)) (Some (elf.OutOfFile h.sections_at)) _ (record { named = tt {0} }) (record { named = tt {0} })))))

header_named : (bs : List ℕ) → ElfIs (header_refusal bs)
unfolding header_refusal
header_named bs = search (either, or_else, kind_named, tables_named)

segments_named : (bs : List ℕ) → ElfIs (segments_refusal bs)
unfolding segments_refusal
segments_named bs = of_each (λ s. elf.OutOfFile s.offset) (λ s. (record { named = tt {0} })) _

text_named : (sections : _) → ElfIs (text_refusal sections)
unfolding text_refusal
text_named sections = search either

place_named : (len : ℕ) (s : _) → ElfIs (place_refusal len s)
place_named len s = search either

link_named : (len : ℕ) (t : _) (o : _) → ElfIs (link_refusal len t o)
link_named len t None = record { named = tt {0} }
link_named len t (Some s) = either (not (s.kind == 3)) (Some (elf.Link t.link)) (place_refusal len s) (record { named = tt {0} }) (place_named len s)

table_named : (len : ℕ) (sections : _) → ElfIs (table_refusal len sections)
unfolding table_refusal
table_named len sections = by (symbol_table sections)
  where
    by : (o : _) → ElfIs (option_and_then (λ t. option_or (place_refusal len t) (link_refusal len t (slice_get sections t.link))) o)
    by None = record { named = tt {0} }
    by (Some t) = or_else (place_refusal len t) (link_refusal len t (slice_get sections t.link)) (place_named len t) (link_named len t (slice_get sections t.link))

names_named : (strings : List ℕ) (entries : _) → ElfIs (names_refusal strings entries)
unfolding names_refusal
names_named strings entries = of_each (λ e. elf.Link e.number) (λ e. (record { named = tt {0} })) _

count_named : (kept : _) → ElfIs (count_refusal kept)
unfolding count_refusal
count_named kept = search either

symbols_named : (sections : _) (table strings : List ℕ) → ElfIs (symbols_refusal sections table strings)
unfolding symbols_refusal
symbols_named sections table strings = or_else _ _ (names_named strings _) (count_named _)

elf_is : (bs : List ℕ) → ElfIs (elf_refusal bs)
unfolding elf_refusal
elf_is bs = search (or_else, header_named, segments_named, text_named, table_named, symbols_named)

pub elf_never : (bs : List ℕ) → ElfNamed (elf_refusal bs)
elf_never bs = (elf_is bs).named

-- ---- profiles

one_of : (b : Bool) (x y : Option GmonRefusal) → GmonIs x → GmonIs y → GmonIs (if b then x else y)
one_of true x y p q = p
one_of false x y p q = q

bsd_never : (bytes : List ℕ) → GmonIs (bsd_refusal bytes)
bsd_never bytes =
    one_of (nat_lt (length bytes) 32) (Some (gmons.Short (length bytes))) _ (record { named = tt {0} })
    (one_of (not (version_of bytes == bsd_version)) (Some (gmons.Version (version_of bytes))) _ (record { named = tt {0} })
    (one_of (nat_lt (size_of bytes) 32 || not (size_of bytes % 2 == 0)) (Some (gmons.Size (size_of bytes))) _ (record { named = tt {0} })
    (one_of (nat_lt 0 (counter_count bytes) && nat_le (high_of bytes) (low_of bytes)) (Some (gmons.Range 0 (low_of bytes) (high_of bytes))) _ (record { named = tt {0} })
    (one_of (nat_lt (length bytes) (size_of bytes)) (Some (gmons.Short (length bytes))) _ (record { named = tt {0} })
    (one_of (not ((length bytes - size_of bytes) % 12 == 0)) (Some (gmons.Rest (size_of bytes + whole_arcs bytes * 12))) _ (record { named = tt {0} }) (record { named = tt {0} }))))))

abbrev FrontNamed : Front → Type 0
FrontNamed (Refused refusal) = GmonNamed (Some refusal)
FrontNamed (Found rec rest) = ⊤

record FrontIs (front : Front) : Type 0 where
  named : FrontNamed front

front_of : (b : Bool) (x y : Front) → FrontIs x → FrontIs y → FrontIs (if b then x else y)
front_of true x y p q = p
front_of false x y p q = q

hist_named : (len at low high count rate : ℕ) (dim : List ℕ) (short : ℕ) (more : List ℕ) → FrontIs (hist_of_fields len at low high count rate dim short more)
hist_named len at low high count rate dim short more = search front_of

pairs_named : (len count : ℕ) (more : List ℕ) → FrontIs (pairs_front len count more)
pairs_named len count more = front_of (nat_lt (length more) (count * 8)) (Refused (gmons.Short len)) _ (record { named = tt {0} }) (record { named = tt {0} })

body_named : (len at tag : ℕ) (body : List ℕ) → FrontIs (body_front len at tag body)
body_named len at zero body = search (front_of, hist_named)
body_named len at (suc zero) body = front_of (nat_lt (length body) 12) (Refused (gmons.Short len)) _ (record { named = tt {0} }) (record { named = tt {0} })
body_named len at (suc (suc zero)) body = front_of (nat_lt (length body) 4) (Refused (gmons.Short len)) _ (record { named = tt {0} }) (pairs_named len (word_at body 0) (drop 4 body))
body_named len at (suc (suc (suc tag))) body = record { named = tt {0} }

behind_named : (recs : List Rec) (more : Result (List Rec) GmonRefusal) → GmonIs (found_in more) → GmonIs (found_in (behind_records recs more))
behind_named recs (Ok more) named = record { named = tt {0} }
behind_named recs (Err refusal) named = named

front_named : (more : List ℕ → Result (List Rec) GmonRefusal) (front : Front) → FrontIs front → ((rest : List ℕ) → GmonIs (found_in (more rest))) → GmonIs (found_in (after_front more front))
front_named more (Refused refusal) here later = record { named = here.named }
front_named more (Found rec rest) here later = behind_named (rec ∷ []) (more rest) (later rest)

recs_named : (len most : ℕ) (text : List ℕ) → GmonIs (found_in (recs_from len most text))
recs_named len most [] = record { named = tt {0} }
recs_named len zero (tag ∷ body) = record { named = tt {0} }
recs_named len (suc most) (tag ∷ body) = search (front_named, body_named, recs_named len most)

gnu_never : (bytes : List ℕ) → GmonIs (gnu_refusal bytes)
gnu_never bytes = search (one_of, recs_named)

pub file_never : (bytes : List ℕ) → GmonNamed (file_refusal bytes)
file_never bytes = by (form_of bytes)
  where
    by : (form : Form) → GmonNamed (refusal_in form bytes)
    by Bsd = (bsd_never bytes).named
    by Gnu = (gnu_never bytes).named
