-- What a spelling is read as.
use Rattle.std.proofs.Common.{◌≡◌, ℕ, zero, suc, ◌+◌, ◌-◌, ◌*◌, ◌<◌, ◌≤◌, false, ltb, leb, ◌&&◌, List, [], ◌∷◌, ◌++◌, length, take, drop, slice_index, length-append, append_assoc, None, Ok, refl, sym, ap, ◌∙◌, arith}
use Rattle.std.specs.List.{flat_map, AllByRecursion}
use Rattle.std.proofs.lemmas.Bool.{le-ltb}
use Rattle.std.proofs.lemmas.List.{take_at, drop_at, drop-drop}
use Rattle.gp_base.specs.declared.records.RawArc.{RawArc}
use Rattle.gp_base.specs.declared.records.RawBlock.{RawBlock}
use Rattle.gp_base.specs.declared.records.RawHist.{RawHist}
use Rattle.gp_base.specs.declared.records.Rec.{Rec}
use Rattle.gp_base.specs.declared.records.Rec.TheVariants.{Hist, Arc, Blocks}
use Rattle.gp_base.specs.declared.records.Records.{Records}
use Rattle.gp_base.specs.declared.records.Form.TheVariants.{Gnu}
use Rattle.gp_base.specs.Bytes.{value_of, le, word_at}
use Rattle.gp_base.proofs.LittleEndian.{value_of-le}
use Rattle.gp_base.proofs.Cutting.{cut-flat_map, length-spelled}
use Rattle.gp_base.specs.Fields.{arc_bytes, block_bytes, block_of, counter_bytes, ArcFits, BlockFits}
use Rattle.gmon_gnu.specs.Fields.{gnu_version, magic, spare_bytes}
use Rattle.gmon_gnu.specs.Grammar.{rec_bytes, gnu_spelling, RecFits, HistFits, BlocksFit, GnuSpells}
use Rattle.gmon_gnu.specs.Reading.{Found, hist_of_fields, pairs_front, body_front, behind_records, recs_from, after_front, file_recs, gnu_refusal, gnu_records}
use Rattle.gp_base.proofs.FieldLemmas.{block_length, block_back}

-- ---- a record with the text behind it

abbrev pub rec_text : Rec → List ℕ → List ℕ
rec_text (Hist h) rest =
    0 ∷ (le h.low 4 ++ (le h.high 4 ++ (le (length h.counters) 4 ++ (le h.unit.rate 4 ++ (h.unit.dim ++ (h.unit.«abbrev» ∷ (flat_map counter_bytes h.counters ++ rest)))))))
rec_text (Arc arc) rest = 1 ∷ (arc_bytes arc ++ rest)
rec_text (Blocks blocks) rest = 2 ∷ (le (length blocks) 4 ++ (flat_map block_bytes blocks ++ rest))

pub rec_then : (r : Rec) (rest : List ℕ) → rec_bytes r ++ rest ≡ rec_text r rest
rec_then r rest = grind (arith, append_assoc)

-- ---- one record

pub no_range : (n low high : ℕ) → (0 < n → low < high) → (ltb 0 n && leb high low) ≡ false
no_range n low high h = grind arith

-- the fields of a histogram, and then its counters
fields_read : (len at : ℕ) (h : RawHist) (rest : List ℕ) → HistFits h
    → hist_of_fields len at h.low h.high (length h.counters) h.unit.rate h.unit.dim h.unit.«abbrev» (flat_map counter_bytes h.counters ++ rest) ≡ Found (Hist h) rest
fields_read len at h rest fits = grind (arith, length-spelled, length-append, cut-flat_map, drop_at)

hist_read : (len at : ℕ) (h : RawHist) (rest : List ℕ) → HistFits h
    → body_front len at 0 (le h.low 4 ++ (le h.high 4 ++ (le (length h.counters) 4 ++ (le h.unit.rate 4 ++ (h.unit.dim ++ (h.unit.«abbrev» ∷ (flat_map counter_bytes h.counters ++ rest))))))) ≡ Found (Hist h) rest
hist_read len at h rest fits =
    let counts = flat_map counter_bytes h.counters ++ rest in
    let dim = h.unit.dim in
    let body = le h.low 4 ++ (le h.high 4 ++ (le (length h.counters) 4 ++ (le h.unit.rate 4 ++ (dim ++ (h.unit.«abbrev» ∷ counts))))) in
    let long : length body ≡ 16 + length (dim ++ (h.unit.«abbrev» ∷ counts)) = omega arith in
    let here : ltb (length body) 32 ≡ false = le-ltb (length body) 32 (omega (arith, long, fits.dim, length-append dim (h.unit.«abbrev» ∷ counts))) in
    let tail = drop_at dim (h.unit.«abbrev» ∷ counts) 15 fits.dim in
    rw here ((λ i. hist_of_fields len at (value_of-le 4 h.low fits.low i) (value_of-le 4 h.high fits.high i) (value_of-le 4 (length h.counters) fits.number i) (value_of-le 4 h.unit.rate fits.rate i)
    (take_at dim (h.unit.«abbrev» ∷ counts) 15 fits.dim i) (slice_index (tail i) 0) (drop 1 (tail i)))
    ∙ fields_read len at h rest fits)

arc_read : (len at : ℕ) (arc : RawArc) (rest : List ℕ) → ArcFits arc → body_front len at 1 (arc_bytes arc ++ rest) ≡ Found (Arc arc) rest
arc_read len at arc rest fits = grind arith

blocks_read : (len at : ℕ) (blocks : List RawBlock) (rest : List ℕ) → BlocksFit blocks → body_front len at 2 (le (length blocks) 4 ++ (flat_map block_bytes blocks ++ rest)) ≡ Found (Blocks blocks) rest
blocks_read len at blocks rest fits =
    let text = flat_map block_bytes blocks in
    let body = le (length blocks) 4 ++ (text ++ rest) in
    let long : length text ≡ length blocks * 8 = length-spelled 8 block_bytes block_length blocks in
    let here : ltb (length body) 4 ≡ false = le-ltb (length body) 4 (omega arith) in
    let all : ltb (length (text ++ rest)) (length blocks * 8) ≡ false = le-ltb (length (text ++ rest)) (length blocks * 8) (omega (arith, long, length-append text rest)) in
    rw here (ap (λ n. pairs_front len n (text ++ rest)) (value_of-le 4 (length blocks) fits.number)
    ∙ rw all (λ i. Found (Blocks (cut-flat_map 8 block_of block_bytes BlockFits block_length block_back blocks rest fits.each i)) (drop_at text rest (length blocks * 8) long i)))

pub shorter : (r : Rec) (rest : List ℕ) → length rest < length (rec_text r rest)
shorter r rest = grind (arith, length-append)

pub front_read : (len n : ℕ) (r : Rec) (rest : List ℕ) → RecFits r → recs_from len (suc n) (rec_text r rest) ≡ behind_records (r ∷ []) (recs_from len n rest)
front_read len n (Hist h) rest fits = ap (after_front (λ rest. recs_from len n rest)) (hist_read len (len - length (rec_text (Hist h) rest)) h rest fits)
front_read len n (Arc arc) rest fits = ap (after_front (λ rest. recs_from len n rest)) (arc_read len (len - length (rec_text (Arc arc) rest)) arc rest fits)
front_read len n (Blocks blocks) rest fits = ap (after_front (λ rest. recs_from len n rest)) (blocks_read len (len - length (rec_text (Blocks blocks) rest)) blocks rest fits)

-- ---- all records

pub shorter_recs : (r : Rec) (rs : List Rec) → length (flat_map rec_bytes rs) < length (flat_map rec_bytes (r ∷ rs))
shorter_recs r rs = omega (arith, shorter r (flat_map rec_bytes rs), ap length (rec_then r (flat_map rec_bytes rs)))

recs_read : (len n : ℕ) (rs : List Rec) → length (flat_map rec_bytes rs) ≤ n → AllByRecursion RecFits rs → recs_from len n (flat_map rec_bytes rs) ≡ Ok rs
recs_read len n [] le fits = refl
recs_read len zero (r ∷ rs) le fits = absurd (let f : length (flat_map rec_bytes rs) < 0 = omega (arith, le, shorter_recs r rs) in omega (arith, f))
recs_read len (suc n) (r ∷ rs) le fits =
    ap (recs_from len (suc n)) (rec_then r (flat_map rec_bytes rs))
    ∙ front_read len n r (flat_map rec_bytes rs) fits.0 ∙ ap (behind_records (r ∷ [])) (recs_read len n rs (omega (arith, le, shorter_recs r rs)) fits.1)

-- ---- the whole text

pub record Whole (bytes : List ℕ) (recs : List Rec) : Type 0 where
  pub header : 20 ≤ length bytes
  pub version_is : word_at bytes 4 ≡ gnu_version
  pub recs_are : file_recs bytes ≡ Ok recs

whole_spelling : (first spare : List ℕ) (recs : List Rec) → length first ≡ 4 → length spare ≡ 12 → AllByRecursion RecFits recs → Whole (gnu_spelling first spare recs) recs
whole_spelling first spare recs four twelve fit =
    let text = flat_map rec_bytes recs in
    let after = le gnu_version 4 ++ (spare ++ text) in
    let bytes = gnu_spelling first spare recs in
    let long : length bytes ≡ 20 + length text = omega (arith, four, twelve, length-append first after, length-append spare text) in
    let rest : drop 20 bytes ≡ text = sym (drop-drop 16 4 bytes) ∙ ap (drop 16) (drop_at first after 4 four) ∙ drop_at spare text 12 twelve in
    record {
      header = omega (arith, long);
      version_is = ap (λ (l : List ℕ). value_of (take 4 l)) (drop_at first after 4 four);
      recs_are = ap (recs_from (length bytes) (length bytes)) rest ∙ recs_read (length bytes) (length bytes) recs (omega (arith, long)) fit;
    }

abbrev pub gnu : List Rec → Records
gnu recs = record { form = Gnu; recs = recs }

pub accepted_where_spelled : (bytes : List ℕ) (r : Records) → GnuSpells bytes r → gnu_refusal bytes ≡ None
accepted_where_spelled bytes r s = grind (arith, whole_spelling)

pub only_where_spelled : (bytes : List ℕ) (r : Records) → GnuSpells bytes r → r ≡ gnu_records bytes
only_where_spelled bytes r s = grind (arith, whole_spelling)

-- records behind the header that is written
pub written_spells : (recs : List Rec) → AllByRecursion RecFits recs → GnuSpells (gnu_spelling magic spare_bytes recs) (record { form = Gnu; recs = recs })
written_spells recs fit = record { first = magic; spare = spare_bytes; form = refl; text = refl; first_fits = refl; spare_fits = refl; recs_fit = fit }
