-- What was read is what the text spells.
use Rattle.std.proofs.Common.{◌≡◌, ℕ, zero, suc, ◌-◌, ◌*◌, ◌<◌, ◌≤◌, Bool, true, false, ltb, leb, ◌&&◌, not, eqb, List, [], ◌∷◌, ◌++◌, length, take, drop, slice_index, length-take, length-drop, Option, Some, None, Result, Ok, if◌then◌else◌, refl, sym, ap, subst, ◌∙◌, arith}
use Rattle.std.specs.List.{flat_map, AllByRecursion}
use Rattle.std.proofs.lemmas.Bool.{ltb-false, leb-false, lt-ltb, eqb-true, not-false}
use Rattle.std.proofs.lemmas.List.{take-append-drop}
use Rattle.gp_base.specs.declared.records.RawHist.{RawHist}
use Rattle.gp_base.specs.declared.records.Rec.{Rec}
use Rattle.gp_base.specs.declared.records.Rec.TheVariants.{Hist, Arc, Blocks}
use Rattle.gp_base.specs.declared.refusal.GmonRefusal.{GmonRefusal}
use Rattle.gp_base.specs.Bytes.{value_of, le, items_of_text, word_at, IsBytes}
use Rattle.gp_base.proofs.LittleEndian.{length-cut, IsBytes-take, IsBytes-drop, IsBytes-rest, field_below, field_then}
use Rattle.gp_base.proofs.Cutting.{flat_map-cut, all_cut}
use Rattle.gp_base.specs.Fields.{arc_of, block_bytes, block_of, counter_bytes, BlockFits, CounterFits}
use Rattle.gmon_gnu.specs.Fields.{gnu_version}
use Rattle.gmon_gnu.specs.Grammar.{rec_bytes, RecFits, GnuSpells}
use Rattle.gmon_gnu.specs.Reading.{Front, Found, Refused, body_front, behind_records, recs_from, after_front, file_recs, refusal_read, recs_in, gnu_refusal, gnu_records}
use Rattle.gp_base.proofs.FieldLemmas.{counter_spelled, counter_fits, arc_spelled, arc_fits, block_spelled, block_fits}
use Rattle.gmon_gnu.proofs.FrontLemmas.{found_then}
use Rattle.gmon_gnu.proofs.SpellingLemmas.{rec_text, rec_then, shorter}

-- ---- one record

-- a record and what follows are spelled by the text
pub record Spelled (text : List ℕ) (r : Rec) (rest : List ℕ) : Type 0 where
  pub text_is : text ≡ rec_text r rest
  pub fits : RecFits r
  pub bytes : IsBytes rest

moved : (text : List ℕ) (r s : Rec) (rest more : List ℕ) → Found r rest ≡ Found s more → Spelled text r rest → Spelled text s more
moved text r s rest more e spelled = grind arith

head_tail : (xs : List ℕ) → 0 < length xs → slice_index xs 0 ∷ drop 1 xs ≡ xs
head_tail xs lt = grind arith

pub right_of : (a b : Bool) → (a && b) ≡ false → a ≡ true → b ≡ false
right_of a b h e = grind arith

hist_front_spelled : (len at : ℕ) (body : List ℕ) (r : Rec) (rest : List ℕ) → IsBytes body → body_front len at 0 body ≡ Found r rest → Spelled (0 ∷ body) r rest
hist_front_spelled len at body r rest bytes is =
    let from_name = drop 16 body in
    let from_letter = drop 15 from_name in
    let after = drop 1 from_letter in
    let low = word_at body 0 in
    let high = word_at body 4 in
    let n = word_at body 8 in
    let rate = word_at body 12 in
    let a = found_then (ltb (length body) 32) _ _ r rest is in
    let b = found_then (ltb 0 n && leb high low) _ _ r rest a.1 in
    let d = found_then (ltb (length after) (n * 2)) _ _ r rest b.1 in
    let long = ltb-false (length body) 32 a.0 in
    let enough = ltb-false (length after) (n * 2) d.0 in
    let cs = items_of_text 2 value_of n after in
    let count : length cs ≡ n = length-cut 2 value_of n after in
    let short_bytes = IsBytes-drop 15 from_name (IsBytes-drop 16 body bytes) in
    let after_bytes = IsBytes-drop 1 from_letter short_bytes in
    let name_long : length from_name ≡ length body - 16 = length-drop 16 body in
    let short_long : length from_letter ≡ length from_name - 15 = length-drop 15 from_name in
    let counters : flat_map counter_bytes cs ++ drop (n * 2) after ≡ after = ap (λ (v : List ℕ). v ++ drop (n * 2) after) (flat_map-cut 2 value_of counter_bytes counter_spelled n after enough after_bytes) ∙ take-append-drop (n * 2) after in
    let t31 : slice_index from_letter 0 ∷ (flat_map counter_bytes cs ++ drop (n * 2) after) ≡ from_letter = ap (λ (v : List ℕ). slice_index from_letter 0 ∷ v) counters ∙ head_tail from_letter (omega (arith, long, name_long, short_long)) in
    let t16 = ap (λ (v : List ℕ). take 15 from_name ++ v) t31 ∙ take-append-drop 15 from_name in
    let t12 = ap (λ (v : List ℕ). le rate 4 ++ v) t16 ∙ field_then 4 12 body bytes (omega (arith, long)) in
    let t8 = ap (λ (v : List ℕ). le n 4 ++ v) t12 ∙ field_then 4 8 body bytes (omega (arith, long)) in
    let t4 = ap (λ (v : List ℕ). le high 4 ++ v) t8 ∙ field_then 4 4 body bytes (omega (arith, long)) in
    let t0 = ap (λ (v : List ℕ). le low 4 ++ v) t4 ∙ field_then 4 0 body bytes (omega (arith, long)) in
    let h : RawHist = record { low = low; high = high; unit = record { rate = rate; dim = take 15 from_name; «abbrev» = slice_index from_letter 0 }; counters = cs } in
    let same : rec_text (Hist h) (drop (n * 2) after) ≡ 0 ∷ body =
    ap (λ (k : ℕ). 0 ∷ (le low 4 ++ (le high 4 ++ (le k 4 ++ (le rate 4 ++ (take 15 from_name ++ (slice_index from_letter 0 ∷ (flat_map counter_bytes cs ++ drop (n * 2) after)))))))) count
    ∙ ap (λ (v : List ℕ). 0 ∷ v) t0 in
    moved (0 ∷ body) (Hist h) r (drop (n * 2) after) rest d.1
    (record {
      text_is = sym same;
      fits = record {
        low = field_below 4 0 body bytes (omega (arith, long));
        high = field_below 4 4 body bytes (omega (arith, long));
        number = omega (arith, count, field_below 4 8 body bytes (omega (arith, long)));
        rate = field_below 4 12 body bytes (omega (arith, long));
        dim = omega (arith, long, name_long, length-take 15 from_name);
        counters = all_cut CounterFits 2 value_of counter_fits n after enough after_bytes;
        range = λ some. leb-false high low (right_of (ltb 0 n) (leb high low) b.0 (lt-ltb 0 n (omega (arith, some, count))));
      };
      bytes = IsBytes-drop (n * 2) after after_bytes;
    })

arc_front_spelled : (len at : ℕ) (body : List ℕ) (r : Rec) (rest : List ℕ) → IsBytes body → body_front len at 1 body ≡ Found r rest → Spelled (1 ∷ body) r rest
arc_front_spelled len at body r rest bytes is =
    let a = found_then (ltb (length body) 12) _ _ r rest is in
    let long = ltb-false (length body) 12 a.0 in
    let len12 : length (take 12 body) ≡ 12 = omega (arith, long, length-take 12 body) in
    let same = ap (λ (v : List ℕ). v ++ drop 12 body) (arc_spelled (take 12 body) len12 (IsBytes-take 12 body bytes)) ∙ take-append-drop 12 body in
    moved (1 ∷ body) (Arc (arc_of (take 12 body))) r (drop 12 body) rest a.1
    (record { text_is = sym (ap (λ (v : List ℕ). 1 ∷ v) same); fits = arc_fits (take 12 body) len12 (IsBytes-take 12 body bytes); bytes = IsBytes-drop 12 body bytes })

blocks_front_spelled : (len at : ℕ) (body : List ℕ) (r : Rec) (rest : List ℕ) → IsBytes body → body_front len at 2 body ≡ Found r rest → Spelled (2 ∷ body) r rest
blocks_front_spelled len at body r rest bytes is =
    let n = word_at body 0 in
    let after = drop 4 body in
    let a = found_then (ltb (length body) 4) _ _ r rest is in
    let d = found_then (ltb (length after) (n * 8)) _ _ r rest a.1 in
    let long = ltb-false (length body) 4 a.0 in
    let enough = ltb-false (length after) (n * 8) d.0 in
    let blocks = items_of_text 8 block_of n after in
    let count : length blocks ≡ n = length-cut 8 block_of n after in
    let after_bytes = IsBytes-drop 4 body bytes in
    let pairs : flat_map block_bytes blocks ++ drop (n * 8) after ≡ after = ap (λ (v : List ℕ). v ++ drop (n * 8) after) (flat_map-cut 8 block_of block_bytes block_spelled n after enough after_bytes) ∙ take-append-drop (n * 8) after in
    let same : rec_text (Blocks blocks) (drop (n * 8) after) ≡ 2 ∷ body =
    ap (λ (k : ℕ). 2 ∷ (le k 4 ++ (flat_map block_bytes blocks ++ drop (n * 8) after))) count
    ∙ ap (λ (v : List ℕ). 2 ∷ (le n 4 ++ v)) pairs
    ∙ ap (λ (v : List ℕ). 2 ∷ v) (field_then 4 0 body bytes (omega (arith, long))) in
    moved (2 ∷ body) (Blocks blocks) r (drop (n * 8) after) rest d.1
    (record {
      text_is = sym same;
      fits = record { number = omega (arith, count, field_below 4 0 body bytes (omega (arith, long))); each = all_cut BlockFits 8 block_of block_fits n after enough after_bytes };
      bytes = IsBytes-drop (n * 8) after after_bytes;
    })

pub front_spelled : (len at tag : ℕ) (body : List ℕ) (r : Rec) (rest : List ℕ) → IsBytes body → body_front len at tag body ≡ Found r rest → Spelled (tag ∷ body) r rest
front_spelled len at zero body r rest bytes is = hist_front_spelled len at body r rest bytes is
front_spelled len at (suc zero) body r rest bytes is = arc_front_spelled len at body r rest bytes is
front_spelled len at (suc (suc zero)) body r rest bytes is = blocks_front_spelled len at body r rest bytes is
front_spelled len at (suc (suc (suc tag))) body r rest bytes is = absurd cc

-- ---- all records

record AllSpelled (text : List ℕ) (rs : List Rec) : Type 0 where
  pub text_is : text ≡ flat_map rec_bytes rs
  pub fits : AllByRecursion RecFits rs

abbrev read_ok : List Rec → Result (List Rec) GmonRefusal
read_ok rs = Ok rs

same_ok : (xs ys : List Rec) → read_ok xs ≡ Ok ys → xs ≡ ys
same_ok xs ys e = cc

recs_spelled : (len n : ℕ) (bs : List ℕ) (rs : List Rec) → length bs ≤ n → IsBytes bs → recs_from len n bs ≡ Ok rs → AllSpelled bs rs
recs_spelled len n [] rs le bytes is = subst (λ (x : List Rec). AllSpelled [] x) (same_ok [] rs is) (record { text_is = refl; fits = tt })
recs_spelled len zero (tag ∷ body) rs le bytes is = absurd (let f : suc (length body) ≤ 0 = le in omega (arith, f))
recs_spelled len (suc n) (tag ∷ body) rs le bytes is = by (body_front len (len - length (tag ∷ body)) tag body) refl is (recs_spelled len n)
  where
    go : (r : Rec) (rest : List ℕ) → Spelled (tag ∷ body) r rest → (o : Result (List Rec) GmonRefusal) → behind_records (r ∷ []) o ≡ Ok rs → ((more : List Rec) → o ≡ Ok more → AllSpelled rest more) → AllSpelled (tag ∷ body) rs
    go r rest spelled o is others = grind (arith, rec_then)

    by : (f : Front) → body_front len (len - length (tag ∷ body)) tag body ≡ f → after_front (λ rest. recs_from len n rest) f ≡ Ok rs
        → ((bs : List ℕ) (rs : List Rec) → length bs ≤ n → IsBytes bs → recs_from len n bs ≡ Ok rs → AllSpelled bs rs) → AllSpelled (tag ∷ body) rs
    by (Refused e) f_is is others = absurd cc
    by (Found r rest) f_is is others =
        let spelled = front_spelled len (len - length (tag ∷ body)) tag body r rest (IsBytes-rest tag body bytes) f_is in
        go r rest spelled (recs_from len n rest) is (λ more e. others rest more (omega (arith, le, shorter r rest, ap length spelled.text_is)) spelled.bytes e)

-- ---- the whole text

none_then : (b : Bool) (x : GmonRefusal) (o : Option GmonRefusal) → (if b then Some x else o) ≡ None → (b ≡ false) × (o ≡ None)
none_then b x o e = grind arith

ok_where_accepted : (o : Result (List Rec) GmonRefusal) → refusal_read o ≡ None → o ≡ Ok (recs_in o)
ok_where_accepted o e = grind arith

-- the header of a text, and what stands behind it
pub header_then : (bs : List ℕ) → IsBytes bs → 20 ≤ length bs → word_at bs 4 ≡ gnu_version → take 4 bs ++ (le gnu_version 4 ++ (take 12 (drop 8 bs) ++ drop 20 bs)) ≡ bs
header_then bs bytes long version_is = grind arith

pub spelled_of : (bytes : List ℕ) → IsBytes bytes → gnu_refusal bytes ≡ None → GnuSpells bytes (gnu_records bytes)
spelled_of bs bytes e =
    let a = none_then (ltb (length bs) 20) _ _ e in
    let b = none_then (not (eqb (word_at bs 4) gnu_version)) _ _ a.1 in
    let long = ltb-false (length bs) 20 a.0 in
    let version_is : word_at bs 4 ≡ gnu_version = eqb-true (word_at bs 4) gnu_version (not-false (eqb (word_at bs 4) gnu_version) b.0) in
    let recs = recs_in (file_recs bs) in
    let all = recs_spelled (length bs) (length bs) (drop 20 bs) recs (omega (arith, length-drop 20 bs)) (IsBytes-drop 20 bs bytes) (ok_where_accepted (file_recs bs) b.1) in
    let spare = take 12 (drop 8 bs) in
    record {
      first = take 4 bs;
      spare = spare;
      form = refl;
      text = sym (header_then bs bytes long version_is) ∙ ap (λ (v : List ℕ). take 4 bs ++ (le gnu_version 4 ++ (spare ++ v))) all.text_is;
      first_fits = omega (arith, long, length-take 4 bs);
      spare_fits = omega (arith, long, length-take 12 (drop 8 bs), length-drop 8 bs);
      recs_fit = all.fits;
    }
