-- A file is refused exactly where it has a fault by the grammar.
use Rattle.std.proofs.Common.{◌≡◌, ℕ, zero, suc, ◌+◌, ◌-◌, ◌*◌, ◌<◌, ◌≤◌, Bool, true, false, ltb, leb, eqb, not, ◌&&◌, ◌⊎◌, inl, inr, List, [], ◌∷◌, ◌++◌, length, take, drop, length-append, length-take, length-drop, append_assoc, Option, Some, Result, if◌then◌else◌, refl, sym, ap, subst, ◌∙◌, arith}
use Rattle.std.specs.List.{flat_map, AllByRecursion}
use Rattle.std.proofs.lemmas.Bool.{lt-ltb, le-ltb, le-leb, ltb-true, ltb-false, leb-true, leb-false, eq-eqb, ne_eqb, eqb-true, eqb-false, not-true, not-false, and_from, and_parts, cases_lt}
use Rattle.std.proofs.lemmas.List.{drop_at, drop-drop}
use Rattle.gp_base.specs.declared.records.Rec.{Rec}
use Rattle.gp_base.specs.declared.refusal.GmonRefusal.{GmonRefusal}
use Rattle.gp_base.specs.declared.refusal.GmonRefusal.TheVariants.{Short, Version, Tag, Range}
use Rattle.gp_base.specs.Bytes.{value_of, le, word_at, IsBytes}
use Rattle.gp_base.proofs.LittleEndian.{IsBytes-drop, IsBytes-rest}
use Rattle.gmon_gnu.specs.Fields.{gnu_version}
use Rattle.gmon_gnu.specs.Grammar.{rec_bytes, gnu_spelling, RecFits}
use Rattle.gmon_gnu.specs.Reading.{Front, Refused, Found, body_front, front_refusal, behind_records, recs_from, after_front, file_recs, refusal_read, gnu_refusal}
use Rattle.gmon_gnu.specs.Faults.{RecordAt, low_in, high_in, counters_in, pairs_in, HasEmptyRange, IsTorn, TornFields, TornCounters, TornArc, TornNumber, TornPairs, HasFault, TornHeader, OtherVersion, OtherTag, EmptyRange, TornRecord, FaultsAreAnswered}
use Rattle.gmon_gnu.proofs.SpellingLemmas.{no_range, rec_text, rec_then, shorter, front_read}
use Rattle.gmon_gnu.proofs.MeaningLemmas.{Spelled, front_spelled, header_then, right_of}

-- ---- the text of a file whose first records are spelled

next_text : (r : Rec) (recs : List Rec) (tail : List ℕ) → flat_map rec_bytes (r ∷ recs) ++ tail ≡ rec_text r (flat_map rec_bytes recs ++ tail)
next_text r recs tail = append_assoc (rec_bytes r) (flat_map rec_bytes recs) tail ∙ rec_then r (flat_map rec_bytes recs ++ tail)

next_shorter : (r : Rec) (recs : List Rec) (tail : List ℕ) → length (flat_map rec_bytes recs ++ tail) < length (flat_map rec_bytes (r ∷ recs) ++ tail)
next_shorter r recs tail = omega (arith, ap length (next_text r recs tail), shorter r (flat_map rec_bytes recs ++ tail))

-- the text behind the header
spelling_then : (first spare : List ℕ) (recs : List Rec) (tail : List ℕ) → gnu_spelling first spare recs ++ tail ≡ first ++ (le gnu_version 4 ++ (spare ++ (flat_map rec_bytes recs ++ tail)))
spelling_then first spare recs tail = search append_assoc

-- the place of a text that ends a file
place_of : (bytes text tail : List ℕ) → bytes ≡ text ++ tail → length bytes - length tail ≡ length text
place_of bytes text tail e = omega (arith, ap length e, length-append text tail)

-- ---- what has a fault is refused

refusal_behind : (r : Rec) (o : Result (List Rec) GmonRefusal) → refusal_read (behind_records (r ∷ []) o) ≡ refusal_read o
refusal_behind r o = grind arith

refusal_after : (f : Front) (more : List ℕ → Result (List Rec) GmonRefusal) (e : GmonRefusal) → front_refusal f ≡ Some e → refusal_read (after_front more f) ≡ Some e
refusal_after f more e is = grind arith

fault_behind : (len n : ℕ) (recs : List Rec) (tag : ℕ) (body : List ℕ) (e : GmonRefusal) → length (flat_map rec_bytes recs ++ tag ∷ body) ≤ n → AllByRecursion RecFits recs
    → front_refusal (body_front len (len - length (tag ∷ body)) tag body) ≡ Some e → refusal_read (recs_from len n (flat_map rec_bytes recs ++ tag ∷ body)) ≡ Some e
fault_behind len zero [] tag body e long fits is = absurd (let f : suc (length body) ≤ 0 = long in omega (arith, f))
fault_behind len (suc n) [] tag body e long fits is = refusal_after (body_front len (len - length (tag ∷ body)) tag body) (λ rest. recs_from len n rest) e is
fault_behind len zero (r ∷ recs) tag body e long fits is = absurd (let f = next_shorter r recs (tag ∷ body) in omega (arith, long, f))
fault_behind len (suc n) (r ∷ recs) tag body e long fits is =
    let rest = flat_map rec_bytes recs ++ tag ∷ body in
    ap (λ (v : List ℕ). refusal_read (recs_from len (suc n) v)) (next_text r recs (tag ∷ body))
    ∙ ap refusal_read (front_read len n r rest fits.0)
    ∙ refusal_behind r (recs_from len n rest)
    ∙ fault_behind len n recs tag body e (omega (arith, long, next_shorter r recs (tag ∷ body))) fits.1 is

-- what is refused of a record behind others without a fault is refused of the file
record_refused : (bytes : List ℕ) (at tag : ℕ) (body : List ℕ) (e : GmonRefusal) → RecordAt bytes at tag body → front_refusal (body_front (length bytes) at tag body) ≡ Some e → gnu_refusal bytes ≡ Some e
record_refused bytes at tag body e here is =
    let tail = tag ∷ body in
    let rest = flat_map rec_bytes here.recs ++ tail in
    let after = le gnu_version 4 ++ (here.spare ++ rest) in
    let bytes_are : bytes ≡ here.first ++ after = here.text ∙ spelling_then here.first here.spare here.recs tail in
    let long : length bytes ≡ 20 + length rest = omega (arith, here.first_fits, here.spare_fits, ap length bytes_are, length-append here.first after, length-append here.spare rest) in
    let len = length bytes in
    let place : at ≡ len - length tail = here.place ∙ sym (place_of bytes (gnu_spelling here.first here.spare here.recs) tail here.text) in
    let behind_header : drop 20 bytes ≡ rest = ap (drop 20) bytes_are ∙ sym (drop-drop 16 4 (here.first ++ after)) ∙ ap (drop 16) (drop_at here.first after 4 here.first_fits) ∙ drop_at here.spare rest 12 here.spare_fits in
    let version_is : word_at bytes 4 ≡ gnu_version = ap (λ (v : List ℕ). word_at v 4) bytes_are ∙ ap (λ (l : List ℕ). value_of (take 4 l)) (drop_at here.first after 4 here.first_fits) in
    let whole : ltb len 20 ≡ false = le-ltb len 20 (omega (arith, long)) in
    let same : not (eqb (word_at bytes 4) gnu_version) ≡ false = ap not (eq-eqb (word_at bytes 4) gnu_version version_is) in
    let fault : front_refusal (body_front len (len - length tail) tag body) ≡ Some e = ap (λ (k : ℕ). front_refusal (body_front len k tag body)) (sym place) ∙ is in
    rw (whole, same) (ap (λ (v : List ℕ). refusal_read (recs_from len len v)) behind_header ∙ fault_behind len len here.recs tag body e (omega (arith, long)) here.recs_fit fault)

-- the counters' text is what stands behind the fields
counters_long : (body : List ℕ) → length (drop 1 (drop 15 (drop 16 body))) ≡ length body - 32
counters_long body = omega (arith, length-drop 1 (drop 15 (drop 16 body)), length-drop 15 (drop 16 body), length-drop 16 body)

other_tag : (len at tag : ℕ) (body : List ℕ) → 2 < tag → front_refusal (body_front len at tag body) ≡ Some (Tag at tag)
other_tag len at tag body other = grind arith

empty_range : (len at : ℕ) (body : List ℕ) → HasEmptyRange body → front_refusal (body_front len at 0 body) ≡ Some (Range at (low_in body) (high_in body))
empty_range len at body fault = search (ltb, le-ltb, leb, and_from, lt-ltb, le-leb)

torn : (len at tag : ℕ) (body : List ℕ) → IsTorn tag body → front_refusal (body_front len at tag body) ≡ Some (Short len)
torn len at tag body (TornFields b short) = let here : ltb (length b) 32 ≡ true = lt-ltb (length b) 32 short in rw here refl
torn len at tag body (TornCounters b range short) =
    let after = drop 1 (drop 15 (drop 16 b)) in
    elim (cases_lt (length b) 32) [
      | inl few ↦ let here : ltb (length b) 32 ≡ true = lt-ltb (length b) 32 few in rw here refl
      | inr all ↦
          let fields : ltb (length b) 32 ≡ false = le-ltb (length b) 32 all in
          let shared = no_range (counters_in b) (low_in b) (high_in b) range in
          let here : ltb (length after) (counters_in b * 2) ≡ true = lt-ltb (length after) (counters_in b * 2) (omega (arith, counters_long b, short, all)) in
          rw (fields, shared, here) refl
    ]
torn len at tag body (TornArc b short) = let here : ltb (length b) 12 ≡ true = lt-ltb (length b) 12 short in rw here refl
torn len at tag body (TornNumber b short) = let here : ltb (length b) 4 ≡ true = lt-ltb (length b) 4 short in rw here refl
torn len at tag body (TornPairs b short) = grind arith

fault_answered : (bytes : List ℕ) (e : GmonRefusal) → HasFault bytes e → gnu_refusal bytes ≡ Some e
fault_answered bytes e (TornHeader short) = let here : ltb (length bytes) 20 ≡ true = lt-ltb (length bytes) 20 short in rw here refl
fault_answered bytes e (OtherVersion long other) = search (ltb, le-ltb, eqb, ne_eqb)
fault_answered bytes e (OtherTag at tag body here other) = record_refused bytes at tag body (Tag at tag) here (other_tag (length bytes) at tag body other)
fault_answered bytes e (EmptyRange at body here fault) = record_refused bytes at 0 body (Range at (low_in body) (high_in body)) here (empty_range (length bytes) at body fault)
fault_answered bytes e (TornRecord at tag body here fault) = record_refused bytes at tag body (Short (length bytes)) here (torn (length bytes) at tag body fault)

-- ---- what is refused has a fault

refused_by : (b : Bool) (x e : GmonRefusal) (f : Front) → front_refusal (if b then Refused x else f) ≡ Some e → ((b ≡ true) × (x ≡ e)) ⊎ ((b ≡ false) × (front_refusal f ≡ Some e))
refused_by b x e f is = grind arith

hist_fault : (bytes : List ℕ) (at : ℕ) (body : List ℕ) (e : GmonRefusal) → RecordAt bytes at 0 body → front_refusal (body_front (length bytes) at 0 body) ≡ Some e → HasFault bytes e
hist_fault bytes at body e here is =
    let low = low_in body in
    let high = high_in body in
    let n = counters_in body in
    let after = drop 1 (drop 15 (drop 16 body)) in
    elim (refused_by (ltb (length body) 32) (Short (length bytes)) e _ is) [
      | inl few ↦ subst (HasFault bytes) few.1 (TornRecord at 0 body here (TornFields body (ltb-true (length body) 32 few.0)))
      | inr fields ↦ elim (refused_by (ltb 0 n && leb high low) (Range at low high) e _ fields.1) [
        | inl empty ↦
            let parts = and_parts (ltb 0 n) (leb high low) empty.0 in
            subst (HasFault bytes) empty.1 (EmptyRange at body here (record { fields = ltb-false (length body) 32 fields.0; counters = ltb-true 0 n parts.0; range = leb-true high low parts.1 }))
        | inr shared ↦ elim (refused_by (ltb (length after) (n * 2)) (Short (length bytes)) e _ shared.1) [
          | inl few ↦
              let short : length body < 32 + 2 * n = omega (arith, ltb-false (length body) 32 fields.0, ltb-true (length after) (n * 2) few.0, counters_long body) in
              subst (HasFault bytes) few.1 (TornRecord at 0 body here (TornCounters body (λ some. leb-false high low (right_of (ltb 0 n) (leb high low) shared.0 (lt-ltb 0 n some))) short))
          | inr all ↦ absurd cc
        ]
      ]
    ]

front_fault : (bytes : List ℕ) (at tag : ℕ) (body : List ℕ) (e : GmonRefusal) → RecordAt bytes at tag body → front_refusal (body_front (length bytes) at tag body) ≡ Some e → HasFault bytes e
front_fault bytes at zero body e here is = hist_fault bytes at body e here is
front_fault bytes at (suc zero) body e here is =
    elim (refused_by (ltb (length body) 12) (Short (length bytes)) e _ is) [
      | inl few ↦ subst (HasFault bytes) few.1 (TornRecord at 1 body here (TornArc body (ltb-true (length body) 12 few.0)))
      | inr all ↦ absurd cc
    ]
front_fault bytes at (suc (suc zero)) body e here is =
    let after = drop 4 body in
    let n = pairs_in body in
    elim (refused_by (ltb (length body) 4) (Short (length bytes)) e _ is) [
      | inl few ↦ subst (HasFault bytes) few.1 (TornRecord at 2 body here (TornNumber body (ltb-true (length body) 4 few.0)))
      | inr number ↦ elim (refused_by (ltb (length after) (n * 8)) (Short (length bytes)) e _ number.1) [
        | inl few ↦
            let short : length body < 4 + 8 * n = omega (arith, ltb-false (length body) 4 number.0, ltb-true (length after) (n * 8) few.0, length-drop 4 body) in
            subst (HasFault bytes) few.1 (TornRecord at 2 body here (TornPairs body short))
        | inr all ↦ absurd cc
      ]
    ]
front_fault bytes at (suc (suc (suc tag))) body e here is =
    let same : Tag at (suc (suc (suc tag))) ≡ e = cc in
    subst (HasFault bytes) same (OtherTag at (suc (suc (suc tag))) body here (omega arith))

-- a text of records of which one is refused, with that one and those before it
record RefusedIn (len : ℕ) (text : List ℕ) (e : GmonRefusal) : Type 0 where
  pub recs : List Rec
  pub tag : ℕ
  pub body : List ℕ
  pub text_is : text ≡ flat_map rec_bytes recs ++ tag ∷ body
  pub fits : AllByRecursion RecFits recs
  pub refused : front_refusal (body_front len (len - length (tag ∷ body)) tag body) ≡ Some e

one_more : (len : ℕ) (text : List ℕ) (r : Rec) (rest : List ℕ) (e : GmonRefusal) → Spelled text r rest → RefusedIn len rest e → RefusedIn len text e
one_more len text r rest e spelled behind_it =
    record {
      recs = r ∷ behind_it.recs;
      tag = behind_it.tag;
      body = behind_it.body;
      text_is = spelled.text_is ∙ ap (rec_text r) behind_it.text_is ∙ sym (next_text r behind_it.recs (behind_it.tag ∷ behind_it.body));
      fits = (spelled.fits, behind_it.fits);
      refused = behind_it.refused;
    }

recs_refused : (len n : ℕ) (bs : List ℕ) (e : GmonRefusal) → length bs ≤ n → IsBytes bs → refusal_read (recs_from len n bs) ≡ Some e → RefusedIn len bs e
recs_refused len n [] e le bytes is = absurd cc
recs_refused len zero (tag ∷ body) e le bytes is = absurd cc
recs_refused len (suc n) (tag ∷ body) e le bytes is = by (body_front len (len - length (tag ∷ body)) tag body) refl is (recs_refused len n)
  where
    by : (f : Front) → body_front len (len - length (tag ∷ body)) tag body ≡ f → refusal_read (after_front (λ rest. recs_from len n rest) f) ≡ Some e
        → ((bs : List ℕ) (e : GmonRefusal) → length bs ≤ n → IsBytes bs → refusal_read (recs_from len n bs) ≡ Some e → RefusedIn len bs e) → RefusedIn len (tag ∷ body) e
    by (Refused x) f_is is others = record { recs = []; tag = tag; body = body; text_is = refl; fits = tt; refused = ap front_refusal f_is ∙ is }
    by (Found r rest) f_is is others =
        let spelled = front_spelled len (len - length (tag ∷ body)) tag body r rest (IsBytes-rest tag body bytes) f_is in
        one_more len (tag ∷ body) r rest e spelled
        (others rest e (omega (arith, le, shorter r rest, ap length spelled.text_is)) spelled.bytes (sym (refusal_behind r (recs_from len n rest)) ∙ is))

-- behind a header without a fault
file_fault : (bytes : List ℕ) (e : GmonRefusal) → IsBytes bytes → 20 ≤ length bytes → word_at bytes 4 ≡ gnu_version → refusal_read (file_recs bytes) ≡ Some e → HasFault bytes e
file_fault bytes e are long version_is is =
    let found = recs_refused (length bytes) (length bytes) (drop 20 bytes) e (omega (arith, length-drop 20 bytes)) (IsBytes-drop 20 bytes are) is in
    let first = take 4 bytes in
    let spare = take 12 (drop 8 bytes) in
    let tail = found.tag ∷ found.body in
    let text = gnu_spelling first spare found.recs in
    let bytes_are : bytes ≡ text ++ tail =
    sym (header_then bytes are long version_is) ∙ ap (λ (v : List ℕ). first ++ (le gnu_version 4 ++ (spare ++ v))) found.text_is ∙ sym (spelling_then first spare found.recs tail) in
    front_fault bytes (length bytes - length tail) found.tag found.body e
    (record {
      first = first;
      spare = spare;
      recs = found.recs;
      text = bytes_are;
      place = place_of bytes text tail bytes_are;
      first_fits = omega (arith, long, length-take 4 bytes);
      spare_fits = omega (arith, long, length-take 12 (drop 8 bytes), length-drop 8 bytes);
      recs_fit = found.fits;
    })
    found.refused

some_by : (b : Bool) (x e : GmonRefusal) (o : Option GmonRefusal) → (if b then Some x else o) ≡ Some e → ((b ≡ true) × (x ≡ e)) ⊎ ((b ≡ false) × (o ≡ Some e))
some_by b x e o is = grind arith

refused_has_fault : (bytes : List ℕ) (e : GmonRefusal) → IsBytes bytes → gnu_refusal bytes ≡ Some e → HasFault bytes e
refused_has_fault bytes e are is =
    let found = word_at bytes 4 in
    elim (some_by (ltb (length bytes) 20) (Short (length bytes)) e _ is) [
      | inl few ↦ subst (HasFault bytes) few.1 (TornHeader (ltb-true (length bytes) 20 few.0))
      | inr header ↦ elim (some_by (not (eqb found gnu_version)) (Version found) e _ header.1) [
        | inl other ↦ subst (HasFault bytes) other.1 (OtherVersion (ltb-false (length bytes) 20 header.0) (eqb-false found gnu_version (not-true (eqb found gnu_version) other.0)))
        | inr same ↦ file_fault bytes e are (ltb-false (length bytes) 20 header.0) (eqb-true found gnu_version (not-false (eqb found gnu_version) same.0)) same.1
      ]
    ]

pub faults_answered : FaultsAreAnswered
faults_answered bytes are e = (refused_has_fault bytes e are, fault_answered bytes e)
