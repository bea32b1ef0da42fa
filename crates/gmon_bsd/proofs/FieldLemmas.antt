-- A text of the form has one meaning.
use Rattle.std.proofs.Common.{◌≡◌, ℕ, ◌+◌, ◌*◌, ◌≤◌, List, ◌++◌, length, take, drop, length-take, length-drop, None, refl, sym, ap, ◌∙◌, arith}
use Rattle.std.specs.List.{flat_map}
use Rattle.std.proofs.lemmas.List.{take-append-drop, drop-drop, take_all}
use Rattle.gp_base.specs.Bytes.{value_of, le, IsBytes}
use Rattle.gp_base.proofs.LittleEndian.{length-cut, IsBytes-drop, field_below, field_then}
use Rattle.gp_base.proofs.Cutting.{all_cut, flat_map-cut}
use Rattle.gp_base.specs.Fields.{arc_bytes, arc_of, counter_bytes, ArcFits, CounterFits}
use Rattle.gmon_bsd.specs.Fields.{bsd_version}
use Rattle.gp_base.proofs.FieldLemmas.{counter_spelled, counter_fits, arc_spelled, arc_fits}
use Rattle.gmon_bsd.specs.Grammar.{bsd_spelling, BsdSpells}
use Rattle.gmon_bsd.specs.Reading.{low_of, high_of, size_of, version_of, rate_of, counter_count, whole_arcs, file_counters, file_arcs, bsd_refusal, bsd_records}
use Rattle.gmon_bsd.proofs.RefusalLemmas.{Accepted, accepted_of}

-- the counters and the arcs are all that follows the header
bodies : (bs : List ℕ) → IsBytes bs → Accepted bs → flat_map counter_bytes (file_counters bs) ++ flat_map arc_bytes (file_arcs bs) ≡ drop 32 bs
bodies bs bytes a =
    let n = counter_count bs in
    let m = whole_arcs bs in
    let size = size_of bs in
    let even : 32 + n * 2 ≡ size = omega (arith, a.size_least, a.size_even) in
    let fits : n * 2 ≤ length (drop 32 bs) = omega (arith, a.counters, length-drop 32 bs) in
    let counters = flat_map-cut 2 value_of counter_bytes counter_spelled n (drop 32 bs) fits (IsBytes-drop 32 bs bytes) in
    let arcs = flat_map-cut 12 arc_of arc_bytes arc_spelled m (drop size bs) (omega (arith, length-drop size bs)) (IsBytes-drop size bs bytes) in
    let all : take (m * 12) (drop size bs) ≡ drop size bs = take_all (m * 12) (drop size bs) (omega (arith, length-drop size bs)) in
    let rest : drop size bs ≡ drop (n * 2) (drop 32 bs) = ap (λ (k : ℕ). drop k bs) (sym even) ∙ sym (drop-drop (n * 2) 32 bs) in
    ap (λ (v : List ℕ). v ++ flat_map arc_bytes (file_arcs bs)) counters
    ∙ ap (λ (v : List ℕ). take (n * 2) (drop 32 bs) ++ v) (arcs ∙ all ∙ rest)
    ∙ take-append-drop (n * 2) (drop 32 bs)

spells_text : (bs : List ℕ) → IsBytes bs → Accepted bs → bs ≡ bsd_spelling (low_of bs) (high_of bs) (rate_of bs) (take 12 (drop 20 bs)) (file_counters bs) (file_arcs bs)
spells_text bs bytes a =
    let n = counter_count bs in
    let body = flat_map counter_bytes (file_counters bs) ++ flat_map arc_bytes (file_arcs bs) in
    let spare = take 12 (drop 20 bs) in
    let even : 32 + length (file_counters bs) * 2 ≡ size_of bs = omega (arith, a.size_least, a.size_even, length-cut 2 value_of n (drop 32 bs)) in
    let t20 : spare ++ body ≡ drop 20 bs = ap (λ (v : List ℕ). spare ++ v) (bodies bs bytes a ∙ sym (drop-drop 12 20 bs)) ∙ take-append-drop 12 (drop 20 bs) in
    let t16 : le (rate_of bs) 4 ++ (spare ++ body) ≡ drop 16 bs = ap (λ (v : List ℕ). le (rate_of bs) 4 ++ v) t20 ∙ field_then 4 16 bs bytes (omega arith) in
    let t12 : le bsd_version 4 ++ (le (rate_of bs) 4 ++ (spare ++ body)) ≡ drop 12 bs = ap (λ (k : ℕ). le k 4 ++ (le (rate_of bs) 4 ++ (spare ++ body))) (sym a.version_is) ∙ ap (λ (v : List ℕ). le (version_of bs) 4 ++ v) t16 ∙ field_then 4 12 bs bytes (omega arith) in
    let t8 : le (32 + length (file_counters bs) * 2) 4 ++ (le bsd_version 4 ++ (le (rate_of bs) 4 ++ (spare ++ body))) ≡ drop 8 bs = ap (λ (k : ℕ). le k 4 ++ (le bsd_version 4 ++ (le (rate_of bs) 4 ++ (spare ++ body)))) even ∙ ap (λ (v : List ℕ). le (size_of bs) 4 ++ v) t12 ∙ field_then 4 8 bs bytes (omega arith) in
    let t4 = ap (λ (v : List ℕ). le (high_of bs) 4 ++ v) t8 ∙ field_then 4 4 bs bytes (omega arith) in
    sym (ap (λ (v : List ℕ). le (low_of bs) 4 ++ v) t4 ∙ field_then 4 0 bs bytes (omega arith))

pub spelled_of : (bs : List ℕ) → IsBytes bs → bsd_refusal bs ≡ None → BsdSpells bs (bsd_records bs)
spelled_of bs bytes e =
    let a = accepted_of bs e in
    let n = counter_count bs in
    let m = whole_arcs bs in
    let count = length-cut 2 value_of n (drop 32 bs) in
    record {
      low = low_of bs;
      high = high_of bs;
      rate = rate_of bs;
      counters = file_counters bs;
      arcs = file_arcs bs;
      spare = take 12 (drop 20 bs);
      form = refl;
      records = refl;
      text = spells_text bs bytes a;
      range = λ some. a.range (omega arith);
      low_fits = field_below 4 0 bs bytes (omega arith);
      high_fits = field_below 4 4 bs bytes (omega arith);
      rate_fits = field_below 4 16 bs bytes (omega arith);
      size_fits = omega (arith, field_below 4 8 bs bytes (omega arith), a.size_least, a.size_even);
      spare_fits = omega (arith, length-take 12 (drop 20 bs), length-drop 20 bs);
      counters_fit = all_cut CounterFits 2 value_of counter_fits n (drop 32 bs) (omega (arith, a.counters, length-drop 32 bs)) (IsBytes-drop 32 bs bytes);
      arcs_fit = all_cut ArcFits 12 arc_of arc_fits m (drop (size_of bs) bs) (omega (arith, length-drop (size_of bs) bs)) (IsBytes-drop (size_of bs) bs bytes);
    }
