-- What the bytes that were fed are.
use Rattle.std.proofs.Common.{◌≡◌, ℕ, Bool, eqb, ltb, List, [], ◌++◌, length, drop, length-drop, Option, Some, None, Result, Ok, Err, if◌then◌else◌, refl, sym, ap, subst, ◌∙◌, arith}
use Rattle.std.specs.List.{AllByRecursion}
use Rattle.std.proofs.lemmas.List.{append-nil}
use Rattle.gp_base.specs.declared.records.Rec.{Rec}
use Rattle.gp_base.specs.declared.records.Records.{Records}
use Rattle.gp_base.specs.declared.records.Form.TheVariants.{Gnu}
use Rattle.gp_base.specs.declared.refusal.GmonRefusal.{GmonRefusal}
use Rattle.gp_base.specs.Refusal.{IsRefusal}
use Rattle.gp_base.specs.Spans.{HasRange}
use Rattle.gmon_data.specs.Content.{wide_records}
use Rattle.gmon_cells.proofs.RefusalLemmas.{given_one}
use Rattle.gmon_gnu.specs.Adding.{spelled_records}
use Rattle.gmon_gnu.specs.Reading.{behind_records, file_recs, refusal_read, recs_in, gnu_refusal, gnu_records}
use Rattle.gmon_gnu.specs.Going.{records_on, header_on, resume}
use Rattle.gmon_gnu.specs.Ending.{ending_result}
use Rattle.gmon_gnu.specs.Fed.{Kept, StandsFor}
use Rattle.gmon_gnu.proofs.MeaningLemmas.{spelled_of}
use Rattle.gmon_gnu.proofs.RecordLemmas.{allowance}
use Rattle.gmon_gnu.proofs.SizeLemmas.{have_ranges}

-- ---- the whole file

pub records_of : (bytes : List ℕ) → file_recs bytes ≡ records_on (length bytes) (drop 20 bytes)
records_of bytes = allowance (length bytes) (length bytes) (length (drop 20 bytes)) (drop 20 bytes) (omega (arith, length-drop 20 bytes)) (omega arith)

two_tests : (a b : Bool) (x y : GmonRefusal) (o : Result (List Rec) GmonRefusal) → (if a then Some x else (if b then Some y else refusal_read o)) ≡ refusal_read (if a then Err x else (if b then Err y else o))
two_tests a b x y o = grind arith

both_pass : (a b : Bool) (x y : GmonRefusal) (o : Result (List Rec) GmonRefusal) (recs : List Rec) → (if a then Err x else (if b then Err y else o)) ≡ Ok recs → o ≡ Ok recs
both_pass a b x y o recs is = grind arith

pub refusal_on : (bytes : List ℕ) → gnu_refusal bytes ≡ refusal_read (header_on (length bytes) bytes)
refusal_on bytes = search (ltb, eqb, records_of, two_tests)

pub records_are : (bytes : List ℕ) (recs : List Rec) → header_on (length bytes) bytes ≡ Ok recs → file_recs bytes ≡ Ok recs
records_are bytes recs is = search (records_of, both_pass, ltb, eqb)

-- ---- it ends here

-- what is seen of a reader stands for what its inside does
pub seen_as : {bytes : List ℕ} {kept seen : Kept} → kept ≡ seen → StandsFor bytes seen → StandsFor bytes kept
seen_as {bytes = bytes} is = subst (λ (k : Kept). StandsFor bytes k) (sym is)

pub read_out : (bytes : List ℕ) (kept : Kept) (o : Option GmonRefusal) → StandsFor bytes kept → resume kept.len kept.open_now kept.rest ≡ ending_result o → header_on (length bytes) bytes ≡ behind_records kept.recs (ending_result o)
read_out bytes kept o s is =
    let none : bytes ++ [] ≡ bytes = append-nil bytes in
    sym (λ i. header_on (length (none i)) (none i))
    ∙ s.reads []
    ∙ (λ i. behind_records kept.recs (resume (length (none i)) kept.open_now (append-nil kept.rest i)))
    ∙ ap (λ (n : ℕ). behind_records kept.recs (resume n kept.open_now kept.rest)) (sym s.len)
    ∙ ap (behind_records kept.recs) is

pub refused_out : (bytes : List ℕ) (kept : Kept) (e : GmonRefusal) → StandsFor bytes kept → resume kept.len kept.open_now kept.rest ≡ Err e → IsRefusal e (gnu_refusal bytes)
refused_out bytes kept e s is = given_one e (gnu_refusal bytes) (refusal_on bytes ∙ ap refusal_read (read_out bytes kept (Some e) s is))

all_out : (bytes : List ℕ) (kept : Kept) → StandsFor bytes kept → resume kept.len kept.open_now kept.rest ≡ Ok [] → header_on (length bytes) bytes ≡ Ok kept.recs
all_out bytes kept s is = read_out bytes kept None s is ∙ ap (λ (v : List Rec). let x : Result (List Rec) GmonRefusal = Ok v in x) (append-nil kept.recs)

pub accepted_out : (bytes : List ℕ) (kept : Kept) → StandsFor bytes kept → resume kept.len kept.open_now kept.rest ≡ Ok [] → gnu_refusal bytes ≡ None
accepted_out bytes kept s is = refusal_on bytes ∙ ap refusal_read (all_out bytes kept s is)

pub records_out : (bytes : List ℕ) (kept : Kept) (recs : List Rec) → StandsFor bytes kept → resume kept.len kept.open_now kept.rest ≡ Ok [] → recs ≡ kept.recs
    → (let x : Records = record { form = Gnu; recs = recs } in x) ≡ gnu_records bytes
records_out bytes kept recs s is recs_are =
    let recs_is : recs ≡ recs_in (file_recs bytes) = recs_are ∙ sym (ap recs_in (records_are bytes kept.recs (all_out bytes kept s is))) in
    ap (λ (v : List Rec). let x : Records = record { form = Gnu; recs = v } in x) recs_is

-- so the records so far are what is added to a profile
pub all_read : (bytes : List ℕ) (kept : Kept) → StandsFor bytes kept → resume kept.len kept.open_now kept.rest ≡ Ok [] → spelled_records bytes ≡ wide_records kept.recs
all_read bytes kept s is = sym (ap (λ (r : Records). wide_records r.recs) (records_out bytes kept kept.recs s is refl))

-- their histograms have ranges
pub ranges_read : (bytes : List ℕ) (kept : Kept) → StandsFor bytes kept → resume kept.len kept.open_now kept.rest ≡ Ok [] → AllByRecursion HasRange kept.recs
ranges_read bytes kept s is =
    let spells = spelled_of bytes s.are_bytes (accepted_out bytes kept s is) in
    subst (λ (r : Records). AllByRecursion HasRange r.recs) (sym (records_out bytes kept kept.recs s is refl)) (have_ranges (gnu_records bytes).recs spells.recs_fit)
