-- Files that are each alike with those before them have no conflict among all their records.
use Rattle.std.proofs.Common.{◌≡◌, ℕ, List, [], ◌∷◌, ◌++◌, append-nil, append_assoc, None, sym, ap, subst, ◌∙◌, refl}
use Rattle.std.specs.List.{AllByRecursion, flat_map}
use Rattle.std.proofs.lemmas.List.Concat.{flat_map-append}
use Rattle.std.proofs.lemmas.List.Elements.{All-from_recursion, recursion_from_All}
use Rattle.gp_base.specs.Bytes.{IsBytes}
use Rattle.gmon_data.specs.Content.{HasSpan, WideRec, conflict_of, empty_content}
use Rattle.gmon_data.proofs.RangeLemmas.{ranges_of_content}
use Rattle.gmon_files.specs.Forms.{file_refusal}
use Rattle.gmon_files.proofs.RecordLemmas.{spans_of_file}
use Rattle.profile_sum.proofs.LikeLemmas.{alike_joined}
use Rattle.rvgprof.specs.Acceptance.{AreProfileFiles}
use Rattle.command_inputs.specs.Totals.{records_of}
use Rattle.rvgprof.specs.Alike.{AlikeFilesHaveNoConflict}

joined_all : (P : WideRec → Type 0) (a b : List WideRec) → AllByRecursion P a → AllByRecursion P b → AllByRecursion P (a ++ b)
joined_all P [] b front back = back
joined_all P (r ∷ a) b front back = (front.0, joined_all P a b front.1 back)

module _ (contents : ℕ → List ℕ) where
  abbrev all_of : List ℕ → List WideRec
  all_of words = flat_map (λ word. records_of (contents word)) words

  abbrev HaveSpans : List ℕ → Type 0
  HaveSpans words = AllByRecursion (λ word. AllByRecursion HasSpan (records_of (contents word))) words

  have_spans : (words : List ℕ) → AllByRecursion (λ word. IsBytes (contents word)) words → AllByRecursion (λ word. file_refusal (contents word) ≡ None) words → HaveSpans words
  have_spans [] bytes accepted = tt
  have_spans (word ∷ words) bytes accepted = search (recursion_from_All, spans_of_file, have_spans words bytes.1 accepted.1)

  -- their records have no conflict, and spans
  record AreJoined (words : List ℕ) : Type 0 where
    pub none : conflict_of empty_content (all_of words) ≡ None
    pub spans : AllByRecursion HasSpan (all_of words)

  module _ (words : List ℕ) (files : AreProfileFiles contents words) where
    joined_from : (before rest : List ℕ) → words ≡ before ++ rest → HaveSpans rest → AreJoined before → AreJoined (before ++ rest)
    joined_from before [] is spans joined = subst AreJoined (sym (append-nil before)) joined
    joined_from before (word ∷ rest) is spans joined =
        let like = files.alike before word rest is in
        let here = records_of (contents word) in
        let both = joined_all HasSpan (all_of before) here joined.spans spans.0 in
        let next = alike_joined (all_of before) here (All-from_recursion HasSpan (all_of before ++ here) both) joined.none like.itself like.others in
        let front : all_of before ++ here ≡ all_of (before ++ word ∷ []) =
        ap (λ (recs : List WideRec). all_of before ++ recs) (sym (append-nil here)) ∙ sym (flat_map-append (λ w. records_of (contents w)) before (word ∷ [])) in
        let grouped : (before ++ word ∷ []) ++ rest ≡ before ++ word ∷ rest = append_assoc before (word ∷ []) rest in
        let more : AreJoined (before ++ word ∷ []) = record {
          none = subst (λ (recs : List WideRec). conflict_of empty_content recs ≡ None) front next;
          spans = subst (λ (recs : List WideRec). AllByRecursion HasSpan recs) front both;
        } in
        subst AreJoined grouped (joined_from (before ++ word ∷ []) rest (is ∙ sym grouped) spans.1 more)

pub alike_files : AlikeFilesHaveNoConflict
alike_files contents words files bytes =
    let joined = joined_from contents words files [] words refl (have_spans contents words bytes files.accepted) (record { none = refl; spans = tt }) in
    let ranges = ranges_of_content (all_of contents words) (All-from_recursion HasSpan (all_of contents words) joined.spans) joined.none in
    (joined.none, ranges.some, ranges.apart)
