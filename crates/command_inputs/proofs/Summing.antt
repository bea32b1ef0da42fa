-- Profile files were read and added up, as the words ask for it.
use Rattle.std.proofs.Common.{◌≡◌, ℕ, ◌+◌, ◌-◌, ◌<◌, ◌≤◌, false, List, [], ◌∷◌, ◌++◌, append-nil, length, Option, Some, None, Err, inl, refl, sym, ap, ◌∙◌, arith}
use Rattle.std.specs.Prelude.{IfSome, MatchOption, ⊤}
use Rattle.std.specs.List.{AllByRecursion, flat_map}
use Rattle.std.proofs.lemmas.List.Concat.{flat_map-append}
use Rattle.gp_base.specs.declared.records.Unit as units
use Rattle.gmon_data.specs.declared.hist.Hist.{Hist}
use Rattle.gmon_data.specs.Content.{Content, IsProfile, WideRec, content_of, empty_content, conflict_of, wide_records, with_records}
use Rattle.gmon_data.specs.declared.refusal.AddRefusal.{AddRefusal}
use Rattle.gmon_data.specs.declared.refusal.AddRefusal.TheVariants as adding
use Rattle.gmon_data.specs.declared.refusal.Unlike.{Unlike as Difference}
use Rattle.gmon_data.specs.Hists.{IsUnitOf, IsUnlike}
use Rattle.gp_base.specs.declared.records.Records.{Records}
use Rattle.host_port.specs.Act.{Disk, File}
use Rattle.host_port.specs.Outside.{Becomes, Outside}
use Rattle.host_port.proofs.Laws.{Becomes-then}
use Rattle.profile_sum.specs.Sum.{sum_of, clash_of, IsClash}
use Rattle.profile_sum.specs.declared.refusal.SumRefusal.{SumRefusal}
use Rattle.profile_sum.specs.declared.refusal.SumRefusal.TheVariants as summing
use Rattle.courses.specs.declared.outcome.Fault.{Fault}
use Rattle.courses.specs.declared.outcome.Fault.TheVariants.{Unlike}
use Rattle.courses.specs.Course.{Course, takes_no_memory, unless}
use Rattle.gmon_files.specs.Forms.{file_records}
use Rattle.command_inputs.specs.Totals.{records_of}
use Rattle.courses.specs.Answer.{profiles, profile_in, add_fault_of, sum_fault_of}
use Rattle.courses.specs.Contract.{Acted}
use Rattle.command_inputs.specs.Reading.{HasRead, MayYetStop, added_up}
use Rattle.courses.specs.Standing.{Stands, MayStopHere}
use Rattle.profile_sum.proofs.ContentLemmas.{content_is_added, content_sum}
use Rattle.courses.proofs.Standing.{weaker, no_memory, may_stop_unless, refuses}

-- what the command does with a file's profile
abbrev pub summed_up : ℕ → ℕ → Content → List ℕ → (Content → Course) → ℕ → Content → Course
summed_up word left total more next len profile =
    unless (λ unlike. Unlike unlike word) (clash_of total profile) (profiles more (left - len) (sum_of total profile) next)

-- a conflict isn't found without memory
unlike_takes : (word : ℕ) (due : Option Difference) → IfSome due (λ unlike. takes_no_memory (Unlike unlike word) ≡ false)
unlike_takes word None = tt
unlike_takes word (Some unlike) = refl

pub may_stop_profiles : (contents : ℕ → List ℕ) (more : List ℕ) (left : ℕ) (total : Content) (next : Content → Course) → MayYetStop next → MayStopHere contents (profiles more left total next)
may_stop_profiles contents [] left total next may = may contents total
may_stop_profiles contents (word ∷ more) left total next may = (inl refl, refl)

pub may_stop_summed : (word left : ℕ) (total : Content) (more : List ℕ) (next : Content → Course) → MayYetStop next → (len : ℕ) → MayYetStop (summed_up word left total more next len)
may_stop_summed word left total more next may len = search (may_stop_unless, unlike_takes, may_stop_profiles)

module _ (words : List (List ℕ)) (start new : Outside) (below word : ℕ) where
  abbrev fault : Difference → Fault
  fault unlike = Unlike unlike word

  -- a file's own histograms
  module _ (next : ℕ → Content → Course) (len : ℕ) (records : Records) (may : MayYetStop (next len)) (s : Stands words start new below [] (added_up word next len records)) where
    abbrev conflict : Option Difference
    conflict = conflict_of empty_content (wide_records records.recs)

    -- they can't be added up
    pub not_added : (refusal : AddRefusal) → IsUnlike refusal conflict → Acted words start new (Err (add_fault_of refusal word))
    not_added adding.OutOfMemory is = search (no_memory, may_stop_unless, unlike_takes)
    not_added (adding.Unlike unlike) is = refuses words start new below [] fault conflict (next len (profile_in records)) unlike s is tt

    pub one_added : (profile : Content) → conflict ≡ None → profile ≡ with_records (wide_records records.recs) empty_content → Stands words start new below [] (next len profile)
    one_added profile accepted is = grind (arith, content_is_added)

  -- and those of earlier files
  module _ (left : ℕ) (total : Content) (more : List ℕ) (next : Content → Course) (len : ℕ) (profile : Content) (may : MayYetStop next)
      (s : Stands words start new below [] (summed_up word left total more next len profile)) where
    abbrev rest : Course
    rest = profiles more (left - len) (sum_of total profile) next

    -- they can't be added to those
    pub not_summed : (refusal : SumRefusal) → IsClash refusal (clash_of total profile) → Acted words start new (Err (sum_fault_of refusal word))
    not_summed summing.OutOfMemory due = search (no_memory, may_stop_unless, unlike_takes, may_stop_profiles)
    not_summed (summing.Unlike unlike) due = refuses words start new below [] fault (clash_of total profile) rest unlike s due tt

    pub summed : (sum : Content) → clash_of total profile ≡ None → sum ≡ sum_of total profile → Stands words start new below [] (profiles more (left - len) sum next)
    summed sum none added = grind arith

-- ---- a total that holds nothing

no_hists : {A : Type 0} (xs : List A) → length xs ≡ 0 → xs ≡ []
no_hists [] none = refl
no_hists (x ∷ xs) none = absurd (omega (arith, none))

no_unit : (hists : List Hist) (o : Option units.Unit) → hists ≡ [] → IsUnitOf hists o → o ≡ None
no_unit [] o none is = is
no_unit (h ∷ hists) o none is = absurd cc

pub holds_nothing : (p : Content) → IsProfile p → length p.hists ≡ 0 → length p.arcs ≡ 0 → length p.blocks ≡ 0 → p ≡ empty_content
holds_nothing p is hists arcs blocks = grind (arith, no_hists)

pub nothing_added : empty_content ≡ content_of []
unfolding content_of
nothing_added = refl

pub first_sum : (recs : List WideRec) → sum_of empty_content (with_records recs empty_content) ≡ with_records recs empty_content
first_sum recs =
    let same = content_is_added recs in
    ap (λ (p : Content). sum_of p (with_records recs empty_content)) nothing_added ∙ ap (sum_of (content_of [])) (sym same) ∙ content_sum [] recs ∙ same

-- ---- words that are left

pub all_from_0 : (gmons : List ℕ) → AllByRecursion (λ word. 0 ≤ word) gmons
all_from_0 [] = tt
all_from_0 (word ∷ gmons) = (omega arith, all_from_0 gmons)

pub all_behind : (word : ℕ) (gmons : List ℕ) → AllByRecursion (λ y. word < y) gmons → AllByRecursion (λ y. word + 1 ≤ y) gmons
all_behind word [] all = tt
all_behind word (y ∷ gmons) all = (omega (arith, all.0), all_behind word gmons all.1)

-- ---- what was read, where it is told

-- one thing was read, and then another
pub read_both : (a b c : Outside) (P Q R : List File → Type 0) → ((files : List File) → P files → Q files → R files) → HasRead a b P → HasRead b c Q → HasRead a c R
read_both a b c P Q R then first second = record {
  same = Becomes-then (λ d. d) (λ d. d) a.disk b.disk c.disk first.same second.same;
  told = by a.disk b.disk c.disk first.same first.told second.same second.told;
}
  where
    by : (x y z : Option Disk) → Becomes (λ d. d) x y → MatchOption y ⊤ (λ _. IfSome x (λ d. P d.files)) → Becomes (λ d. d) y z → MatchOption z ⊤ (λ _. IfSome y (λ d. Q d.files)) → MatchOption z ⊤ (λ _. IfSome x (λ d. R d.files))
    by x y None same p more q = tt
    by x None (Some z) same p more q = absurd cc
    by None (Some y) (Some z) same p more q = absurd cc
    by (Some x) (Some y) (Some z) same p more q = grind arith

pub read_weaker : (a c : Outside) (P R : List File → Type 0) → ((files : List File) → P files → R files) → HasRead a c P → HasRead a c R
read_weaker a c P R h read = record { same = read.same; told = weaker a.disk c.disk P R h read.told }

module _ (contents : ℕ → List ℕ) where
  abbrev pub all_records : List ℕ → List WideRec
  all_records words = flat_map (λ word. records_of (contents word)) words

  pub total_more : (earlier : List ℕ) (word : ℕ) (total : Content) → total ≡ content_of (all_records earlier) → sum_of total (profile_in (file_records (contents word))) ≡ content_of (all_records (earlier ++ word ∷ []))
  total_more earlier word total is = grind (arith, append-nil, flat_map-append, content_sum)
