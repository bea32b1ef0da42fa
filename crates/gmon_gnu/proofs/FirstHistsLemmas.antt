-- A conflict among the first histograms with counters is the first one of the file.
use Rattle.std.proofs.Common.{◌≡◌, ℕ, zero, suc, Bool, true, false, List, [], ◌∷◌, map, take, Option, Some, None, Result, Ok, Err, if◌then◌else◌, refl, sym, ap, ◌∙◌}
use Rattle.std.specs.Prelude.{IfSome, unwrap_or}
use Rattle.std.specs.List.{filter}
use Rattle.std.specs.Option.{option_or}
use Rattle.std.proofs.lemmas.Option.{IfSome_then}
use Rattle.gp_base.specs.declared.records.RawArc.{RawArc}
use Rattle.gp_base.specs.declared.records.Unit as units
use Rattle.gmon_data.specs.declared.hist.Hist.{Hist}
use Rattle.gmon_data.specs.declared.refusal.AddRefusal.{AddRefusal}
use Rattle.gmon_data.specs.declared.refusal.AddRefusal.TheVariants as answers
use Rattle.gmon_data.specs.declared.refusal.ReadRefusal.{ReadRefusal}
use Rattle.gmon_data.specs.declared.refusal.ReadRefusal.TheVariants.{Profile}
use Rattle.gmon_data.specs.declared.refusal.Unlike.{Unlike}
use Rattle.gmon_data.specs.Content.{Content, WideRec, WideHist, WideArc, WideBlock, conflict_of, empty_content, wide_arc, with_arc, with_block}
use Rattle.gmon_data.specs.Hists.{conflict_with, has_counters, kept_unit, put_hist, range_of}
use Rattle.gmon_data.proofs.RecordLemmas.{arcs_accepted}
use Rattle.gmon_gnu.specs.FirstHists.{conflict_among_first, is_counted}

-- ---- it is the first conflict of records

-- a histogram is added where it has counters
abbrev pub put_where : Bool → Hist → units.Unit → Content → Content
put_where b h v c = if b then record c { hists = put_hist h c.hists; «unit» = Some (unwrap_or c.«unit» (kept_unit v)) } else c

abbrev pub conflict_where : Bool → Hist → units.Unit → Content → Option Unlike
conflict_where b h v c = if b then conflict_with c.hists c.«unit» (range_of h) (kept_unit v) else None

either : (o x y : Option Unlike) (u : Unlike) → option_or o x ≡ Some u → (x ≡ Some u → y ≡ Some u) → option_or o y ≡ Some u
either None x y u is others = others is
either (Some w) x y u is others = is

is_first : (recs : List WideRec) (n : ℕ) (c d : Content) → c.hists ≡ d.hists → c.«unit» ≡ d.«unit» → (u : Unlike) → conflict_of d (take n (filter is_counted recs)) ≡ Some u → conflict_of c recs ≡ Some u
is_first [] zero c d hists own u is = cc
is_first [] (suc n) c d hists own u is = cc
is_first (WideArc from to count ∷ recs) n c d hists own u is = is_first recs n (with_arc from to count c) d hists own u is
is_first (WideBlock addr count ∷ recs) n c d hists own u is = is_first recs n (with_block addr count c) d hists own u is
is_first (WideHist h v ∷ recs) n c d hists own u is = by (has_counters h) refl n is (λ m e f p q r. is_first recs m e f p q u r)
  where
    by : (b : Bool) → has_counters h ≡ b → (n : ℕ) → conflict_of d (take n (if b then WideHist h v ∷ filter is_counted recs else filter is_counted recs)) ≡ Some u
        → ((m : ℕ) (e f : Content) → e.hists ≡ f.hists → e.«unit» ≡ f.«unit» → conflict_of f (take m (filter is_counted recs)) ≡ Some u → conflict_of e recs ≡ Some u)
        → conflict_of c (WideHist h v ∷ recs) ≡ Some u
    by false e n is others = ap (λ (b : Bool). option_or (conflict_where b h v c) (conflict_of (put_where b h v c) recs)) e ∙ others n c d hists own is
    by true e zero is others = absurd (let none : None ≡ Some u = is in cc)
    by true e (suc m) is others =
        let rest = take m (filter is_counted recs) in
        let due = sym (ap (λ (b : Bool). option_or (conflict_where b h v d) (conflict_of (put_where b h v d) rest)) e) ∙ is in
        let here = (λ i. option_or (conflict_where true h v (record d { hists = hists i; «unit» = own i })) (conflict_of (put_where true h v d) rest)) ∙ due in
        ap (λ (b : Bool). option_or (conflict_where b h v c) (conflict_of (put_where b h v c) recs)) e
        ∙ either (conflict_where true h v c) (conflict_of (put_where true h v d) rest) (conflict_of (put_where true h v c) recs) u here
        (others m (put_where true h v c) (put_where true h v d) (ap (put_hist h) hists) (ap (λ (o : Option units.Unit). let x : Option units.Unit = Some (unwrap_or o (kept_unit v)) in x) own))

pub first_told : (n : ℕ) (recs : List WideRec) → IfSome (conflict_among_first n recs) (λ u. conflict_of empty_content recs ≡ Some u)
first_told n recs = by (conflict_among_first n recs) refl
  where
    by : (o : Option Unlike) → conflict_among_first n recs ≡ o → IfSome o (λ u. conflict_of empty_content recs ≡ Some u)
    by None is = tt
    by (Some u) is = is_first recs n empty_content empty_content refl refl u is

-- ---- what is told of the records is told of the file

abbrev Tells : Result Content AddRefusal → Unlike → Type 0
Tells answer u = answer ≡ Err (answers.Unlike u)

abbrev pub IsAnswer : Result Content AddRefusal → Option Unlike → Type 0
IsAnswer answer o = IfSome o (Tells answer)

abbrev pub IsFileAnswer : Result Content ReadRefusal → Option Unlike → Type 0
IsFileAnswer answer o = IfSome o (λ u. answer ≡ Err (Profile (answers.Unlike u)))

-- where nothing is in conflict nothing is told
pub nothing_told : (n : ℕ) (recs : List WideRec) (P : Unlike → Type 0) → conflict_of empty_content recs ≡ None → IfSome (conflict_among_first n recs) P
nothing_told n recs P none = IfSome_then (conflict_among_first n recs) (first_told n recs) (λ u is. absurd (let same : None ≡ Some u = sym none ∙ is in cc))

pub made_told : (n : ℕ) (recs : List WideRec) (profile : Content) → conflict_of empty_content recs ≡ None → IsAnswer (Ok profile) (conflict_among_first n recs)
made_told n recs profile none = nothing_told n recs (Tells (Ok profile)) none

-- a refusal with a conflict has the one that is told
pub conflict_told : (n : ℕ) (recs : List WideRec) (unlike : Unlike) → conflict_of empty_content recs ≡ Some unlike → IsAnswer (Err (answers.Unlike unlike)) (conflict_among_first n recs)
conflict_told n recs unlike told = IfSome_then (conflict_among_first n recs) (first_told n recs) (λ u is. let same : Some unlike ≡ Some u = sym told ∙ is in cc)

pub refusal_told : (refusal : AddRefusal) (o : Option Unlike) → IsAnswer (Err refusal) o → IsFileAnswer (Err (Profile refusal)) o
refusal_told refusal o told = IfSome_then o told (λ u is. cc)

pub profile_told : (profile : Content) (o : Option Unlike) → IsAnswer (Ok profile) o → IsFileAnswer (Ok profile) o
profile_told profile o told = IfSome_then o told (λ u is. cc)

-- one histogram in front of arcs is in conflict with nothing
pub one_alone : (h : Hist) (v : units.Unit) (arcs : List RawArc) → conflict_of empty_content (WideHist h v ∷ map wide_arc arcs) ≡ None
one_alone h v arcs = by (has_counters h)
  where
    by : (b : Bool) → option_or (conflict_where b h v empty_content) (conflict_of (put_where b h v empty_content) (map wide_arc arcs)) ≡ None
    by true = arcs_accepted arcs (put_where true h v empty_content)
    by false = arcs_accepted arcs empty_content
