-- What calls that follow one another do.
use Rattle.std.proofs.Common.{◌≡◌, inl, inr, ℕ, zero, suc, Bool, true, false, ◌||◌, List, [], ◌∷◌, ◌++◌, Option, Some, None, Ok, refl, sym, ap, subst, ◌∙◌, append_assoc}
use Rattle.std.specs.Prelude.{string_bytes}
use Rattle.std.specs.declared.io.ErrorKind.{ErrorKind}
use Rattle.host_port.specs.Act.{File, with_file, has_file}
use Rattle.folder_system.specs.declared.folder.Found.{Found}
use Rattle.folder_system.specs.declared.folder.Attributes.{Attributes}
use Rattle.folder_system.specs.declared.place.Place.{Place}
use Rattle.folder_system.specs.declared.place.Place.TheVariants.{Beside as StandsBeside, In}
use Rattle.folder_system.specs.Found.{attributes_found}
use Rattle.folder_system.specs.Names.{numbered}
use Rattle.folder_system.specs.Events.{Event, Looked, Made, LookedAt, Opened, Removed, Answer, Sight, files_after}
use Rattle.folder_system.specs.Entries.{Spares}
use Rattle.folder_system.specs.Place.{has_failed_removal, failed_removal, mode_for, tries, IsQuiet, IsAlone, IsInPlace, IsPlaced, BeginsCarefully, IsMade, IsUnmade, IsBegun, IsBarred, IsBehindFinding, IsTidy, IsGivenUp}
use Rattle.folder_system.proofs.Follows.{files_append}
use Rattle.folder_system.proofs.Files.{made_and_removed}
use Rattle.folder_system.proofs.NameLemmas.{apart}

or_true : (b : Bool) → (b || true) ≡ true
or_true true = refl
or_true false = refl

pub spares_append : (name : List ℕ) (es gs : List Event) → Spares name es → Spares name gs → Spares name (es ++ gs)
spares_append name [] gs front back = back
spares_append name (e ∷ es) gs front back = (front.0, spares_append name es gs front.1 back)

pub removal_behind : (es gs : List Event) → has_failed_removal gs ≡ true → has_failed_removal (es ++ gs) ≡ true
removal_behind [] gs is = is
removal_behind (e ∷ es) gs is = ap (λ (b : Bool). failed_removal e || b) (removal_behind es gs is) ∙ or_true (failed_removal e)

-- ---- nothing was made

pub quiet_quiet : (name : List ℕ) (fs : List File) (es gs : List Event) → IsQuiet name fs es → IsQuiet name (files_after es fs) gs → IsQuiet name fs (es ++ gs)
quiet_quiet name fs es gs q r = record { spares = spares_append name es gs q.spares r.spares; files = files_append es gs fs ∙ r.files ∙ q.files }

pub not_made : (name own : List ℕ) (mode : ℕ) (kind : ErrorKind) (fs : List File) → IsQuiet name fs (Made own mode (Some kind) ∷ [])
not_made name own mode kind fs = record { spares = (refl, tt); files = refl }

pub tries_quiet : (name : List ℕ) (mode n : ℕ) (fs : List File) → IsQuiet name fs (tries name mode n)
tries_quiet name mode zero fs = record { spares = tt; files = refl }
tries_quiet name mode (suc n) fs = search (quiet_quiet, not_made, tries_quiet name mode n fs)

tidy_behind : (name : List ℕ) (fs : List File) (es gs : List Event) → files_after es fs ≡ fs → IsTidy name (files_after es fs) gs → IsTidy name fs (es ++ gs)
tidy_behind name fs es gs same (inl none) = inl (files_append es gs fs ∙ none ∙ same)
tidy_behind name fs es gs same (inr left) = inr (record {
  own = left.own;
  next_to = left.next_to;
  fresh = ap (has_file left.own) (sym same) ∙ left.fresh;
  failed = removal_behind es gs left.failed;
  files = files_append es gs fs ∙ left.files ∙ ap (with_file left.own []) same;
})

pub quiet_given_up : (name : List ℕ) (fs : List File) (es gs : List Event) → IsQuiet name fs es → IsGivenUp name (files_after es fs) gs → IsGivenUp name fs (es ++ gs)
quiet_given_up name fs es gs q r = search (spares_append, tidy_behind)

pub given_up : (name : List ℕ) (fs : List File) (es : List Event) → IsQuiet name fs es → IsGivenUp name fs es
given_up name fs es q = record { spares = q.spares; tidy = inl q.files }

-- ---- a file beside

module _ (name own : List ℕ) (mode : ℕ) (looks : List Event) (fs : List File) (es : List Event) where
  made_spares : Spares name looks → IsMade name own mode looks fs es → Spares name es
  made_spares spared m = subst (Spares name) (sym m.is) (spares_append name (tries name mode m.number) (Made own mode None ∷ looks) (tries_quiet name mode m.number fs).spares (apart name m.number own m.next_to, spared))

  made_files : ((gs : List File) → files_after looks gs ≡ gs) → IsMade name own mode looks fs es → files_after es fs ≡ with_file own [] fs
  made_files same m =
      ap (λ (l : List Event). files_after l fs) m.is ∙ files_append (tries name mode m.number) (Made own mode None ∷ looks) fs
      ∙ same (with_file own [] (files_after (tries name mode m.number) fs)) ∙ ap (with_file own []) (tries_quiet name mode m.number fs).files

begun_alone : (name own : List ℕ) (old : Option Attributes) (takes : Bool) (fs : List File) (es : List Event) → IsBegun name own old takes fs es → IsAlone name own fs es
begun_alone name own None takes fs es b = record { spares = made_spares name own 438 [] fs es tt b.0; fresh = b.0.fresh; files = made_files name own 438 [] fs es (λ gs. refl) b.0 }
begun_alone name own (Some old) takes fs es b =
    record { spares = made_spares name own (mode_for (Some old)) (LookedAt b.0 ∷ []) fs es (refl, tt) b.1; fresh = b.1.fresh; files = made_files name own (mode_for (Some old)) (LookedAt b.0 ∷ []) fs es (λ gs. refl) b.1 }

pub made_seen : (name own : List ℕ) (mode : ℕ) (fs : List File) (es looks : List Event) → IsMade name own mode [] fs es → IsMade name own mode looks fs (es ++ looks)
made_seen name own mode fs es looks m = record {
  number = m.number;
  next_to = m.next_to;
  fresh = m.fresh;
  is = ap (λ (l : List Event). l ++ looks) m.is ∙ append_assoc (tries name mode m.number) (Made own mode None ∷ []) looks;
}

pub unmade_quiet : (name : List ℕ) (mode : ℕ) (fs : List File) (es : List Event) → IsUnmade name mode fs es → IsQuiet name fs es
unmade_quiet name mode fs es (inl u) = subst (IsQuiet name fs) (sym u.is)
    (quiet_quiet name fs (tries name mode u.number) (Made (numbered name u.number) mode (Some u.kind) ∷ []) (tries_quiet name mode u.number fs) (not_made name (numbered name u.number) mode u.kind (files_after (tries name mode u.number) fs)))
unmade_quiet name mode fs es (inr all) = subst (IsQuiet name fs) (sym all) (tries_quiet name mode 1000 fs)

removed_files : (own : List ℕ) (fs : List File) (es : List Event) → files_after es fs ≡ with_file own [] fs → has_file own fs ≡ false → files_after (es ++ Removed own None ∷ []) fs ≡ fs
removed_files own fs es is fresh = files_append es (Removed own None ∷ []) fs ∙ ap (files_after (Removed own None ∷ [])) is ∙ made_and_removed own fs fresh

module _ (name own : List ℕ) (old : Attributes) (fs : List File) (es : List Event) (seen : Sight) (m : IsMade name own (mode_for (Some old)) [] fs es) where
  both_spare : Spares name (es ++ LookedAt seen ∷ [])
  both_spare = spares_append name es (LookedAt seen ∷ []) (made_spares name own (mode_for (Some old)) [] fs es tt m) (refl, tt)

  both_files : files_after (es ++ LookedAt seen ∷ []) fs ≡ with_file own [] fs
  both_files = files_append es (LookedAt seen ∷ []) fs ∙ made_files name own (mode_for (Some old)) [] fs es (λ gs. refl) m

  removed_spare : (answer : Answer) → Spares name ((es ++ LookedAt seen ∷ []) ++ Removed own answer ∷ [])
  removed_spare None = spares_append name (es ++ LookedAt seen ∷ []) (Removed own None ∷ []) both_spare (apart name m.number own m.next_to, tt)
  removed_spare (Some failure) = spares_append name (es ++ LookedAt seen ∷ []) (Removed own (Some failure) ∷ []) both_spare (refl, tt)

  pub foreign_quiet : IsQuiet name fs ((es ++ LookedAt seen ∷ []) ++ Removed own None ∷ [])
  foreign_quiet = record { spares = removed_spare None; files = removed_files own fs (es ++ LookedAt seen ∷ []) both_files m.fresh }

  tidy_removed : (answer : Answer) → IsTidy name fs ((es ++ LookedAt seen ∷ []) ++ Removed own answer ∷ [])
  tidy_removed None = inl (removed_files own fs (es ++ LookedAt seen ∷ []) both_files m.fresh)
  tidy_removed (Some failure) = inr (record {
    own = own;
    next_to = (m.number, m.next_to);
    fresh = m.fresh;
    failed = removal_behind (es ++ LookedAt seen ∷ []) (Removed own (Some failure) ∷ []) refl;
    files = files_append (es ++ LookedAt seen ∷ []) (Removed own (Some failure) ∷ []) fs ∙ both_files;
  })

  pub foreign_given_up : (answer : Answer) → IsGivenUp name fs ((es ++ LookedAt seen ∷ []) ++ Removed own answer ∷ [])
  foreign_given_up answer = record { spares = removed_spare answer; tidy = tidy_removed answer }

-- ---- none beside

pub barred_quiet : (name : List ℕ) (old : Option Attributes) (fs : List File) (es : List Event) → IsBarred name old fs es → IsQuiet name fs es
barred_quiet name None fs es u = unmade_quiet name 438 fs es u
barred_quiet name (Some old) fs es (inl u) = unmade_quiet name (mode_for (Some old)) fs es u
barred_quiet name (Some old) fs es (inr u) = subst (IsQuiet name fs) (sym u.is) (foreign_quiet name u.own old fs u.front u.seen u.made)

-- ---- what was found, and then an output beside it

found_quiet : (name : List ℕ) (found : Found) (fs : List File) → IsQuiet name fs (Looked name (Ok found) ∷ [])
found_quiet name found fs = record { spares = (refl, tt); files = refl }

pub beside_alone : (name own : List ℕ) (old : Option Attributes) (takes : Bool) (fs : List File) (es : List Event) → IsBehindFinding name (λ was fs es. (old ≡ was) × IsBegun name own was takes fs es) fs es → IsAlone name own fs es
beside_alone name own old takes fs es b =
    let begun = begun_alone name own (attributes_found b.found) takes fs b.behind b.so.1 in
    subst (IsAlone name own fs) (sym b.is) (record { spares = (refl, begun.spares); fresh = begun.fresh; files = begun.files })

Before : List ℕ → List File → List Event → Type 0
Before name fs es = (before : List Event) × (es ≡ before ++ Opened name None ∷ []) × IsQuiet name fs before

in_place : (name : List ℕ) (fs : List File) (es : List Event) → IsInPlace name fs es → Before name fs es
unfolding Before
in_place name fs es (inl o) = (Looked name (Ok o.found) ∷ [], o.is, found_quiet name o.found fs)
in_place name fs es (inr b) = (
  Looked name (Ok b.found) ∷ b.so.front,
  b.is ∙ ap (λ (l : List Event). Looked name (Ok b.found) ∷ l) b.so.is,
  quiet_quiet name fs (Looked name (Ok b.found) ∷ []) b.so.front (found_quiet name b.found fs) (barred_quiet name (attributes_found b.found) fs b.so.front b.so.barred),
)

pub careful : (name : List ℕ) (place : Place) (fs : List File) (es : List Event) → IsPlaced name place fs es → BeginsCarefully name place fs es
unfolding Before
careful name (StandsBeside beside) fs es p = beside_alone name (string_bytes beside.own) beside.old beside.takes fs es p.1
careful name (In held) fs es p = in_place name fs es p.1
