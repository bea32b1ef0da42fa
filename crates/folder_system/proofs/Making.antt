-- How a file is made beside the named one, or the named one is opened in place.
use native.Mathlib.Omega.{arith}
use Rattle.std.proofs.Common.{◌≡◌, inl, inr, ℕ, suc, ◌+◌, true, false, List, [], ◌∷◌, ◌++◌, Option, Some, None, Ok, Err, refl, sym, ap, subst, ◌∙◌}
use Rattle.std.specs.Result.{result_unwrap_or}
use Rattle.std.specs.Prelude.{Result, IfOk, IfSome, OnOk, OnErr, MatchOption, ⊤, string_bytes}
use Rattle.std.specs.declared.io.Error.{Error}
use Rattle.std.specs.declared.io.ErrorKind.{ErrorKind}
use Rattle.host_port.specs.Act.{File, has_file}
use Rattle.host_port.specs.Outside.{Becomes}
use Rattle.folder_system.specs.declared.folder.Found.{Found}
use Rattle.folder_system.specs.declared.folder.Attributes.{Attributes}
use Rattle.folder_system.specs.declared.place.Place.{Place}
use Rattle.folder_system.specs.declared.place.Place.TheVariants.{Beside as StandsBeside, In}
use Rattle.folder_system.specs.Names.{numbered}
use Rattle.folder_system.specs.Events.{Event, Looked, Made, LookedAt, Opened, Removed, History, Answer, Sight, after, Follows, files_after, found_by}
use Rattle.std.specs.declared.io.ErrorKind.TheVariants.{AlreadyExists}
use Rattle.folder_system.specs.declared.folder.Found.TheVariants.{Other}
use Rattle.folder_system.specs.Found.{bars_found, attributes_found, is_owned, is_like}
use Rattle.folder_system.specs.Kinds.{is_barring}
use Rattle.folder_system.specs.Place.{AreTaken, IsQuiet, IsMade, IsUnmade, IsBegun, IsBarred, IsGivenUp, IsInstead, IsOpened, IsOverFound, IsIn, IsPlaced, IsStanding, mode_for, seen_in, tries}
use Rattle.folder_system.proofs.Follows.{then_calls, one_call, one_call_at, then_call, restate}
use Rattle.folder_system.proofs.Calls.{quiet_quiet, quiet_given_up, given_up, not_made, tries_quiet, made_seen, foreign_given_up, barred_quiet}

plus_one : (n : ℕ) → suc n ≡ n + 1
plus_one n = omega arith

module _ (name : List ℕ) where
  pub one_more : (own : List ℕ) (mode n : ℕ) (kind : ErrorKind) (a b c : Option History) → own ≡ numbered name n → kind ≡ AlreadyExists → Follows (AreTaken name mode n) a b → Becomes (after (Made own mode (Some kind))) b c → Follows (AreTaken name mode (n + 1)) a c
  one_more own mode n kind a b c next taken front done = subst (λ (m : ℕ). Follows (AreTaken name mode m) a c) (plus_one n) (then_call (AreTaken name mode n) (AreTaken name mode (suc n)) (Made own mode (Some kind)) a b c (λ fs es is. ap (λ (l : List Event). l ++ Made own mode (Some kind) ∷ []) is ∙ (λ i. tries name mode n ++ Made (next i) mode (Some (taken i)) ∷ [])) front done)

  First : (own : List ℕ) (mode : ℕ) → List File → List Event → Type 0
  First own mode fs es = (es ≡ Made own mode None ∷ []) × (has_file own fs ≡ false)

  first : (own : List ℕ) (mode : ℕ) (b : Option History) → IfSome b (λ h. has_file own h.files ≡ false) → IfSome b (λ h. First own mode h.files (Made own mode None ∷ []))
  unfolding First
  first own mode None fresh = tt
  first own mode (Some h) fresh = (refl, fresh)

  pub made_it : (own : List ℕ) (mode n : ℕ) (a b c : Option History) → own ≡ numbered name n → Follows (AreTaken name mode n) a b → IfSome b (λ h. has_file own h.files ≡ false) → Becomes (after (Made own mode None)) b c → Follows (IsMade name own mode []) a c
  unfolding First
  made_it own mode n a b c next front fresh done =
      then_calls (AreTaken name mode n) (First own mode) (IsMade name own mode []) a b c
      (λ fs es gs p r. record {
        number = n;
        next_to = next;
        fresh = ap (has_file own) (sym (ap (λ (l : List Event). files_after l fs) p ∙ (tries_quiet name mode n fs).files)) ∙ r.1;
        is = λ i. p i ++ r.0 i;
      })
      front (one_call_at (First own mode) (Made own mode None) b c (first own mode b fresh) done)

  pub barred_it : (own : List ℕ) (mode n : ℕ) (kind : ErrorKind) (a b c : Option History) → is_barring kind ≡ true → own ≡ numbered name n → Follows (AreTaken name mode n) a b → Becomes (after (Made own mode (Some kind))) b c → Follows (IsUnmade name mode) a c
  barred_it own mode n kind a b c bars next = then_call (AreTaken name mode n) (IsUnmade name mode) (Made own mode (Some kind)) a b c (λ fs es is. inl (record {
    number = n;
    kind = kind;
    is = ap (λ (l : List Event). l ++ Made own mode (Some kind) ∷ []) is ∙ (λ i. tries name mode n ++ Made (next i) mode (Some kind) ∷ []);
    bars = bars;
  }))

  pub all_taken : (mode n : ℕ) (a b : Option History) → n ≡ 1000 → Follows (AreTaken name mode n) a b → Follows (IsUnmade name mode) a b
  all_taken mode n a b all = restate (AreTaken name mode n) (IsUnmade name mode) a b (λ fs es is. inr (is ∙ ap (tries name mode) all))

  pub none_taken : (mode n : ℕ) (a b : Option History) → Follows (AreTaken name mode n) a b → Follows (IsGivenUp name) a b
  none_taken mode n a b = restate (AreTaken name mode n) (IsGivenUp name) a b (λ fs es is. given_up name fs es (subst (IsQuiet name fs) (sym is) (tries_quiet name mode n fs)))

  pub gave_up : (a b : Option History) → Follows (IsQuiet name) a b → Follows (IsGivenUp name) a b
  gave_up a b = restate (IsQuiet name) (IsGivenUp name) a b (given_up name)

  pub gave_up_making : (own : List ℕ) (mode n : ℕ) (kind : ErrorKind) (a b c : Option History) → Follows (AreTaken name mode n) a b → Becomes (after (Made own mode (Some kind))) b c → Follows (IsGivenUp name) a c
  gave_up_making own mode n kind a b c = then_call (AreTaken name mode n) (IsGivenUp name) (Made own mode (Some kind)) a b c
      (λ fs es is. given_up name fs (es ++ Made own mode (Some kind) ∷ []) (quiet_quiet name fs es (Made own mode (Some kind) ∷ []) (subst (IsQuiet name fs) (sym is) (tries_quiet name mode n fs)) (not_made name own mode kind (files_after es fs))))

  pub barred_making : (old : Option Attributes) (a b : Option History) → Follows (IsUnmade name (mode_for old)) a b → Follows (IsBarred name old) a b
  barred_making None a b did = did
  barred_making (Some old) a b did = restate (IsUnmade name (mode_for (Some old))) (IsBarred name (Some old)) a b (λ fs es u. inl u) did

  -- ---- a new file that is looked at

  pub begun_new : (own : List ℕ) (a b : Option History) → Follows (IsMade name own (mode_for None) []) a b → Follows (IsBegun name own None true) a b
  begun_new own a b = restate (IsMade name own (mode_for None) []) (IsBegun name own None true) a b (λ fs es m. (m, refl))

  module _ (own : List ℕ) (old : Attributes) (seen : Sight) (a b c : Option History) (made : Follows (IsMade name own (mode_for (Some old)) []) a b) (looked : Becomes (after (LookedAt seen)) b c) where
    pub owned : is_owned (seen_in seen) old ≡ true → Follows (IsBegun name own (Some old) (is_like (seen_in seen) old)) a c
    owned is = then_call (IsMade name own (mode_for (Some old)) []) (IsBegun name own (Some old) (is_like (seen_in seen) old)) (LookedAt seen) a b c
        (λ fs es m. (seen, made_seen name own (mode_for (Some old)) fs es (LookedAt seen ∷ []) m, is, refl)) made looked

    both : List File → List Event → Type 0
    both fs es = (front : List Event) × (es ≡ front ++ LookedAt seen ∷ []) × IsMade name own (mode_for (Some old)) [] fs front

    joined : Follows both a c
    unfolding both
    joined = then_call (IsMade name own (mode_for (Some old)) []) both (LookedAt seen) a b c (λ fs es m. (es, refl, m)) made looked

    pub foreign : (d : Option History) → is_owned (seen_in seen) old ≡ false → Becomes (after (Removed own None)) c d → Follows (IsBarred name (Some old)) a d
    unfolding both
    foreign d is removed =
        then_call both (IsBarred name (Some old)) (Removed own None) a c d
        (λ fs es h. inr (record { own = own; front = h.0; made = h.2; seen = seen; other = is; is = ap (λ (l : List Event). l ++ Removed own None ∷ []) h.1 }))
        joined removed

    pub dropped : (d : Option History) (answer : Answer) → Becomes (after (Removed own answer)) c d → Follows (IsGivenUp name) a d
    unfolding both
    dropped d answer removed =
        then_call both (IsGivenUp name) (Removed own answer) a c d
        (λ fs es h. subst (λ (l : List Event). IsGivenUp name fs (l ++ Removed own answer ∷ [])) (sym h.1) (foreign_given_up name own old fs h.0 seen h.2 answer))
        joined removed

  -- ---- in place

  pub opened_instead : (old : Option Attributes) (a b c : Option History) → Follows (IsBarred name old) a b → Follows (IsOpened name) b c → Follows (IsInstead name old) a c
  opened_instead old a b c = grind (arith, then_calls)

  pub not_instead : (old : Option Attributes) (a b c : Option History) → Follows (IsBarred name old) a b → Follows (IsQuiet name) b c → Follows (IsGivenUp name) a c
  not_instead old a b c = then_calls (IsBarred name old) (IsQuiet name) (IsGivenUp name) a b c (λ fs es gs p q. given_up name fs (es ++ gs) (quiet_quiet name fs es gs (barred_quiet name old fs es p) q))

  standing_in : (old : Option Attributes) (place : Place) (a c : Option History) → IsIn name place → Follows (IsInstead name old) a c → Follows (IsStanding name old place) a c
  standing_in old (StandsBeside beside) a c is did = absurd is
  standing_in old (In held) a c is did = restate (IsInstead name old) (IsStanding name old (In held)) a c (λ fs es p. (is, p)) did

  found_in : (place : Place) (a c : Option History) → IsIn name place → Follows (λ fs es. IsOverFound name es) a c → Follows (IsPlaced name place) a c
  found_in (StandsBeside beside) a c is did = absurd is
  found_in (In held) a c is did = restate (λ fs es. IsOverFound name es) (IsPlaced name (In held)) a c (λ fs es p. (is, inl p)) did

  placed_at : (found : Found) (place : Place) (a b c : Option History) → bars_found found ≡ false → Becomes (after (Looked name (Ok found))) a b → Follows (IsStanding name (attributes_found found) place) b c → Follows (IsPlaced name place) a c
  placed_at found (StandsBeside beside) a b c clear looked standing =
      then_calls (λ fs es. es ≡ Looked name (Ok found) ∷ []) (IsStanding name (attributes_found found) (StandsBeside beside)) (IsPlaced name (StandsBeside beside)) a b c
      (λ fs es gs p s. (s.0, record { found = found; clear = clear; behind = gs; is = ap (λ (l : List Event). l ++ gs) p; so = (s.1, subst (λ (l : List Event). IsBegun name (string_bytes beside.own) (attributes_found found) beside.takes (files_after l fs) gs) p s.2) }))
      (one_call (λ fs es. es ≡ Looked name (Ok found) ∷ []) (Looked name (Ok found)) a b (λ fs. refl) looked) standing
  placed_at found (In held) a b c clear looked standing =
      then_calls (λ fs es. es ≡ Looked name (Ok found) ∷ []) (IsStanding name (attributes_found found) (In held)) (IsPlaced name (In held)) a b c
      (λ fs es gs p s. (s.0, inr (record { found = found; clear = clear; behind = gs; is = ap (λ (l : List Event). l ++ gs) p; so = subst (λ (l : List Event). IsInstead name (attributes_found found) (files_after l fs) gs) p s.1 })))
      (one_call (λ fs es. es ≡ Looked name (Ok found) ∷ []) (Looked name (Ok found)) a b (λ fs. refl) looked) standing

  module _ {O : Type 0} where
    pub standing_ok : (old : Option Attributes) (r : Result (O × Place) Error) (a b c : Option History) → Follows (IsBarred name old) a b → OnOk r (Follows (IsOpened name) b c) → IfOk r (λ x. IsIn name x.1) → IfOk r (λ x. Follows (IsStanding name old x.1) a c)
    standing_ok old (Ok x) a b c barred opened is = standing_in old x.1 a c is (opened_instead old a b c barred opened)
    standing_ok old (Err e) a b c barred opened is = tt

    -- what was found is in the way
    pub over_ok : (found : Found) (r : Result (O × Place) Error) (a b c : Option History) → bars_found found ≡ true → Becomes (after (Looked name (Ok found))) a b → OnOk r (Follows (IsOpened name) b c) → IfOk r (λ x. IsIn name x.1) → IfOk r (λ x. Follows (IsPlaced name x.1) a c)
    over_ok found (Ok x) a b c bars looked opened is =
        found_in x.1 a c is
        (then_calls (λ fs es. es ≡ Looked name (Ok found) ∷ []) (IsOpened name) (λ fs es. IsOverFound name es) a b c
        (λ fs es gs p q. record { found = found; bars = bars; is = λ i. p i ++ q i }) (one_call (λ fs es. es ≡ Looked name (Ok found) ∷ []) (Looked name (Ok found)) a b (λ fs. refl) looked) opened)
    over_ok found (Err e) a b c bars looked opened is = tt

    pub instead_err : (old : Option Attributes) (r : Result (O × Place) Error) (a b c : Option History) → Follows (IsBarred name old) a b → OnErr r (Follows (IsQuiet name) b c) → OnErr r (Follows (IsGivenUp name) a c)
    instead_err old (Ok x) a b c barred not = tt
    instead_err old (Err e) a b c barred not = not_instead old a b c barred not

    pub quiet_err : (r : Result (O × Place) Error) (a b c : Option History) → Follows (IsQuiet name) a b → OnErr r (Follows (IsQuiet name) b c) → OnErr r (Follows (IsGivenUp name) a c)
    quiet_err (Ok x) a b c quiet not = tt
    quiet_err (Err e) a b c quiet not = then_calls (IsQuiet name) (IsQuiet name) (IsGivenUp name) a b c (λ fs es gs q r. given_up name fs (es ++ gs) (quiet_quiet name fs es gs q r)) quiet not

    pub given_up_behind : (r : Result (O × Place) Error) (a b c : Option History) → Follows (IsQuiet name) a b → OnErr r (Follows (IsGivenUp name) b c) → OnErr r (Follows (IsGivenUp name) a c)
    given_up_behind (Ok x) a b c quiet up = tt
    given_up_behind (Err e) a b c quiet up = then_calls (IsQuiet name) (IsGivenUp name) (IsGivenUp name) a b c (λ fs es gs q r. quiet_given_up name fs es gs q r) quiet up

    pub placed_behind : (found : Found) (old : Option Attributes) (r : Result (O × Place) Error) (a b c : Option History) → old ≡ attributes_found found → bars_found found ≡ false → Becomes (after (Looked name (Ok found))) a b → IfOk r (λ x. Follows (IsStanding name old x.1) b c) → IfOk r (λ x. Follows (IsPlaced name x.1) a c)
    placed_behind found old (Err e) a b c is clear looked standing = tt
    placed_behind found old (Ok x) a b c is clear looked standing =
        placed_at found x.1 a b c clear looked (subst (λ (o : Option Attributes). Follows (IsStanding name o x.1) b c) is standing)

  pub looked : (found : Found) (a b : Option History) → Becomes (after (Looked name (Ok found))) a b → Follows (IsQuiet name) a b
  looked found a b = one_call (IsQuiet name) (Looked name (Ok found)) a b (λ fs. record { spares = (refl, tt); files = refl })

  pub opened : (a b : Option History) → Becomes (after (Opened name None)) a b → Follows (IsOpened name) a b
  opened a b = one_call (IsOpened name) (Opened name None) a b (λ fs. refl)

-- what was seen, where a look that failed counts as one at something else
pub seen_by : (r : Result Found Error) (f : Found) → f ≡ result_unwrap_or r Other → f ≡ seen_in (found_by r)
seen_by (Ok found) f is = is
seen_by (Err e) f is = is

-- ---- at the arms of a match

pub made_at : {M : Type 0} (made : Option M) (m : M) → made ≡ Some m → (P : M → Type 0) → IfSome made P → P m
made_at {M = M} made m is P h = subst (λ (o : Option M). IfSome o P) is h

pub barred_at : {X : Type 0} (made : Option X) (P : Type 0) → made ≡ None → MatchOption made P (λ _. ⊤) → P
barred_at None P is h = h
barred_at (Some x) P is h = absurd cc

pub on_err : {T E : Type 0} (r : Result T E) (P : Type 0) → P → OnErr r P
on_err (Ok x) P h = tt
on_err (Err e) P h = h
