-- Arcs by ascending call site, and a table that is made of them.
use Rattle.std.proofs.Common.{◌≡◌, ℕ, zero, suc, ◌≤◌, ◌<◌, Bool, false, ◌&&◌, nat_eq, List, [], ◌∷◌, ◌++◌, Some, drop, slice_get, refl, sym, ap, subst, ◌∙◌, append_assoc, get_or, length, arith}
use Rattle.std.proofs.lemmas.Bool.Decides.{nat_tests}
use Rattle.std.proofs.lemmas.List.{append-nil, map-append}
use Rattle.std.specs.List.{AllByRecursion, IsDistinct}
use Rattle.std.specs.Map.{keys_of}
use Rattle.gp_base.specs.declared.records.RawArc.{RawArc}
use Rattle.gmon_data.specs.Arcs.{entries_of, entry_of, IsBehind, IsBySite, IsInOrder}
use Rattle.gmon_data.specs.Content.{same_ends}
use Rattle.gmon_data.specs.Tally.{tally, tally_all}
use Rattle.gmon_data.proofs.ContentLemmas.{pair-self, pair-equal}
use Rattle.gmon_data.proofs.LoopLemmas.{at_all}
use Rattle.gmon_data.proofs.TallyLemmas.{turned}

abbrev Entry : Type 0
Entry = (ℕ × ℕ) × ℕ

-- ---- a table of different keys

module _ {K : Type 0} (same : K → K → Bool) (symm : (x y : K) → same x y ≡ same y x) where
  -- a new key goes last
  pub tally_new : (k : K) (n : ℕ) (es : List (K × ℕ)) → AllByRecursion (λ e. same k e.0 ≡ false) es → tally same k n es ≡ es ++ (k, n) ∷ []
  tally_new k n [] new = refl
  tally_new k n (e ∷ es) new = search (tally_new k n es new.1)

  others : (d : K) (ds : List (K × ℕ)) (e : K × ℕ) (es : List (K × ℕ)) → AllByRecursion (λ y. same d y ≡ false) (keys_of (ds ++ e ∷ es)) → same d e.0 ≡ false
  others d [] e es all = all.0
  others d (x ∷ ds) e es all = others d ds e es all.1

  -- a key behind others is none of them
  new_behind : (ds : List (K × ℕ)) (e : K × ℕ) (es : List (K × ℕ)) → IsDistinct same (keys_of (ds ++ e ∷ es)) → AllByRecursion (λ d. same e.0 d.0 ≡ false) ds
  unfolding IsDistinct
  new_behind [] e es distinct = tt
  new_behind (d ∷ ds) e es distinct = (symm e.0 d.0 ∙ others d.0 ds e es distinct.0, new_behind ds e es distinct.1)

  behind_done : (es done : List (K × ℕ)) → IsDistinct same (keys_of (done ++ es)) → tally_all same es done ≡ done ++ es
  behind_done [] done distinct = sym (append-nil done)
  behind_done (e ∷ es) done distinct = grind (arith, append_assoc, tally_new, new_behind, behind_done es (done ++ e ∷ []))

  -- entries of different keys, added one after the other
  pub all_new : (es : List (K × ℕ)) → IsDistinct same (keys_of es) → tally_all same es [] ≡ es
  all_new es distinct = behind_done es [] distinct

-- ---- by call site

pub none_in_order : IsInOrder []
unfolding IsDistinct
none_in_order = record { by_site = tt; distinct = tt }

pub pair-symm : (p q : ℕ × ℕ) → same_ends p q ≡ same_ends q p
pair-symm = turned same_ends pair-self pair-equal

-- what holds of all and of one more
all_more : {A : Type 0} (P : A → Type 0) (xs : List A) (x : A) → AllByRecursion P xs → P x → AllByRecursion P (xs ++ x ∷ [])
all_more P [] x all mine = (mine, tt)
all_more P (y ∷ ys) x all mine = (all.0, all_more P ys x all.1 mine)

pub entry_at : (arcs : List RawArc) (i : ℕ) (arc : RawArc) → i < length arcs → slice_get (entries_of arcs) i ≡ Some (entry_of (get_or arcs i arc))
entry_at [] i arc inside = absurd (omega arith)
entry_at (x ∷ arcs) zero arc inside = refl
entry_at (x ∷ arcs) (suc i) arc inside = entry_at arcs i arc (omega arith)

pub entries_more : (arcs new : List RawArc) (arc : RawArc) → new ≡ arcs ++ arc ∷ [] → entries_of new ≡ entries_of arcs ++ entry_of arc ∷ []
entries_more arcs new arc is = ap entries_of is ∙ map-append entry_of arcs (arc ∷ [])

module _ (pair : ℕ × ℕ) where
  abbrev StandsBefore : Entry → Type 0
  StandsBefore e = (e.0.0 ≤ pair.0) × (same_ends pair e.0 ≡ false)

  lower : (e : Entry) → e.0.0 < pair.0 → StandsBefore e
  lower e below = let other : nat_eq pair.0 e.0.0 ≡ false = grind (arith, nat_tests) in (omega arith, rw other refl)

  -- those up to one of a lower call site, where the later ones are known
  pub behind_lower : (es : List Entry) (i : ℕ) (e : Entry) → IsBySite es → slice_get es i ≡ Some e → e.0.0 < pair.0 → IsBehind pair (drop (suc i) es) → IsBehind pair es
  behind_lower [] i e by_site at below later = absurd cc
  behind_lower (x ∷ es) zero e by_site at below later = let is : x ≡ e = cc in (lower x (subst (λ (y : Entry). y.0.0 < pair.0) (sym is) below), later)
  behind_lower (x ∷ es) (suc i) e by_site at below later = grind (arith, at_all, lower, behind_lower es i e by_site.1 at below later)

  both_false : (a b : Bool) → b ≡ false → (a && b) ≡ false
  both_false a b is = grind arith

  -- one more, of the same call site and another callee
  pub behind_another : (es : List Entry) (i : ℕ) (e : Entry) → slice_get es i ≡ Some e → e.0.0 ≡ pair.0 → nat_eq pair.1 e.0.1 ≡ false → IsBehind pair (drop (suc i) es) → IsBehind pair (drop i es)
  behind_another [] i e at same other later = absurd cc
  behind_another (x ∷ es) zero e at same other later = let is : e ≡ x = cc in (subst StandsBefore is (omega (arith, same), both_false (nat_eq pair.0 e.0.0) (nat_eq pair.1 e.0.1) other), later)
  behind_another (x ∷ es) (suc i) e at same other later = behind_another es i e at same other later

  -- a pair behind others is new, and they stay in order with it
  pub behind_new : (n : ℕ) (es : List Entry) → IsBehind pair es → tally same_ends pair n es ≡ es ++ (pair, n) ∷ []
  behind_new n es behind = tally_new same_ends pair-symm pair n es (none es behind)
    where
      none : (es : List Entry) → IsBehind pair es → AllByRecursion (λ e. same_ends pair e.0 ≡ false) es
      none [] all = tt
      none (e ∷ es) all = (all.0.1, none es all.1)

  pub behind_in_order : (n : ℕ) (es : List Entry) → IsBehind pair es → IsInOrder es → IsInOrder (es ++ (pair, n) ∷ [])
  unfolding IsDistinct
  behind_in_order n es behind in_order = record { by_site = by_site es behind in_order.by_site; distinct = distinct es behind in_order.distinct }
    where
      by_site : (es : List Entry) → IsBehind pair es → IsBySite es → IsBySite (es ++ (pair, n) ∷ [])
      by_site [] all sorted = (tt, tt)
      by_site (e ∷ es) all sorted = (all_more (λ later. e.0.0 ≤ later.0.0) es (pair, n) sorted.0 all.0.0, by_site es all.1 sorted.1)

      all_keys : (d : ℕ × ℕ) (es : List Entry) → AllByRecursion (λ y. same_ends d y ≡ false) (keys_of es) → same_ends d pair ≡ false → AllByRecursion (λ y. same_ends d y ≡ false) (keys_of (es ++ (pair, n) ∷ []))
      all_keys d [] all mine = (mine, tt)
      all_keys d (e ∷ es) all mine = (all.0, all_keys d es all.1 mine)

      distinct : (es : List Entry) → IsBehind pair es → IsDistinct same_ends (keys_of es) → IsDistinct same_ends (keys_of (es ++ (pair, n) ∷ []))
      distinct [] all apart = (tt, tt)
      distinct (e ∷ es) all apart = (all_keys e.0 es apart.0 (pair-symm e.0 pair ∙ all.0.1), distinct es all.1 apart.1)
