-- A loop that adds items one by one, each as its records.
use Rattle.std.proofs.Common.{◌≡◌, ℕ, zero, suc, ◌+◌, ◌≤◌, List, [], ◌∷◌, ◌++◌, length, map, drop, slice_get, Some, refl, ap, subst, ◌∙◌}
use Rattle.std.specs.List.{AllByRecursion, flat_map}
use Rattle.std.proofs.lemmas.List.Concat.{flat_map-cons}
use Rattle.gmon_data.specs.declared.refusal.AddRefusal.{AddRefusal}
use Rattle.gmon_data.specs.Content.{Content, WideRec, with_records, IsAdded, IsStopped, IsWithin}
use Rattle.gmon_data.proofs.HistLemmas.{some_same}
use Rattle.gmon_data.proofs.RecordLemmas.{IsUnderway, at_end, cut_at, one_more, past_end, stop, within_next}

-- what holds of all holds of each
pub at_all : {A : Type 0} (P : A → Type 0) (xs : List A) (i : ℕ) (x : A) → AllByRecursion P xs → slice_get xs i ≡ Some x → P x
at_all P [] i x all at = absurd cc
at_all P (y ∷ ys) zero x all at = subst P (some_same y x at) all.0
at_all P (y ∷ ys) (suc i) x all at = at_all P ys i x all.1 at

-- the records of a list are those of its items, one after the other
pub record IsInTurn (X : Type 0) (each : X → List WideRec) (together : List X → List WideRec) : Type 0 where
  pub none : together [] ≡ []
  pub more : (x : X) (xs : List X) → together (x ∷ xs) ≡ each x ++ together xs

pub single : {X : Type 0} (f : X → WideRec) → IsInTurn X (λ x. f x ∷ []) (map f)
single f = record { none = refl; more = λ x xs. refl }

pub joined : {X : Type 0} (f : X → List WideRec) → IsInTurn X f (flat_map f)
joined f = record { none = refl; more = flat_map-cons f }

module _ {X : Type 0} {each : X → List WideRec} {together : List X → List WideRec} (turn : IsInTurn X each together) where
  module _ (xs : List X) (i : ℕ) (old now : Content) (w : IsUnderway (together xs) (together (drop i xs)) old now) where
    -- all items were added
    pub items_done : length xs ≤ i → IsAdded (together xs) old now
    items_done le = at_end (together xs) old now (subst (λ (l : List WideRec). IsUnderway (together xs) l old now) (ap together (past_end xs i le) ∙ turn.none) w)

    module _ (x : X) (at : slice_get xs i ≡ Some x) where
      next : IsUnderway (together xs) (each x ++ together (drop (i + 1) xs)) old now
      next = subst (λ (l : List WideRec). IsUnderway (together xs) l old now) (ap together (cut_at xs i x at) ∙ turn.more x (drop (i + 1) xs)) w

      -- the next one stays within the limits
      pub item_within : IsWithin (with_records (together xs) old) → IsWithin (with_records (each x) now)
      item_within = within_next (together xs) (each x) (together (drop (i + 1) xs)) old now next

      -- it was added
      pub item_added : (new : Content) → IsAdded (each x) now new → IsUnderway (together xs) (together (drop (i + 1) xs)) old new
      item_added = one_more (together xs) (each x) (together (drop (i + 1) xs)) old now next

      -- it was refused
      pub item_stopped : (refusal : AddRefusal) (new : Content) → IsStopped refusal (each x) now new → IsStopped refusal (together xs) old new
      item_stopped = stop (together xs) (each x) (together (drop (i + 1) xs)) old now next
