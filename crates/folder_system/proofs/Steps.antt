-- What calls leave at the named file, at every moment.
use Rattle.std.proofs.Common.{◌≡◌, ◌⊎◌, inl, inr, ℕ, zero, suc, Bool, true, false, ◌||◌, List, [], ◌∷◌, ◌++◌, take, Option, Some, None, refl, sym, ap, subst, ◌∙◌}
use Rattle.std.specs.Prelude.{bytes_eq, if◌then◌else◌}
use Rattle.folder_system.specs.Names.{folder_of}
use Rattle.folder_system.specs.Events.{Event, Made, Opened, Synced, Renamed, Removed, NamesSynced, Answer, is_stored}
use Rattle.folder_system.specs.Entries.{FileState, Whole, Torn, Entry, Entries, entries_after_event, entries_after, touches, Spares, written, IsAmong, IsCareful, IsCarefulInCrash}
use Rattle.folder_system.specs.declared.folder.Attributes.{Attributes}
use Rattle.folder_system.specs.declared.folder.Found.{Found}
use Rattle.folder_system.specs.Place.{moving, refusing, copying, settling, Settling, Unopened, Settled, Refusal, Unlike, Changed, Refused, IsHalted}
use Rattle.folder_system.proofs.Files.{same_name}

if_not : {T : Type 0} (b : Bool) (x y : T) → b ≡ false → (if b then x else y) ≡ y
if_not true x y h = absurd cc
if_not false x y h = refl

if_neither : {T : Type 0} (a b : Bool) (x y z : T) → (a || b) ≡ false → (if a then x else if b then y else z) ≡ z
if_neither true b x y z h = absurd cc
if_neither false true x y z h = absurd cc
if_neither false false x y z h = refl

untouched : (name : List ℕ) (e : Event) (w : Entries) → touches name e ≡ false → entries_after_event e w name ≡ w name
untouched name (Made n mode None) w h = if_not (bytes_eq name n) _ (w name) h
untouched name (Opened n None) w h = if_not (bytes_eq name n) _ (w name) h
untouched name (Synced n bytes answer) w h = if_not (bytes_eq name n) _ (w name) h
untouched name (Renamed from to None) w h = if_neither (bytes_eq name to) (bytes_eq name from) _ _ (w name) h
untouched name (Removed n None) w h = if_not (bytes_eq name n) _ (w name) h
untouched name (NamesSynced folder None) w h = if_not (bytes_eq (folder_of name) folder) _ (w name) h
untouched name e w h = refl

pub spared : (name : List ℕ) (es : List Event) (w : Entries) (k : ℕ) → Spares name es → entries_after (take k es) w name ≡ w name
spared name [] w zero so = refl
spared name [] w (suc k) so = refl
spared name (e ∷ es) w zero so = refl
spared name (e ∷ es) w (suc k) so = spared name es (entries_after_event e w) k so.1 ∙ untouched name e w so.0

if_so : {T : Type 0} (b : Bool) (x y : T) → b ≡ true → (if b then x else y) ≡ x
if_so true x y h = refl
if_so false x y h = absurd cc

none_after : (k : ℕ) (w : Entries) → entries_after (take k []) w ≡ w
none_after zero w = refl
none_after (suc k) w = refl

written_now : (bytes : List ℕ) (s : Answer) (old : Entry) → is_stored s ≡ true → (written bytes s old).now ≡ Whole bytes
written_now bytes None old stored = refl
written_now bytes (Some kind) old stored = ap (λ (e : Entry). e.now) (if_so (is_stored (Some kind)) (record { now = Whole bytes; stored = Torn; left = old.left ++ Torn ∷ [] }) old stored)

among_append : (xs : List FileState) (y s : FileState) → IsAmong (xs ++ y ∷ []) s → IsAmong xs s ⊎ (s ≡ y)
among_append [] y s (inl is) = inr is
among_append [] y s (inr none) = absurd none
among_append (x ∷ xs) y s (inl is) = inl (inl is)
among_append (x ∷ xs) y s (inr more) = elim (among_append xs y s more) [ inl old ↦ inl (inr old) | inr is ↦ inr is ]

-- ---- the file beside takes the name

module _ (own name bytes : List ℕ) (apart : bytes_eq name own ≡ false) (s : Answer) where
  first : Entries → Entries
  first w = entries_after_event (Synced own bytes s) w

  second : Entries → Entries
  second w = entries_after_event (Renamed own name None) (first w)

  renamed : Entry → Entry → Entry
  renamed from to = record { now = from.now; stored = from.stored; left = to.left ++ from.stored ∷ [] }

  first_name : (w : Entries) → first w name ≡ w name
  unfolding first
  first_name w = if_not (bytes_eq name own) (written bytes s (w own)) (w name) apart

  first_own : (w : Entries) → first w own ≡ written bytes s (w own)
  unfolding first
  first_own w = if_so (bytes_eq own own) (written bytes s (w own)) (w own) (same_name own)

  second_name : (w : Entries) → second w name ≡ renamed (written bytes s (w own)) (w name)
  unfolding second renamed
  second_name w = if_so (bytes_eq name name) _ _ (same_name name) ∙ (λ i. renamed (first_own w i) (first_name w i))

  second_now : (w : Entries) → is_stored s ≡ true → (second w name).now ≡ Whole bytes
  unfolding renamed
  second_now w stored = ap (λ (e : Entry). e.now) (second_name w) ∙ written_now bytes s (w own) stored

  third_now : (t : Settling) (w : Entries) → (entries_after (settling name t) (second w) name).now ≡ (second w name).now
  third_now (Unopened kind) w = refl
  third_now (Settled (Some kind)) w = refl
  third_now (Settled None) w = ap (λ (e : Entry). e.now) (if_so (bytes_eq (folder_of name) (folder_of name)) (record { now = (second w name).now; stored = (second w name).stored; left = (second w name).stored ∷ [] }) (second w name) (same_name (folder_of name)))

  -- after the first call of two, as after both
  settling_now : (t : Settling) (w : Entries) (k : ℕ) → (entries_after (take k (settling name t)) (second w) name).now ≡ (second w name).now
  settling_now t w zero = refl
  settling_now (Unopened kind) w (suc k) = ap (λ (v : Entries). (v name).now) (none_after k (second w))
  settling_now (Settled answer) w (suc zero) = refl
  settling_now (Settled answer) w (suc (suc k)) = ap (λ (v : Entries). (v name).now) (none_after k (entries_after (settling name (Settled answer)) (second w))) ∙ third_now (Settled answer) w

  pub moved_careful : (f : Found) (t : Settling) → is_stored s ≡ true → IsCareful name bytes (moving own name bytes f s t)
  unfolding first second
  moved_careful f t stored w zero = inl refl
  moved_careful f t stored w (suc zero) = inl (ap (λ (e : Entry). e.now) (first_name w))
  moved_careful f t stored w (suc (suc zero)) = inl (ap (λ (e : Entry). e.now) (first_name w))
  moved_careful f t stored w (suc (suc (suc k))) = inr (settling_now t w k ∙ second_now w stored)

  pub moved_whole : (f : Found) (t : Settling) (w : Entries) → is_stored s ≡ true → (entries_after (moving own name bytes f s t) w name).now ≡ Whole bytes
  unfolding first second
  moved_whole f t w stored = third_now t w ∙ second_now w stored

module _ (own name bytes : List ℕ) (apart : bytes_eq name own ≡ false) where
  -- the file was synced
  synced_left : (w : Entries) → (second own name bytes apart None w name).left ≡ (w name).left ++ Whole bytes ∷ []
  unfolding renamed
  synced_left w = ap (λ (e : Entry). e.left) (second_name own name bytes apart None w)

  pub moved_durable : (f : Found) (w : Entries) → (entries_after (moving own name bytes f None (Settled None)) w name).left ≡ Whole bytes ∷ []
  unfolding first second renamed
  moved_durable f w = search same_name

  Crash : List FileState → List FileState → Type 0
  Crash old new = (v : FileState) → IsAmong new v → IsAmong old v ⊎ (v ≡ Whole bytes)

  crash_grown : (old : List FileState) → Crash old (old ++ Whole bytes ∷ [])
  unfolding Crash
  crash_grown old v is = among_append old (Whole bytes) v is

  crash_settled : (old : List FileState) → Crash old (Whole bytes ∷ [])
  unfolding Crash
  crash_settled old v (inl is) = inr is
  crash_settled old v (inr none) = absurd none

  crash_kept : (w : Entries) → Crash (w name).left (second own name bytes apart None w name).left
  crash_kept w = subst (Crash (w name).left) (sym (synced_left w)) (crash_grown (w name).left)

  -- before, between and after the calls that sync the names
  third_left : (f : Found) (t : Settling) (w : Entries) (k : ℕ) → Crash (w name).left (entries_after (take k (settling name t)) (second own name bytes apart None w) name).left
  unfolding first second
  third_left f t w zero = crash_kept w
  third_left f (Unopened kind) w (suc k) = subst (λ (u : Entries). Crash (w name).left (u name).left) (sym (none_after k (second own name bytes apart None w))) (crash_kept w)
  third_left f (Settled answer) w (suc zero) = crash_kept w
  third_left f (Settled (Some kind)) w (suc (suc k)) = subst (λ (u : Entries). Crash (w name).left (u name).left) (sym (none_after k (second own name bytes apart None w))) (crash_kept w)
  third_left f (Settled None) w (suc (suc k)) =
      subst (λ (u : Entries). Crash (w name).left (u name).left) (sym (none_after k (entries_after (settling name (Settled None)) (second own name bytes apart None w))))
      (subst (Crash (w name).left) (sym (moved_durable f w)) (crash_settled (w name).left))

  pub moved_crash : (f : Found) (t : Settling) → IsCarefulInCrash name bytes (moving own name bytes f None t)
  unfolding first second Crash
  moved_crash f t w zero v is = inl is
  moved_crash f t w (suc zero) v is = inl (subst (λ (e : Entry). IsAmong e.left v) (first_name own name bytes apart None w) is)
  moved_crash f t w (suc (suc zero)) v is = inl (subst (λ (e : Entry). IsAmong e.left v) (first_name own name bytes apart None w) is)
  moved_crash f t w (suc (suc (suc k))) v is = third_left f t w k v is

-- ---- a name that is held

pub removed_spares : (own name : List ℕ) (removed : Answer) → bytes_eq name own ≡ false → Spares name (Removed own removed ∷ [])
removed_spares own name None apart = (apart, tt)
removed_spares own name (Some kind) apart = (refl, tt)

pub refusing_spares : (own name bytes : List ℕ) (synced : Answer) (why : Refusal) → bytes_eq name own ≡ false → Spares name (refusing own name bytes synced why)
refusing_spares own name bytes synced Unlike apart = (apart, tt)
refusing_spares own name bytes synced (Changed seen) apart = (apart, (refl, tt))
refusing_spares own name bytes synced (Refused seen kind) apart = (apart, (refl, (refl, tt)))

pub copying_whole : (name bytes : List ℕ) (stored : Answer) (w : Entries) → is_stored stored ≡ true → (entries_after (copying name bytes stored) w name).now ≡ Whole bytes
copying_whole name bytes stored w is = search (if_so, same_name, written_now)

pub halted_spares : (old : Option Attributes) (takes : Bool) (own name bytes : List ℕ) (es : List Event) (removed : Answer) → bytes_eq name own ≡ false → IsHalted old takes own name bytes [] es → Spares name (es ++ Removed own removed ∷ [])
halted_spares old takes own name bytes es removed apart (inl u) =
    subst (λ (l : List Event). Spares name (l ++ Removed own removed ∷ [])) (sym u.is) (apart, removed_spares own name removed apart)
halted_spares old takes own name bytes es removed apart (inr (inl u)) =
    subst (λ (l : List Event). Spares name (l ++ Removed own removed ∷ [])) (sym u.is) (apart, (refl, removed_spares own name removed apart))
halted_spares old takes own name bytes es removed apart (inr (inr u)) =
    subst (λ (l : List Event). Spares name (l ++ Removed own removed ∷ [])) (sym u.is) (apart, (refl, (refl, removed_spares own name removed apart)))
