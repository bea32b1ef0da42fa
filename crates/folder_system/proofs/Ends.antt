-- How an output ends.
use Rattle.std.proofs.Common.{◌≡◌, inl, inr, ℕ, Bool, true, false, List, [], ◌∷◌, ◌++◌, Option, Some, None, Ok, Err, refl, sym, ap, subst, ◌∙◌}
use Rattle.std.specs.Prelude.{Result, IfSome, OnOk, OnErr}
use Rattle.std.specs.declared.io.Error.{Error}
use Rattle.std.specs.declared.io.ErrorKind.{ErrorKind}
use Rattle.host_port.specs.Act.{File}
use Rattle.host_port.specs.Outside.{Becomes}
use Rattle.folder_system.specs.declared.place.Place.{Place}
use Rattle.folder_system.specs.declared.beside.Taken.TheVariants.{ByName, ByCopy}
use Rattle.folder_system.specs.declared.beside.Naming.TheVariants.{Done, Held}
use Rattle.folder_system.specs.declared.folder.Attributes.{Attributes}
use Rattle.folder_system.specs.declared.folder.Found.{Found}
use Rattle.folder_system.specs.Names.{folder_of}
use Rattle.folder_system.specs.Found.{is_still}
use Rattle.folder_system.specs.Kinds.{is_held}
use Rattle.folder_system.specs.Events.{Event, Looked, Opened, Copied, Synced, Renamed, Removed, FolderOpened, NamesSynced, History, Answer, after, Follows, is_stored}
use Rattle.folder_system.specs.Place.{Refusal, Unlike, Changed, Refused, Unopened, Settled, IsSettling, IsMoved, IsStored, IsNotStored, IsHeld, refusing, copying, IsPut, IsHalted, IsHalf, IsOver, IsHalfCopied, IsTaken, IsLost, IsLetGo, IsAfterLetGo}
use Rattle.folder_system.proofs.Follows.{then_calls, one_call, then_call, restate}

-- ---- the name

module _ (old : Option Attributes) (own name bytes : List ℕ) where
  pub put_unlike : (takes : Bool) (a b : Option History) → takes ≡ false → Follows (IsStored own bytes) a b → Follows (IsPut old takes own name bytes Held) a b
  put_unlike takes a b unlike = restate (IsStored own bytes) (IsPut old takes own name bytes Held) a b (λ fs es h. (h.0, Unlike, h.1, h.2, unlike))

  module _ (takes : Bool) (alike : takes ≡ true) where
    pub put_unseen : (kind : ErrorKind) (a b c : Option History) → Follows (IsStored own bytes) a b → Becomes (after (Looked name (Err kind))) b c → Follows (IsHalted old takes own name bytes) a c
    put_unseen kind a b c = then_call (IsStored own bytes) (IsHalted old takes own name bytes) (Looked name (Err kind)) a b c
        (λ fs es h. inr (inl (record { synced = h.0; kind = kind; is = ap (λ (l : List Event). l ++ Looked name (Err kind) ∷ []) h.1; stored = h.2; alike = alike })))

    pub put_changed : (seen : Found) (a b c : Option History) → is_still seen old ≡ false → Follows (IsStored own bytes) a b → Becomes (after (Looked name (Ok seen))) b c → Follows (IsPut old takes own name bytes Held) a c
    put_changed seen a b c other = then_call (IsStored own bytes) (IsPut old takes own name bytes Held) (Looked name (Ok seen)) a b c
        (λ fs es h. (h.0, Changed seen, ap (λ (l : List Event). l ++ Looked name (Ok seen) ∷ []) h.1, h.2, (alike, other)))

    Still : Found → List File → List Event → Type 0
    Still seen fs es = (synced : Answer) × (es ≡ Synced own bytes synced ∷ Looked name (Ok seen) ∷ []) × (is_stored synced ≡ true)

    still : (seen : Found) (a b c : Option History) → Follows (IsStored own bytes) a b → Becomes (after (Looked name (Ok seen))) b c → Follows (Still seen) a c
    unfolding Still
    still seen a b c = then_call (IsStored own bytes) (Still seen) (Looked name (Ok seen)) a b c (λ fs es h. (h.0, ap (λ (l : List Event). l ++ Looked name (Ok seen) ∷ []) h.1, h.2))

    pub put_done : (seen : Found) (a b c d : Option History) → is_still seen old ≡ true → Follows (IsStored own bytes) a b → Becomes (after (Looked name (Ok seen))) b c → Becomes (after (Renamed own name None)) c d → Follows (IsPut old takes own name bytes Done) a d
    unfolding Still
    put_done seen a b c d same stored looked = then_call (Still seen) (IsPut old takes own name bytes Done) (Renamed own name None) a c d
        (λ fs es h. (h.0, seen, ap (λ (l : List Event). l ++ Renamed own name None ∷ []) h.1, h.2, same, alike)) (still seen a b c stored looked)

    pub put_held : (seen : Found) (kind : ErrorKind) (a b c d : Option History) → is_still seen old ≡ true → is_held kind ≡ true → Follows (IsStored own bytes) a b → Becomes (after (Looked name (Ok seen))) b c → Becomes (after (Renamed own name (Some kind))) c d
        → Follows (IsPut old takes own name bytes Held) a d
    unfolding Still
    put_held seen kind a b c d same held stored looked = then_call (Still seen) (IsPut old takes own name bytes Held) (Renamed own name (Some kind)) a c d
        (λ fs es h. (h.0, Refused seen kind, ap (λ (l : List Event). l ++ Renamed own name (Some kind) ∷ []) h.1, h.2, (alike, same, held))) (still seen a b c stored looked)

    pub put_unnamed : (seen : Found) (kind : ErrorKind) (a b c d : Option History) → is_still seen old ≡ true → is_held kind ≡ false → Follows (IsStored own bytes) a b → Becomes (after (Looked name (Ok seen))) b c → Becomes (after (Renamed own name (Some kind))) c d
        → Follows (IsHalted old takes own name bytes) a d
    unfolding Still
    put_unnamed seen kind a b c d same free stored looked = then_call (Still seen) (IsHalted old takes own name bytes) (Renamed own name (Some kind)) a c d
        (λ fs es h. inr (inr (record { synced = h.0; seen = seen; kind = kind; is = ap (λ (l : List Event). l ++ Renamed own name (Some kind) ∷ []) h.1; stored = h.2; alike = alike; still = same; free = free })))
        (still seen a b c stored looked)

-- ---- in place, with what was written beside

-- what was written in place is what was written beside, where that is told
pub IsCopy : List ℕ → List ℕ → Option History → Type 0
IsCopy bytes now told = IfSome told (λ _. now ≡ bytes)

pub all_copied : (b c : Option History) (held now bytes : List ℕ) → IfSome b (λ _. held ≡ []) → Becomes (after (Copied None)) b c → IfSome c (λ _. now ≡ held ++ bytes) → IsCopy bytes now c
unfolding IsCopy
all_copied b None held now bytes empty done copied = tt
all_copied None (Some t) held now bytes empty done copied = absurd cc
all_copied (Some g) (Some t) held now bytes empty done copied = copied ∙ ap (λ (v : List ℕ). v ++ bytes) empty

module _ (name bytes now : List ℕ) where
  after_copying : (P Q : List File → List Event → Type 0) (a b c d : Option History) → IsCopy bytes now c → Becomes (after (Opened name None)) a b → Becomes (after (Copied None)) b c
      → ((fs : List File) (gs : List Event) → now ≡ bytes → P fs gs → Q fs (Opened name None ∷ Copied None ∷ gs)) → Follows (λ fs es. (hs : List File) → P hs es) c d → Follows Q a d
  unfolding IsCopy
  after_copying P Q a b None None same opened done so stored = tt
  after_copying P Q a b None (Some u) same opened done so stored = absurd (let e : None ≡ Some stored.was = stored.told in cc)
  after_copying P Q a b (Some t) d same opened done so stored =
      then_calls (λ fs es. es ≡ Opened name None ∷ Copied None ∷ []) (λ fs es. (hs : List File) → P hs es) Q a (Some t) d
      (λ fs es gs p h. subst (λ (l : List Event). Q fs (l ++ gs)) (sym p) (so fs gs same (h fs)))
      (then_call (λ fs es. es ≡ Opened name None ∷ []) (λ fs es. es ≡ Opened name None ∷ Copied None ∷ []) (Copied None) a b (Some t) (λ fs es p. ap (λ (l : List Event). l ++ Copied None ∷ []) p)
      (one_call (λ fs es. es ≡ Opened name None ∷ []) (Opened name None) a b (λ fs. refl) opened) done)
      stored

  module _ {T : Type 0} where
    pub over : (r : Result T Error) (a b c d : Option History) → IsCopy bytes now c → Becomes (after (Opened name None)) a b → Becomes (after (Copied None)) b c → OnOk r (Follows (IsStored name now) c d) → OnOk r (Follows (IsOver name bytes) a d)
    over (Ok x) a b c d same opened done stored = after_copying (IsStored name now) (IsOver name bytes) a b c d same opened done
        (λ fs gs is h. (h.0, (λ i. Opened name None ∷ Copied None ∷ h.1 i) ∙ ap (λ (v : List ℕ). copying name v h.0) is, h.2)) (restate (IsStored name now) (λ fs es. (hs : List File) → IsStored name now hs es) c d (λ fs es h hs. h) stored)
    over (Err e) a b c d same opened done stored = tt

    pub not_over : (r : Result T Error) (a b c d : Option History) → IsCopy bytes now c → Becomes (after (Opened name None)) a b → Becomes (after (Copied None)) b c → OnErr r (Follows (IsNotStored name now) c d) → OnErr r (Follows (IsHalf name bytes) a d)
    not_over (Ok x) a b c d same opened done stored = tt
    not_over (Err e) a b c d same opened done stored = after_copying (IsNotStored name now) (IsHalf name bytes) a b c d same opened done
        (λ fs gs is h. inr (inr (h.0, (λ i. Opened name None ∷ Copied None ∷ h.1 i) ∙ ap (λ (v : List ℕ). copying name v h.0) is, h.2))) (restate (IsNotStored name now) (λ fs es. (hs : List File) → IsNotStored name now hs es) c d (λ fs es h hs. h) stored)

-- ---- the whole

module _ (name : List ℕ) where
  pub unopened : (kind : ErrorKind) (a b : Option History) → Becomes (after (FolderOpened (folder_of name) (Some kind))) a b → Follows (IsSettling name true) a b
  unopened kind a b = one_call (IsSettling name true) (FolderOpened (folder_of name) (Some kind)) a b (λ fs. (Unopened kind, refl, refl))

  pub settled : (answer : Answer) (ok : Bool) (a b c : Option History) → is_stored answer ≡ ok → Becomes (after (FolderOpened (folder_of name) None)) a b → Becomes (after (NamesSynced (folder_of name) answer)) b c → Follows (IsSettling name ok) a c
  settled answer ok a b c is opened synced = then_call (λ fs es. es ≡ FolderOpened (folder_of name) None ∷ []) (IsSettling name ok) (NamesSynced (folder_of name) answer) a b c
      (λ fs es p. (Settled answer, ap (λ (l : List Event). l ++ NamesSynced (folder_of name) answer ∷ []) p, is))
      (one_call (λ fs es. es ≡ FolderOpened (folder_of name) None ∷ []) (FolderOpened (folder_of name) None) a b (λ fs. refl) opened) synced

module _ (old : Option Attributes) (takes : Bool) (own name bytes : List ℕ) where
  moving_on : (ok : Bool) (a b c : Option History) → Follows (IsPut old takes own name bytes Done) a b → Follows (IsSettling name ok) b c → Follows (λ fs es. IsMoved old takes own name bytes ok es) a c
  moving_on ok a b c = then_calls (IsPut old takes own name bytes Done) (IsSettling name ok) (λ fs es. IsMoved old takes own name bytes ok es) a b c
      (λ fs es gs p h. record { seen = p.1; synced = p.0; how = h.0; is = λ i. p.2 i ++ h.1 i; stored = p.3; still = p.4; alike = p.5; names = h.2 })

  pub moved : (a b c : Option History) → Follows (IsPut old takes own name bytes Done) a b → Follows (IsSettling name true) b c → Follows (IsTaken old takes own name bytes ByName) a c
  moved a b c = moving_on true a b c

  pub unsettled : (a b c : Option History) → Follows (IsPut old takes own name bytes Done) a b → Follows (IsSettling name false) b c → Follows (IsLost old takes own name bytes) a c
  unsettled a b c put failed = restate (λ fs es. IsMoved old takes own name bytes false es) (IsLost old takes own name bytes) a c (λ fs es m. inr m) (moving_on false a b c put failed)

  Held_over : List File → List Event → Type 0
  Held_over fs es = (s : Answer) × (why : Refusal) × (copied : Answer) × (es ≡ refusing own name bytes s why ++ copying name bytes copied) × (is_stored s ≡ true) × IsHeld old takes why × (is_stored copied ≡ true)

  pub copied : (answer : Answer) (a b c d : Option History) → Follows (IsPut old takes own name bytes Held) a b → Follows (IsOver name bytes) b c → Becomes (after (Removed own answer)) c d → Follows (IsTaken old takes own name bytes ByCopy) a d
  unfolding Held_over
  copied answer a b c d put over =
      then_call Held_over (IsTaken old takes own name bytes ByCopy) (Removed own answer) a c d
      (λ fs es h. record { synced = h.0; why = h.1; copied = h.2; removed = answer; is = ap (λ (l : List Event). l ++ Removed own answer ∷ []) h.3; stored = h.4; held = h.5; whole = h.6 })
      (then_calls (IsPut old takes own name bytes Held) (IsOver name bytes) Held_over a b c (λ fs es gs p h. (p.0, p.1, h.0, (λ i. p.2 i ++ h.1 i), p.3, p.4, h.2)) put over)

  pub withdrawn : (answer : Answer) (a b c : Option History) → Follows (IsHalted old takes own name bytes) a b → Becomes (after (Removed own answer)) b c → Follows (IsLost old takes own name bytes) a c
  withdrawn answer a b c = then_call (IsHalted old takes own name bytes) (IsLost old takes own name bytes) (Removed own answer) a b c
      (λ fs es h. inl (record { front = es; halted = inl h; removed = answer; is = refl }))

  pub half_copied : (answer : Answer) (a b c d : Option History) → Follows (IsPut old takes own name bytes Held) a b → Follows (IsHalf name bytes) b c → Becomes (after (Removed own answer)) c d → Follows (IsLost old takes own name bytes) a d
  half_copied answer a b c d put not =
      then_call (λ fs es. IsHalfCopied old takes own name bytes es) (IsLost old takes own name bytes) (Removed own answer) a c d
      (λ fs es h. inl (record { front = es; halted = inr h; removed = answer; is = refl }))
      (then_calls (IsPut old takes own name bytes Held) (IsHalf name bytes) (λ fs es. IsHalfCopied old takes own name bytes es) a b c
      (λ fs es gs p h. record { synced = p.0; why = p.1; behind = gs; is = ap (λ (l : List Event). l ++ gs) p.2; stored = p.3; held = p.4; half = h }) put not)

-- ---- what stood before was let go

pub after_let_go : (old : Option Place) (P : List File → List Event → Type 0) (a b c : Option History) → Follows (IsLetGo old) a b → Follows P b c → Follows (IsAfterLetGo old P) a c
after_let_go old P a b c = then_calls (IsLetGo old) P (IsAfterLetGo old P) a b c (λ fs es gs gone so. record { front = es; behind = gs; is = refl; gone = gone; so = so })
