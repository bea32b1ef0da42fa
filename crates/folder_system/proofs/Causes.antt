-- An error comes from the last call, which failed, or from want of memory.
use Rattle.std.proofs.Common.{◌≡◌, inl, inr, false, ◌||◌, List, [], ◌∷◌, ◌++◌, Option, Some, None, Ok, Err, refl, sym, ap, ◌∙◌, append_assoc}
use Rattle.std.specs.Prelude.{ℕ, Result, IfErr, if◌then◌else◌}
use Rattle.std.specs.IoError.{error_kind}
use Rattle.std.specs.declared.io.Error.{Error}
use Rattle.std.specs.declared.io.ErrorKind.{ErrorKind}
use Rattle.host_port.specs.Act.{File}
use Rattle.host_port.specs.Outside.{Becomes}
use Rattle.folder_system.specs.Events.{Event, Made, History, after, files_after, Follows}
use Rattle.folder_system.specs.Place.{fault_kind, HasFault, HasCause}
use Rattle.folder_system.specs.Kinds.{is_barring, is_taken}
use Rattle.folder_system.proofs.Follows.{then_calls, one_call}

module _ (kind : ErrorKind) where
  fault_behind : (fs hs : List File) (es gs : List Event) → HasFault kind hs gs → HasFault kind fs (es ++ gs)
  fault_behind fs hs es gs h = record {
    front = es ++ h.front;
    last = h.last;
    is = ap (λ (l : List Event). es ++ l) h.is ∙ sym (append_assoc es h.front (h.last ∷ []));
    so = h.so;
  }

  -- a call that failed
  pub at_fault : (e : Event) (a b : Option History) → fault_kind e ≡ Some kind → Becomes (after e) a b → Follows (HasFault kind) a b
  at_fault e a b is done = one_call (HasFault kind) e a b (λ fs. record { front = []; last = e; is = refl; so = is }) done

  -- calls, and then a fault
  behind : (P : List File → List Event → Type 0) (a b c : Option History) → Follows P a b → Follows (HasFault kind) b c → Follows (HasFault kind) a c
  behind P a b c front failed = then_calls P (HasFault kind) (HasFault kind) a b c (λ fs es gs p h. fault_behind fs (files_after es fs) es gs h) front failed

  -- calls, and then one that failed
  pub failed_then : (P : List File → List Event → Type 0) (e : Event) (a b c : Option History) → fault_kind e ≡ Some kind → Follows P a b → Becomes (after e) b c → Follows (HasFault kind) a c
  failed_then P e a b c is front done = behind P a b c front (at_fault e b c is done)

  -- calls, then one, and then one that failed
  pub failed_behind : (P : List File → List Event → Type 0) (e f : Event) (a b c d : Option History) → fault_kind f ≡ Some kind → Follows P a b → Becomes (after e) b c → Becomes (after f) c d → Follows (HasFault kind) a d
  failed_behind P e f a b c d is front done failed = behind P a b d front (failed_then (λ fs es. Unit {0}) f b c d is (one_call (λ fs es. Unit {0}) e b c (λ fs. tt) done) failed)

  -- calls, and then a cause
  pub cause_behind : (P : List File → List Event → Type 0) (a b c : Option History) → Follows P a b → HasCause kind b c → HasCause kind a c
  cause_behind P a b c front (inl memory) = inl memory
  cause_behind P a b c front (inr failed) = inr (behind P a b c front failed)

  cause_behind_call : (e : Event) (a b c : Option History) → Becomes (after e) a b → HasCause kind b c → HasCause kind a c
  cause_behind_call e a b c done = cause_behind (λ fs es. Unit {0}) a b c (one_call (λ fs es. Unit {0}) e a b (λ fs. tt) done)

pub if_err : {T E : Type 0} (r : Result T E) (P : E → Type 0) → ((e : E) → P e) → IfErr r P
if_err (Ok x) P h = tt
if_err (Err e) P h = h e

module _ {T : Type 0} where
  pub result_behind : (P : List File → List Event → Type 0) (r : Result T Error) (a b c : Option History) → Follows P a b → IfErr r (λ e. HasCause (error_kind e) b c) → IfErr r (λ e. HasCause (error_kind e) a c)
  result_behind P (Ok x) a b c front cause = tt
  result_behind P (Err e) a b c front cause = cause_behind (error_kind e) P a b c front cause

  pub result_behind_call : (e : Event) (r : Result T Error) (a b c : Option History) → Becomes (after e) a b → IfErr r (λ e. HasCause (error_kind e) b c) → IfErr r (λ e. HasCause (error_kind e) a c)
  result_behind_call e (Ok x) a b c front cause = tt
  result_behind_call e (Err failed) a b c front cause = cause_behind_call (error_kind failed) e a b c front cause

-- a name beside couldn't be tried
pub untried : (own : List ℕ) (mode : ℕ) (kind : ErrorKind) → is_barring kind ≡ false → is_taken kind ≡ false → fault_kind (Made own mode (Some kind)) ≡ Some kind
untried own mode kind clear other = (λ i. if clear i || other i then None else Some kind)
