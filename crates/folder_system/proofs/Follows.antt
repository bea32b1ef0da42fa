-- How calls follow one another.
use Rattle.std.proofs.Common.{◌≡◌, List, [], ◌∷◌, ◌++◌, Option, Some, None, refl, sym, ap, subst, ◌∙◌, append_assoc}
use Rattle.std.proofs.lemmas.List.{append-nil}
use Rattle.std.specs.Prelude.{unwrap_or, IfSome}
use Rattle.host_port.specs.Act.{File}
use Rattle.host_port.specs.Outside.{Becomes}
use Rattle.folder_system.specs.Events.{Event, History, files_after, files_after_event, all_after, after, Transition, Follows}

pub files_append : (es gs : List Event) (files : List File) → files_after (es ++ gs) files ≡ files_after gs (files_after es files)
files_append [] gs files = refl
files_append (e ∷ es) gs files = files_append es gs (files_after_event e files)

all_append : (es gs : List Event) (t : History) → all_after gs (all_after es t) ≡ all_after (es ++ gs) t
all_append es gs t = λ i. record { files = sym (files_append es gs t.files) i; events = append_assoc t.events es gs i }

pub the_same : (a b : History) → Some a ≡ Some b → a ≡ b
the_same a b e = ap (λ (o : Option History). unwrap_or o a) e

module _ (P R Q : List File → List Event → Type 0) where
  joined : (old : Option History) (mid new : History) → ((fs : List File) (es gs : List Event) → P fs es → R (files_after es fs) gs → Q fs (es ++ gs)) → Transition P old mid → Transition R (Some mid) new → Transition Q old new
  joined old mid new join front back =
      let mid_is : back.was ≡ all_after front.calls front.was = sym (the_same mid back.was back.told) ∙ front.is in
      record {
        was = front.was;
        told = front.told;
        calls = front.calls ++ back.calls;
        is = back.is ∙ ap (all_after back.calls) mid_is ∙ all_append front.calls back.calls front.was;
        so = join front.was.files front.calls back.calls front.so (subst (λ (t : History). R t.files back.calls) mid_is back.so);
      }

  -- calls and then calls
  pub then_calls : (a b c : Option History) → ((fs : List File) (es gs : List Event) → P fs es → R (files_after es fs) gs → Q fs (es ++ gs)) → Follows P a b → Follows R b c → Follows Q a c
  then_calls a b None join front back = tt
  then_calls a None (Some new) join front back = absurd (let e : None ≡ Some back.was = back.told in cc)
  then_calls a (Some mid) (Some new) join front back = joined a mid new join front back

module _ (P Q : List File → List Event → Type 0) where
  pub restate : (a b : Option History) → ((fs : List File) (es : List Event) → P fs es → Q fs es) → Follows P a b → Follows Q a b
  restate a None weaker did = tt
  restate a (Some new) weaker did = record { was = did.was; told = did.told; calls = did.calls; is = did.is; so = weaker did.was.files did.calls did.so }

module _ (Q : List File → List Event → Type 0) where
  -- one call
  pub one_call : (e : Event) (a b : Option History) → ((fs : List File) → Q fs (e ∷ [])) → Becomes (after e) a b → Follows Q a b
  one_call e a None so done = tt
  one_call e None (Some new) so done = absurd cc
  one_call e (Some was) (Some new) so done = record { was = was; told = refl; calls = e ∷ []; is = sym (the_same (after e was) new done); so = so was.files }

  pub one_call_at : (e : Event) (a b : Option History) → IfSome a (λ t. Q t.files (e ∷ [])) → Becomes (after e) a b → Follows Q a b
  one_call_at e a None so done = tt
  one_call_at e None (Some new) so done = absurd cc
  one_call_at e (Some was) (Some new) so done = record { was = was; told = refl; calls = e ∷ []; is = sym (the_same (after e was) new done); so = so }

module _ (P Q : List File → List Event → Type 0) where
  -- calls and then one more
  pub then_call : (e : Event) (a b c : Option History) → ((fs : List File) (es : List Event) → P fs es → Q fs (es ++ e ∷ [])) → Follows P a b → Becomes (after e) b c → Follows Q a c
  then_call e a b c join front done =
      then_calls P (λ fs es. es ≡ e ∷ []) Q a b c (λ fs es gs p is. subst (λ (l : List Event). Q fs (es ++ l)) (sym is) (join fs es p)) front (one_call (λ fs es. es ≡ e ∷ []) e b c (λ fs. refl) done)

-- calls and then none
pub then_none : (P : List File → List Event → Type 0) (a b c : Option History) → Follows P a b → Follows (λ fs es. es ≡ []) b c → Follows P a c
then_none P a b c =
    then_calls P (λ fs es. es ≡ []) P a b c (λ fs es gs p is. subst (λ (l : List Event). P fs (es ++ l)) (sym is) (subst (P fs) (sym (append-nil es)) p))
