-- An answer is the refusal that the form gives, where it gives one.
use Rattle.std.proofs.Common.{◌≡◌, Option, Some, None, Result, Err, ap, ◌∙◌}
use Rattle.std.specs.Prelude.{IfSome}
use Rattle.gp_base.specs.Refusal.{IsRefusal}
use Rattle.gp_base.specs.declared.refusal.GmonRefusal.{GmonRefusal}
use Rattle.gp_base.specs.declared.refusal.GmonRefusal.TheVariants.{Short, Version, Tag, Range, Size, Rest, OutOfMemory}

pub refusal_answered : {T : Type 0} (given : Option GmonRefusal) (refusal : GmonRefusal) (answer : Result T GmonRefusal) → given ≡ Some refusal → answer ≡ Err refusal → IfSome given (λ x. answer ≡ Err x)
refusal_answered None refusal answer is answer_is = absurd cc
refusal_answered {T} (Some x) refusal answer is answer_is =
    let same : refusal ≡ x = cc in
    answer_is ∙ ap (λ (v : GmonRefusal). let r : Result T GmonRefusal = Err v in r) same

pub nothing_refused : {T : Type 0} (given : Option GmonRefusal) (answer : Result T GmonRefusal) → given ≡ None → IfSome given (λ x. answer ≡ Err x)
nothing_refused given answer none = rw none tt

-- a refusal that is the form's
pub given_one : (refusal : GmonRefusal) (given : Option GmonRefusal) → given ≡ Some refusal → IsRefusal refusal given
given_one OutOfMemory given is = tt
given_one (Short at) given is = is
given_one (Version value) given is = is
given_one (Tag at value) given is = is
given_one (Range at low high) given is = is
given_one (Size value) given is = is
given_one (Rest at) given is = is
