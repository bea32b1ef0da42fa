-- Lines that go out through the room of one, and what is pending before them.
use Rattle.std.proofs.Common.{◌≡◌, ℕ, suc, ◌+◌, ◌≤◌, List, [], ◌∷◌, ◌++◌, length, Result, Ok, refl, sym, ap, subst, ◌∙◌, arith}
use Rattle.std.proofs.lemmas.List.{append-nil}
use Rattle.host_port.specs.Outside.{Outside}
use Rattle.host_port.specs.declared.side.Side.{Side}
use Rattle.host_port.specs.Buffered.{Adds}
use Rattle.host_port.proofs.BufferLemmas.{adds_then}

-- what was pending went out, where there are no last lines
pub adds_out : {T E : Type 0} (side : Side) (p before after last : List ℕ) (x y z : Outside) (u : T) (result : Result T E) → last ≡ []
    → Adds {T = T} {E = E} side [] p (before ++ last) x y (Ok u) → Adds side [] before after y z result → Adds side [] p (after ++ last) x z result
adds_out {T} {E} side p before after last x y z u result none room out =
    let before_is : before ++ last ≡ before = ap (λ (t : List ℕ). before ++ t) none ∙ append-nil before in
    let after_is : after ++ last ≡ after = ap (λ (t : List ℕ). after ++ t) none ∙ append-nil after in
    subst (λ (t : List ℕ). Adds side [] p t x z result) (sym after_is)
    (adds_then {T = T} {E = E} side [] [] p before after x y z u result (subst (λ (t : List ℕ). Adds {T = T} {E = E} side [] p t x y (Ok u)) before_is room) out)

-- a whole room is that of no line
pub no_line : (last : List ℕ) → length last + 256 ≤ 256 → last ≡ []
no_line [] room = refl
no_line (b ∷ last) room = absurd (let f : suc (length last) + 256 ≤ 256 = room in omega (arith, f))
