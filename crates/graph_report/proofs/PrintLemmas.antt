-- Texts that are put in two parts.
use Rattle.std.proofs.Common.{◌≡◌, ◌+◌, ◌-◌, List, ℕ, ◌++◌, Result, Ok, Err, subst}
use Rattle.host_port.specs.Outside.{Outside}
use Rattle.host_port.specs.Buffered.{Adds}
use Rattle.host_port.specs.declared.side.Side.TheVariants.{Output}
use Rattle.host_port.specs.declared.host.Failed.{Failed}
use Rattle.host_port.proofs.BufferLemmas.{adds_then, adds_front}

module _ (a b text : List ℕ) (whole : a ++ b ≡ text) where
  -- the first part failed
  pub first_fails : (p q : List ℕ) (x y : Outside) (e : Failed) → Adds {T = Unit {0}} Output a p q x y (Err e) → Adds {T = Unit {0}} Output text p q x y (Err e)
  first_fails p q x y e first = subst (λ (t : List ℕ). Adds {T = Unit {0}} Output t p q x y (Err e)) whole (adds_front Output a b p q x y e first)

  -- the first part was put, and then the second, which may fail
  pub both_put : (p q r : List ℕ) (x y z : Outside) (u : Unit {0}) (result : Result (Unit {0}) Failed) → Adds {E = Failed} Output a p q x y (Ok u) → Adds Output b q r y z result → Adds Output text p r x z result
  both_put p q r x y z u result first second = subst (λ (t : List ℕ). Adds Output t p r x z result) whole (adds_then Output a b p q r x y z u result first second)

-- a text that is another one was put
pub put_as : (a text : List ℕ) (p q : List ℕ) (x y : Outside) (result : Result (Unit {0}) Failed) → a ≡ text → Adds Output a p q x y result → Adds Output text p q x y result
put_as a text p q x y result same put = subst (λ (t : List ℕ). Adds Output t p q x y result) same put

-- ---- a text in four parts

module _ (a b c d text : List ℕ) (whole : a ++ b ++ c ++ d ≡ text) where
  pub first_of_four_fails : (p q : List ℕ) (x y : Outside) (e : Failed) → Adds {T = Unit {0}} Output a p q x y (Err e) → Adds {T = Unit {0}} Output text p q x y (Err e)
  first_of_four_fails p q x y e first =
      first_fails (a ++ b ++ c) d text whole p q x y e (adds_front Output (a ++ b) c p q x y e (adds_front Output a b p q x y e first))

  module _ (p q r : List ℕ) (x y z : Outside) (u : Unit {0}) (first : Adds {E = Failed} Output a p q x y (Ok u)) where
    pub second_of_four_fails : (e : Failed) → Adds {T = Unit {0}} Output b q r y z (Err e) → Adds {T = Unit {0}} Output text p r x z (Err e)
    second_of_four_fails e second =
        first_fails (a ++ b ++ c) d text whole p r x z e (adds_front Output (a ++ b) c p r x z e (adds_then Output a b p q r x y z u (Err e) first second))

    module _ (t : List ℕ) (w : Outside) (v : Unit {0}) (second : Adds {E = Failed} Output b q r y z (Ok v)) where
      pub third_of_four_fails : (e : Failed) → Adds {T = Unit {0}} Output c r t z w (Err e) → Adds {T = Unit {0}} Output text p t x w (Err e)
      third_of_four_fails e third =
          first_fails (a ++ b ++ c) d text whole p t x w e (adds_then Output (a ++ b) c p r t x z w v (Err e) (adds_then Output a b p q r x y z u (Ok v) first second) third)

      pub four_put : (n : List ℕ) (o : Outside) (k : Unit {0}) (result : Result (Unit {0}) Failed) → Adds {E = Failed} Output c r t z w (Ok k) → Adds Output d t n w o result → Adds Output text p n x o result
      four_put n o k result third last =
          both_put (a ++ b ++ c) d text whole p t n x w o k result (adds_then Output (a ++ b) c p r t x z w v (Ok k) (adds_then Output a b p q r x y z u (Ok v) first second) third) last
