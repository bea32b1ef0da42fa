-- The records of a text, one by one. How many bytes are allowed for doesn't matter where they are no fewer than
-- the text's.
use Rattle.std.proofs.Common.{◌≡◌, ℕ, zero, suc, ◌-◌, ◌≤◌, List, [], ◌∷◌, length, refl, arith}
use Rattle.gmon_gnu.specs.Reading.{Front, Refused, Found, body_front, recs_from, after_front}
use Rattle.gmon_gnu.proofs.FrontLemmas.{front_shorter}

pub allowance : (len n m : ℕ) (bs : List ℕ) → length bs ≤ n → length bs ≤ m → recs_from len n bs ≡ recs_from len m bs
allowance len n m [] a b = refl
allowance len zero m (tag ∷ body) a b = absurd (let f : suc (length body) ≤ 0 = a in omega (arith, f))
allowance len (suc n) zero (tag ∷ body) a b = absurd (let f : suc (length body) ≤ 0 = b in omega (arith, f))
allowance len (suc n) (suc m) (tag ∷ body) a b = by (body_front len (len - length (tag ∷ body)) tag body) refl (allowance len n m)
  where
    by : (f : Front) → body_front len (len - length (tag ∷ body)) tag body ≡ f → ((bs : List ℕ) → length bs ≤ n → length bs ≤ m → recs_from len n bs ≡ recs_from len m bs)
        → after_front (λ rest. recs_from len n rest) f ≡ after_front (λ rest. recs_from len m rest) f
    by (Refused e) is others = refl
    by (Found r rest) is others = grind (arith, front_shorter len (len - length (tag ∷ body)) tag body r rest is)
