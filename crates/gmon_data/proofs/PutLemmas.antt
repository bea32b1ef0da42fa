-- Two histograms that take their places, one after the other.
use Rattle.std.proofs.Common.{◌≡◌, ◌<◌, Bool, true, false, ltb, eqb, List, [], ◌∷◌, refl, sym, ap, ◌∙◌, if◌then◌else◌, arith}
use Rattle.std.proofs.lemmas.Bool.{ltb-true, ltb-false, lt-ltb, le-ltb, eqb-false, eq-eqb}
use Rattle.gmon_data.specs.declared.hist.Hist.{Hist}
use Rattle.gmon_data.specs.Hists.{put_hist, hist_sum}
use Rattle.gmon_data.proofs.CounterLemmas.{pointwise-assoc, pointwise-comm}

-- two of one low address at once
pub put_twice : (k h : Hist) (hs : List Hist) → k.low ≡ h.low → put_hist (hist_sum k h) hs ≡ put_hist h (put_hist k hs)
put_twice k h [] same = let here = eq-eqb k.low h.low same in let not_less : ltb k.low h.low ≡ false = le-ltb k.low h.low (omega (arith, same)) in rw (not_less, here) refl
put_twice k h (x ∷ xs) same = by (ltb x.low k.low) (eqb x.low k.low) refl refl (put_twice k h xs same)
  where
    by : (b e : Bool) → ltb x.low k.low ≡ b → eqb x.low k.low ≡ e → put_hist (hist_sum k h) xs ≡ put_hist h (put_hist k xs)
        → (if b then x ∷ put_hist (hist_sum k h) xs else (if e then hist_sum x (hist_sum k h) ∷ xs else hist_sum k h ∷ x ∷ xs))
        ≡ put_hist h (if b then x ∷ put_hist k xs else (if e then hist_sum x k ∷ xs else k ∷ x ∷ xs))
    by b e lt eq others = grind (arith, pointwise-assoc)

-- below the first one
put_lowest : (a y : Hist) (ys : List Hist) → a.low < y.low → put_hist a (y ∷ ys) ≡ a ∷ y ∷ ys
put_lowest a y ys below = grind arith

-- two of two low addresses
pub put_swap : (a b : Hist) (hs : List Hist) → a.low < b.low → put_hist b (put_hist a hs) ≡ put_hist a (put_hist b hs)
put_swap a b [] below = rw (lt-ltb a.low b.low below) (sym (put_lowest a b [] below))
put_swap a b (x ∷ xs) below = by (ltb x.low a.low) (eqb x.low a.low) refl refl (put_swap a b xs below)
  where
    by : (c e : Bool) → ltb x.low a.low ≡ c → eqb x.low a.low ≡ e → put_hist b (put_hist a xs) ≡ put_hist a (put_hist b xs)
        → put_hist b (if c then x ∷ put_hist a xs else (if e then hist_sum x a ∷ xs else a ∷ x ∷ xs)) ≡ put_hist a (put_hist b (x ∷ xs))
    by true e lt eq others = grind arith
    by false true lt eq others = grind arith
    by false false lt eq others =
        let le = ltb-false x.low a.low lt in
        let ne = eqb-false x.low a.low eq in
        let above : a.low < x.low = omega (arith, le, ne) in
        rw (lt-ltb a.low b.low below) (high (ltb x.low b.low) (eqb x.low b.low) above)
      where
        high : (d f : Bool) → a.low < x.low
            → a ∷ (if d then x ∷ put_hist b xs else (if f then hist_sum x b ∷ xs else b ∷ x ∷ xs)) ≡ put_hist a (if d then x ∷ put_hist b xs else (if f then hist_sum x b ∷ xs else b ∷ x ∷ xs))
        high d f above = grind arith

sum_comm : (a b : Hist) → a.low ≡ b.low → a.high ≡ b.high → hist_sum a b ≡ hist_sum b a
sum_comm a b low high = λ i. record { low = low i; high = high i; counters = pointwise-comm a.counters b.counters i }

-- histograms of one low address, which have one high address, or of two
pub put_exchange : (a b : Hist) (hs : List Hist) → (a.low ≡ b.low → a.high ≡ b.high) → put_hist b (put_hist a hs) ≡ put_hist a (put_hist b hs)
put_exchange a b hs same = by (ltb a.low b.low) (ltb b.low a.low) refl refl
  where
    by : (l m : Bool) → ltb a.low b.low ≡ l → ltb b.low a.low ≡ m → put_hist b (put_hist a hs) ≡ put_hist a (put_hist b hs)
    by true m lt gt = put_swap a b hs (ltb-true a.low b.low lt)
    by false true lt gt = sym (put_swap b a hs (ltb-true b.low a.low gt))
    by false false lt gt =
        let le = ltb-false a.low b.low lt in
        let ge = ltb-false b.low a.low gt in
        let low : a.low ≡ b.low = omega (arith, le, ge) in
        sym (put_twice a b hs low) ∙ ap (λ (z : Hist). put_hist z hs) (sum_comm a b low (same low)) ∙ put_twice b a hs (sym low)
