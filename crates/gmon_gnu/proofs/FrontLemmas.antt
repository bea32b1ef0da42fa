-- What stands at the front of a text.
use Rattle.std.proofs.Common.{◌≡◌, ℕ, zero, suc, ◌*◌, ◌≤◌, Bool, false, ltb, leb, ◌&&◌, List, [], length, drop, length-drop, if◌then◌else◌, ap, subst, arith}
use Rattle.gp_base.specs.declared.records.Rec.{Rec}
use Rattle.gp_base.specs.declared.refusal.GmonRefusal.{GmonRefusal}
use Rattle.gp_base.specs.Bytes.{word_at}
use Rattle.gmon_gnu.specs.Reading.{Front, Refused, Found, body_front}

pub found_then : (b : Bool) (e : GmonRefusal) (f : Front) (r : Rec) (rest : List ℕ) → (if b then Refused e else f) ≡ Found r rest → (b ≡ false) × (f ≡ Found r rest)
found_then b e f r rest is = grind arith

rec_in : Rec → Front → Rec
rec_in d (Refused e) = d
rec_in d (Found r rest) = r

rest_in : Front → List ℕ
rest_in (Refused e) = []
rest_in (Found r rest) = rest

pub same_found : (r s : Rec) (rest more : List ℕ) → Found r rest ≡ Found s more → (r ≡ s) × (rest ≡ more)
unfolding rec_in rest_in
same_found r s rest more e = (ap (rec_in r) e, ap rest_in e)

no_longer : (rest more body : List ℕ) → rest ≡ more → length rest ≤ length body → length more ≤ length body
no_longer rest more body e le = subst (λ (l : List ℕ). length l ≤ length body) e le

-- what stands behind a record is no longer than its body
pub front_shorter : (len at tag : ℕ) (body : List ℕ) (r : Rec) (rest : List ℕ) → body_front len at tag body ≡ Found r rest → length rest ≤ length body
front_shorter len at zero body r rest is =
    let after = drop 1 (drop 15 (drop 16 body)) in
    let n = word_at body 8 in
    let a = found_then (ltb (length body) 32) _ _ r rest is in
    let b = found_then (ltb 0 n && leb (word_at body 4) (word_at body 0)) _ _ r rest a.1 in
    let d = found_then (ltb (length after) (n * 2)) _ _ r rest b.1 in
    no_longer (drop (n * 2) after) rest body (same_found _ r _ rest d.1).1 (omega (arith, length-drop (n * 2) after, length-drop 1 (drop 15 (drop 16 body)), length-drop 15 (drop 16 body), length-drop 16 body))
front_shorter len at (suc zero) body r rest is = grind arith
front_shorter len at (suc (suc zero)) body r rest is = grind (arith, length-drop)
front_shorter len at (suc (suc (suc tag))) body r rest is = absurd cc
