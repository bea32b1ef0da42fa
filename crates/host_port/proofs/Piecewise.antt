-- A piece goes out part by part.
use Rattle.std.proofs.Common.{◌≡◌, ℕ, ◌<◌, eqb, Bool, true, false, cond, List, [], ◌∷◌, ◌++◌, length, take, drop, Option, Some, None, Ok, Err as Error, refl, sym, ap, subst, ◌∙◌, append_assoc, arith, length-append}
use Rattle.std.specs.Prelude.{bytes_eq}
use Rattle.std.proofs.lemmas.List.{append-nil, take-append-drop, take_at}
use Rattle.host_port.specs.Act.{Act, Write, Out, Err, File, with_more, files_with}
use Rattle.host_port.specs.Outside.{Outside, Did, KeepsInput, KeepsCounts}
use Rattle.host_port.specs.Host.{Takes, TakesAll}
use Rattle.host_port.proofs.Laws.{Did-then, Did-alike, AreAlike, Did-nothing, KeepsInput-then, KeepsInput-same, KeepsCounts-same, KeepsCounts-then}

more-nil : (b : Bool) (f : File) (fs rest : List File) → rest ≡ fs → cond b ((f.0, f.1 ++ []) ∷ fs) (f ∷ rest) ≡ f ∷ fs
more-nil true f fs rest e = ap (λ (v : List ℕ). (f.0, v) ∷ fs) (append-nil f.1)
more-nil false f fs rest e = ap (λ (v : List File). f ∷ v) e

with_more-nil : (name : List ℕ) (files : List File) → with_more name [] files ≡ files
with_more-nil name [] = refl
with_more-nil name (f ∷ fs) = more-nil (bytes_eq f.0 name) f fs (with_more name [] fs) (with_more-nil name fs)

more-twice : (b : Bool) (name x y : List ℕ) (f : File) (fs : List File) → b ≡ bytes_eq f.0 name → with_more name y (with_more name x fs) ≡ with_more name (x ++ y) fs
    → with_more name y (cond b ((f.0, f.1 ++ x) ∷ fs) (f ∷ with_more name x fs)) ≡ cond b ((f.0, f.1 ++ (x ++ y)) ∷ fs) (f ∷ with_more name (x ++ y) fs)
more-twice true name x y f fs e more = rw (← e) (ap (λ (v : List ℕ). (f.0, v) ∷ fs) (append_assoc f.1 x y))
more-twice false name x y f fs e more = rw (← e) (ap (λ (v : List File). f ∷ v) more)

with_more-twice : (name x y : List ℕ) (files : List File) → with_more name y (with_more name x files) ≡ with_more name (x ++ y) files
with_more-twice name x y [] = refl
with_more-twice name x y (f ∷ fs) = more-twice (bytes_eq f.0 name) name x y f fs refl (with_more-twice name x y fs)

written-nil : (w : Option (List ℕ)) (files : List File) → files_with [] w files ≡ files
written-nil None files = refl
written-nil (Some name) files = with_more-nil name files

written-twice : (w : Option (List ℕ)) (x y : List ℕ) (files : List File) → files_with y w (files_with x w files) ≡ files_with (x ++ y) w files
written-twice None x y files = refl
written-twice (Some name) x y files = with_more-twice name x y files

-- Acts of one kind, on parts of a piece one after the other, are one act on all of it.
pub record IsPiecewise (act : List ℕ → Act) : Type 0 where
  pub nothing : AreAlike [] (act [] ∷ [])
  pub join : (x y : List ℕ) → AreAlike (act x ∷ act y ∷ []) (act (x ++ y) ∷ [])

pub write_piecewise : IsPiecewise Write
write_piecewise = search (written-nil, written-twice)

pub out_piecewise : IsPiecewise Out
out_piecewise = search append_assoc

pub err_piecewise : IsPiecewise Err
err_piecewise = search append_assoc

-- two parts that follow one another
pub Did-join : (act : List ℕ → Act) → IsPiecewise act → (x y : List ℕ) (a b c : Outside) → Did (act x ∷ []) a b → Did (act y ∷ []) b c → Did (act (x ++ y) ∷ []) a c
Did-join act p x y a b c first second =
    Did-alike (act x ∷ act y ∷ []) (act (x ++ y) ∷ []) a c (p.join x y) (Did-then (act x ∷ []) (act y ∷ []) a b c first second)

-- an act on no bytes is none
pub Did-none : (act : List ℕ → Act) → IsPiecewise act → (x : Outside) → Did (act [] ∷ []) x x
Did-none act p x = Did-alike [] (act [] ∷ []) x x p.nothing (Did-nothing x)

-- how far a loop over the parts of a piece has come
pub record Along (act : List ℕ → Act) (piece rest : List ℕ) (old now : Outside) : Type 0 where
  pub front : List ℕ
  pub parts : front ++ rest ≡ piece
  pub did : Did (act front ∷ []) old now
  pub input : KeepsInput old now
  pub counts : KeepsCounts old now

pub along_start : (act : List ℕ → Act) → IsPiecewise act → (piece : List ℕ) (x : Outside) → Along act piece piece x x
along_start act p piece x = record {
  front = [];
  parts = refl;
  did = Did-none act p x;
  input = KeepsInput-same x;
  counts = KeepsCounts-same x;
}

pub along_more : {E : Type 0} (act : List ℕ → Act) → IsPiecewise act → (piece rest : List ℕ) (n : ℕ) (old mid new : Outside) → Along act piece rest old mid → Takes {E = E} act rest mid new (Ok n) → KeepsCounts mid new → Along act piece (drop n rest) old new
along_more act p piece rest n old mid new far taken kept = record {
  front = far.front ++ take n rest;
  parts = append_assoc far.front (take n rest) (drop n rest) ∙ ap (λ (v : List ℕ). far.front ++ v) (take-append-drop n rest) ∙ far.parts;
  did = Did-join act p far.front (take n rest) old mid new far.did taken.done;
  input = KeepsInput-then old mid new far.input taken.input;
  counts = KeepsCounts-then old mid new far.counts kept;
}

-- a prefix of it, where the next part failed
pub along_fail : {T E : Type 0} (act : List ℕ → Act) → IsPiecewise act → (piece rest : List ℕ) (old mid new : Outside) (e : E) → Along act piece rest old mid → 0 < length rest → Takes act rest mid new (Error e) → TakesAll {T = T} act piece old new (Error e)
along_fail act p piece rest old mid new e far some failed = record {
  done = tt;
  part =
      let front_is : take (length far.front) piece ≡ far.front = ap (take (length far.front)) (sym far.parts) ∙ take_at far.front rest (length far.front) refl in
      let shorter : length far.front < length piece = omega (arith, ap length far.parts, length-append far.front rest) in
      let did : Did (act far.front ∷ []) old new = Did-alike (act far.front ∷ [] ++ []) (act far.front ∷ []) old new (record { disk = λ d. refl; out = refl; err = refl; writing = λ w. refl; file_changes = λ n. refl }) (Did-then (act far.front ∷ []) [] old mid new far.did failed.failed) in
      (length far.front, shorter, subst (λ (v : List ℕ). Did (act v ∷ []) old new) (sym front_is) did);
  input = KeepsInput-then old mid new far.input failed.input;
}

pub some_left : (rest : List ℕ) (b : Bool) → b ≡ eqb (length rest) 0 → b ≡ false → 0 < length rest
some_left [] b e f = absurd cc
some_left (x ∷ xs) b e f = omega arith
